-- These laws show that the bits of a block are those of its polynomial, `followed 8 0`. So blocks that differ within
-- some consecutive bits differ by a short polynomial, times a power of x.
use mathlib.Core.Path.{◌≡◌, refl, sym, ap, ap₂, ◌∙◌}
use mathlib.Core.List.{List, [], ◌∷◌}
use Prim.Native.Nat.{ℕ, zero, suc, ◌+◌, ◌-◌, ◌*◌, ◌/◌, ◌%◌, ◌^◌, ◌≤◌, ◌<◌}
use native.Mathlib.Nat.{add-zero, zero-add, zero-mul, mod-lt, mod-one, div-one, div-eq_of_lt, lt_of_lt_of_le}
use native.Mathlib.Decide.{ℕ_discrete, dec_lt}
use native.Mathlib.Omega.{arith}
use lib.Arith.{bin_ind, digits_lt}
use lib.Pow.{pow_pos, pow_mono, pow-add, shr-shr, split, high, low, mod-pow-add, field, mod-mod-pow}
use lib.Bits.{bit_xor, xor_shifted, xor_self, xor_lt, xor_shr, xor_mod}
use lib.ListN.{length, get_or, get_or-eq_default}
use Rattle.crc.specs.Division.{followed}
use Rattle.crc.proofs.Pieces.{followed-first}
use Rattle.guard.specs.Guards.{Bytes}
use Rattle.audit.specs.Bursts.{bit_at, Burst}

-- ---- the bits of a number

-- A number is 0 if all its bits are.
no_bits : (n : ℕ) → ((j : ℕ) → n / 2 ^ j % 2 ≡ 0) → n ≡ 0
no_bits = bin_ind (λ (n : ℕ). ((j : ℕ) → n / 2 ^ j % 2 ≡ 0) → n ≡ 0) (λ h. refl) step
  where
    step : (n : ℕ) → (((j : ℕ) → n / 2 / 2 ^ j % 2 ≡ 0) → n / 2 ≡ 0)
        → ((j : ℕ) → n / 2 ^ j % 2 ≡ 0) → n ≡ 0
    step n ih h =
        let half : n / 2 ≡ 0 = ih (λ j. ap (λ (x : ℕ). x % 2) (shr-shr n 1 j) ∙ h (1 + j)) in
        let odd : n % 2 ≡ 0 = ap (λ (x : ℕ). x % 2) (sym (div-one n)) ∙ h 0 in
        omega arith

-- If no bit below bit k is set, the number is a multiple of x^k.
no_low_bits : (k n : ℕ) → ((j : ℕ) → j < k → n / 2 ^ j % 2 ≡ 0) → n % 2 ^ k ≡ 0
no_low_bits zero n h = mod-one n
no_low_bits (suc k) n h =
    let next : suc k ≡ 1 + k = omega arith in
    ap (λ (i : ℕ). n % 2 ^ i) next
    ∙ mod-pow-add n 1 k
    ∙ ap₂ (λ (x y : ℕ). x * 2 ^ k + y) (h k (omega arith)) (no_low_bits k n (λ j l. h j (omega arith)))
    ∙ omega arith

-- If no bit from bit k on is set, the number is below x^k.
no_high_bits : (k n : ℕ) → ((j : ℕ) → k ≤ j → n / 2 ^ j % 2 ≡ 0) → n < 2 ^ k
no_high_bits k n h =
    let none : n / 2 ^ k ≡ 0 =
    no_bits (n / 2 ^ k) (λ j. ap (λ (x : ℕ). x % 2) (shr-shr n k j) ∙ h (k + j) (omega arith)) in
    let rest : n % 2 ^ k ≡ n = rw (none, zero-mul (2 ^ k), zero-add (n % 2 ^ k)) at (split n k) in
    omega (arith, rest, mod-lt n (pow_pos k))

-- ---- the bits of a block

-- The first byte is the highest.
first_byte : (b : ℕ) (bs : List ℕ) → followed 8 0 bs < 2 ^ (8 * length bs)
    → followed 8 0 (b ∷ bs) ≡ b * 2 ^ (8 * length bs) + followed 8 0 bs
first_byte b bs h = followed-first 8 b bs ∙ xor_shifted b (8 * length bs) (followed 8 0 bs) h

-- The polynomial of a block is below x to the number of its bits.
block_lt : (bs : List ℕ) → Bytes bs → followed 8 0 bs < 2 ^ (8 * length bs)
unfolding followed
block_lt [] h = omega arith
block_lt (b ∷ bs) h =
    let rest = block_lt bs (λ i. h (suc i)) in
    let bits : 8 * suc (length bs) ≡ 8 + 8 * length bs = omega arith in
    rw (bits, pow-add 2 8 (8 * length bs), first_byte b bs rest) (digits_lt (h 0) rest)

-- The bits of a number do not depend on what is added above them.
low_bit : (a m j v : ℕ) → j < m → v < 2 ^ m → (a * 2 ^ m + v) / 2 ^ j % 2 ≡ v / 2 ^ j % 2
low_bit a m j v l h =
    sym (field x 1 j)
    ∙ ap (λ (y : ℕ). y / 2 ^ j) (sym cut ∙ ap (λ (y : ℕ). y % 2 ^ (1 + j)) (low a m h))
    ∙ field v 1 j
  where
    x : ℕ
    x = a * 2 ^ m + v

    cut : x % 2 ^ m % 2 ^ (1 + j) ≡ x % 2 ^ (1 + j)
    cut =
        let parts : m ≡ (m - (1 + j)) + (1 + j) = omega arith in
        ap (λ (i : ℕ). x % 2 ^ i % 2 ^ (1 + j)) parts ∙ mod-mod-pow x (m - (1 + j)) (1 + j)

-- Bit n of a block, counted from the high end, is the bit of its polynomial with as many bits below it as are left.
block_bit : (bs : List ℕ) → Bytes bs → (n j : ℕ) → j + n + 1 ≡ 8 * length bs → followed 8 0 bs / 2 ^ j % 2 ≡ bit_at bs n
block_bit [] h n j e = absurd (omega arith)
block_bit (b ∷ bs) h n j e =
    ap (λ (x : ℕ). x / 2 ^ j % 2) (first_byte b bs rest)
    ∙ by_byte (block_bit bs (λ i. h (suc i)) (n - 8) j) (dec_lt n 8)
  where
    m : ℕ
    m = 8 * length bs

    v : ℕ
    v = followed 8 0 bs

    rest : v < 2 ^ m
    rest = block_lt bs (λ i. h (suc i))

    by_byte : (j + (n - 8) + 1 ≡ m → v / 2 ^ j % 2 ≡ bit_at bs (n - 8)) → Dec (n < 8)
        → (b * 2 ^ m + v) / 2 ^ j % 2 ≡ bit_at (b ∷ bs) n
    by_byte ih (yes l) =
        let place : j ≡ m + (7 - n) = omega arith in
        let byte : n / 8 ≡ 0 = omega arith in
        let bit : n % 8 ≡ n = omega arith in
        rw (byte, bit, place, ← (shr-shr (b * 2 ^ m + v) m (7 - n)), high b m rest)
    by_byte ih (no l) =
        let byte : n / 8 ≡ suc ((n - 8) / 8) = omega arith in
        let bit : n % 8 ≡ (n - 8) % 8 = omega arith in
        rw (byte, bit) (low_bit b m j v (omega arith) rest ∙ ih (omega arith))

-- After their end blocks of one length have the same bits: all read 0.
pub same_after_end : (xs ys : List ℕ) → length ys ≡ length xs → (n : ℕ) → 8 * length xs ≤ n → bit_at xs n ≡ bit_at ys n
same_after_end xs ys l n h =
    ap (λ (b : ℕ). b / 2 ^ (7 - n % 8) % 2) (past xs (omega arith) ∙ sym (past ys (omega (arith, l))))
  where
    past : (zs : List ℕ) → 8 * length zs ≤ n → get_or zs (n / 8) 0 ≡ 0
    past zs e = get_or-eq_default zs 0 (omega arith)

-- ---- the difference of two blocks

-- The polynomials of two blocks differ by one below x^width, times a power of x.
pub record ShortDifference (width : ℕ) (xs ys : List ℕ) : Type 0 where
  pub factor : ℕ
  pub power : ℕ
  pub sum : bit_xor (followed 8 0 xs) (followed 8 0 ys) ≡ factor * 2 ^ power
  pub short : factor < 2 ^ width

-- The two blocks have one length.
module _ (xs ys : List ℕ) (bx : Bytes xs) (by : Bytes ys) (l : length ys ≡ length xs) where
  -- Blocks with the same polynomial have the same bits.
  pub same_bits : followed 8 0 xs ≡ followed 8 0 ys → (n : ℕ) → bit_at xs n ≡ bit_at ys n
  same_bits e n = go (dec_lt n (8 * length xs))
    where
      go : Dec (n < 8 * length xs) → bit_at xs n ≡ bit_at ys n
      go (yes h) =
          let j = 8 * length xs - (n + 1) in
          sym (block_bit xs bx n j (omega arith))
          ∙ ap (λ (x : ℕ). x / 2 ^ j % 2) e
          ∙ block_bit ys by n j (omega (arith, l))
      go (no h) = same_after_end xs ys l n (omega (arith, h))

  -- The sum of the two polynomials is also their difference.
  difference : ℕ
  difference = bit_xor (followed 8 0 xs) (followed 8 0 ys)

  -- A bit of the difference is 0 if the two blocks have the same bit there, or if it is above all their bits.
  bit_zero : (j : ℕ) → ((n : ℕ) → j + n + 1 ≡ 8 * length xs → bit_at xs n ≡ bit_at ys n) → difference / 2 ^ j % 2 ≡ 0
  unfolding difference
  bit_zero j same = go (dec_lt j (8 * length xs))
    where
      small : difference < 2 ^ (8 * length xs)
      small = xor_lt (8 * length xs) (followed 8 0 xs) (followed 8 0 ys) (block_lt xs bx) (rw (← l) (block_lt ys by))

      go : Dec (j < 8 * length xs) → difference / 2 ^ j % 2 ≡ 0
      go (yes h) =
          let n = 8 * length xs - (j + 1) in
          ap (λ (x : ℕ). x % 2) (xor_shr (followed 8 0 xs) (followed 8 0 ys) j)
          ∙ xor_mod (followed 8 0 xs / 2 ^ j) (followed 8 0 ys / 2 ^ j) 1
          ∙ ap₂ bit_xor (block_bit xs bx n j (omega arith)) (block_bit ys by n j (omega (arith, l)))
          ∙ ap (λ (b : ℕ). bit_xor b (bit_at ys n)) (same n (omega arith))
          ∙ xor_self (bit_at ys n)
      go (no h) = ap (λ (x : ℕ). x % 2) (div-eq_of_lt (lt_of_lt_of_le small (pow_mono (omega (arith, h)))))

-- Blocks that differ by a burst have the same bits outside of it.
outside : {width : ℕ} {xs ys : List ℕ} (b : Burst width xs ys) (n : ℕ) → (b.start ≤ n → n < b.start + width → ⊥)
    → bit_at xs n ≡ bit_at ys n
outside {width} {xs} {ys} b n h = go (ℕ_discrete (bit_at xs n) (bit_at ys n))
  where
    go : Dec (bit_at xs n ≡ bit_at ys n) → bit_at xs n ≡ bit_at ys n
    go (yes e) = e
    go (no d) = let w = b.within n d in absurd (h w.0 w.1)

-- Blocks that differ by a burst differ by a polynomial below x^width, times x for each bit after those `width` bits.
pub burst_short : (width : ℕ) (xs ys : List ℕ) → Bytes xs → Bytes ys → Burst width xs ys → ShortDifference width xs ys
unfolding difference
burst_short width xs ys bx by b = record {
  factor = d / 2 ^ k;
  power = k;
  sum = sym (split d k) ∙ ap (λ (x : ℕ). d / 2 ^ k * 2 ^ k + x) below ∙ add-zero (d / 2 ^ k * 2 ^ k);
  short = no_high_bits width (d / 2 ^ k) (λ j h. ap (λ (x : ℕ). x % 2) (shr-shr d k j) ∙ above j h);
}
  where
    k : ℕ
    k = 8 * length xs - (b.start + width)

    d : ℕ
    d = difference xs ys bx by b.lengths

    below : d % 2 ^ k ≡ 0
    below = no_low_bits k d (λ j h. bit_zero xs ys bx by b.lengths j (λ n e. outside b n (λ p q. omega arith)))

    above : (j : ℕ) → width ≤ j → d / 2 ^ (k + j) % 2 ≡ 0
    above j h = bit_zero xs ys bx by b.lengths (k + j) (λ n e. outside b n (λ p q. omega arith))
