-- The register of `Crc` is the remainder of `Division`.
use mathlib.Core.Path.{◌≡◌, refl, sym, ap, ap₂, ◌∙◌, subst}
use mathlib.Core.List.{List, [], ◌∷◌}
use Prim.Native.Nat.{ℕ, suc, ◌+◌, ◌-◌, ◌*◌, ◌/◌, ◌%◌, ◌^◌, ◌≤◌, ◌<◌}
use lib.Pow.{pow_pos}
use native.Mathlib.Nat.{mul_assoc, mul-one, zero-mul, zero-add, mod-lt}
use native.Mathlib.Omega.{arith}
use borrow.Author.Tests.{lt-ltb, le-ltb}
use lib.ListN.{length, get_or, take, drop, length-drop, take-append-drop}
use Rattle.std.specs.List.{fold}
use lib.Bits.{bit_xor, xor_block, xor_comm, xor_lt, xor_zero_r}
use native.Mathlib.Decide.{dec_lt}
use Rattle.crc.specs.Crc.{polynomial, times_x, crc_byte, crc}
use Rattle.crc.specs.Division.{generator, Remainder, followed, dividend, CrcOfData, CrcIsRemainder}
use Rattle.crc.specs.Inner.Remainders.{reduce, rem_bits, rem, Same}
use Rattle.crc.specs.Inner.Folding.{with_rest, bytes_at, with_register, crc_of}
use Rattle.crc.proofs.Xor.{xor_assoc, xor_scale, xor_parts, mul_swap, shift_shift}
use Rattle.crc.proofs.Remainders.{reduce_small, rem_lt, rem_small, rem_double, shifted}
use Rattle.crc.proofs.Remainders.{same, back, then, same_rem, same_xor, same_right, same_shift}
use Rattle.crc.proofs.Quotients.{rem_is_remainder}
use Rattle.crc.proofs.Pieces.{shift_piece, followed_plus, followed_from, followed-first, followed-append}

-- ---- one bit

-- If x^16 falls out, subtracting the generator leaves the other bits plus the polynomial.
reduce_large : (r : ℕ) → 32768 ≤ r → r < 65536 → reduce (r * 2) ≡ bit_xor ((r - 32768) * 2) polynomial
unfolding reduce
reduce_large r l h =
    let low : r * 2 ≡ 1 * 65536 + (r - 32768) * 2 = omega arith in
    let top : r * 2 / 65536 ≡ 1 = omega arith in
    ap₂ (λ (x q : ℕ). bit_xor (q * generator) x) low top
    ∙ xor_comm generator (1 * 65536 + (r - 32768) * 2)
    ∙ xor_block 16 1 1 ((r - 32768) * 2) polynomial (omega arith) (omega arith)
    ∙ zero-add (bit_xor ((r - 32768) * 2) polynomial)

times_x_lem : (r : ℕ) → r < 65536 → times_x r ≡ rem (r * 2)
unfolding times_x
times_x_lem r h = by_size (dec_lt r 32768) ∙ sym (rem_double r ∙ ap (λ (x : ℕ). reduce (x * 2)) (rem_small r h))
  where
    by_size : Dec (r < 32768) → times_x r ≡ reduce (r * 2)
    by_size (yes l) = rw (lt-ltb r 32768 l) (sym (reduce_small {n = r * 2} (omega arith)))
    by_size (no l) = rw (le-ltb r 32768 (omega (arith, l))) (sym (reduce_large r (omega (arith, l)) h))

-- ---- one byte

-- The byte is added to the register's high byte, and the sum times x^8 is divided.
pub crc_byte_lem : (r b : ℕ) → r < 65536 → b < 256 → crc_byte r b ≡ rem (bit_xor (b * 256) r * 256)
unfolding crc_byte
crc_byte_lem r b hr hb = eight (bit_xor (b * 256) r) (xor_lt 16 (b * 256) r (omega arith) hr)
  where
    eight : (x : ℕ) → x < 65536
        → times_x (times_x (times_x (times_x (times_x (times_x (times_x (times_x x))))))) ≡ rem (x * 256)
    eight x h = rw (times_x_lem x h, next 1, next 2, next 3, next 4, next 5, next 6, next 7)
      where
        next : (k : ℕ) → times_x (rem (x * 2 ^ k)) ≡ rem (x * 2 ^ suc k)
        next k =
            times_x_lem (rem (x * 2 ^ k)) (rem_lt (x * 2 ^ k))
            ∙ (same_shift 1 (back (same_rem (x * 2 ^ k)))).eq
            ∙ ap rem (sym (shifted x k))

pub crc_byte_lt : (r b : ℕ) → r < 65536 → b < 256 → crc_byte r b < 65536
crc_byte_lt r b hr hb =
    subst (λ (x : ℕ). x < 65536) (sym (crc_byte_lem r b hr hb)) (rem_lt (bit_xor (b * 256) r * 256))

-- ---- all bytes

dividend_nil : (r : ℕ) → dividend r [] ≡ r
unfolding dividend followed
dividend_nil r = xor_zero_r (r * 1) ∙ mul-one r

-- The first byte can be divided first.
dividend-cons : (r b : ℕ) (bs : List ℕ) → dividend r (b ∷ bs) ≡ dividend (bit_xor (b * 256) r * 256) bs
unfolding dividend followed
dividend-cons r b bs =
    ap₂ bit_xor (shift_piece 8 r (length bs))
    (ap (λ (x : ℕ). x * 65536) (followed-first 8 b bs) ∙ xor_scale 16 (b * 2 ^ m) rest)
    ∙ sym (xor_assoc (r * 256 * 2 ^ m) (b * 2 ^ m * 65536) (rest * 65536))
    ∙ ap (λ (x : ℕ). bit_xor x (rest * 65536))
    (xor_comm (r * 256 * 2 ^ m) (b * 2 ^ m * 65536)
    ∙ ap (λ (x : ℕ). bit_xor x (r * 256 * 2 ^ m))
    (mul_swap b (2 ^ m) 65536 ∙ ap (λ (x : ℕ). x * 2 ^ m) (sym (mul_assoc b 256 256)))
    ∙ sym (ap (λ (x : ℕ). x * 2 ^ m) (xor_scale 8 (b * 256) r) ∙ xor_scale m (b * 256 * 256) (r * 256)))
  where
    m : ℕ
    m = 8 * length bs

    rest : ℕ
    rest = followed 8 0 bs

dividend_same : {r s : ℕ} (bs : List ℕ) → Same r s → Same (dividend r bs) (dividend s bs)
unfolding dividend
dividend_same bs e = same_xor (same_shift (8 * length bs) e) (same refl)

pub crc-rem : (r : ℕ) (bs : List ℕ) → r < 65536 → ((i : ℕ) → get_or bs i 0 < 256) → crc r bs ≡ rem (dividend r bs)
unfolding crc
crc-rem r [] hr h = sym (ap rem (dividend_nil r) ∙ rem_small r hr)
crc-rem r (b ∷ bs) hr h =
    crc-rem (crc_byte r b) bs (crc_byte_lt r b hr (h 0)) (λ i. h (suc i))
    ∙ ap (λ (x : ℕ). rem (dividend x bs)) (crc_byte_lem r b hr (h 0))
    ∙ (dividend_same bs (back (same_rem (bit_xor (b * 256) r * 256)))).eq
    ∙ ap rem (sym (dividend-cons r b bs))

pub crc_is_remainder : CrcIsRemainder
crc_is_remainder r bs hr h =
    subst (Remainder (dividend r bs)) (sym (crc-rem r bs hr h)) (rem_is_remainder (dividend r bs))

pub crc_of_data : CrcOfData
unfolding dividend
crc_of_data bs h =
    subst (λ (n : ℕ). Remainder (bit_xor n (followed 8 0 bs * 2 ^ 16)) (crc 0 bs)) (zero-mul (2 ^ (8 * length bs)))
    (crc_is_remainder 0 bs (omega arith) h)

-- ---- registers of polynomials

pub crc_of_same : {a b : ℕ} → Same a b → crc_of a ≡ crc_of b
crc_of_same s = (same_shift 16 s).eq

crc_of_nil : crc_of 0 ≡ 0
unfolding rem rem_bits
crc_of_nil = refl

-- The lowest byte of a polynomial enters last.
crc_of_last : (n : ℕ) → crc_byte (crc_of (n / 256)) (n % 256) ≡ crc_of n
crc_of_last n =
    crc_byte_lem (crc_of a) b (rem_lt (a * 65536)) (mod-lt n (pow_pos 8))
    ∙ ap rem (xor_scale 8 (b * 256) (crc_of a) ∙ ap (λ (x : ℕ). bit_xor x (crc_of a * 256)) (mul_assoc b 256 256))
    ∙ (then (same_right (b * 65536) (same_shift 8 (back (same_rem (a * 65536))))) (same whole)).eq
  where
    a : ℕ
    a = n / 256

    b : ℕ
    b = n % 256

    whole : bit_xor (b * 65536) (a * 65536 * 256) ≡ n * 65536
    whole =
        xor_comm (b * 65536) (a * 65536 * 256)
        ∙ ap (λ (x : ℕ). bit_xor x (b * 65536)) (mul_swap a 65536 256)
        ∙ sym (xor_scale 16 (a * 256) b)
        ∙ ap (λ (x : ℕ). x * 65536) (xor_parts 8 n)

-- Five bytes of a polynomial, entered one after the other.
pub crc_of_five : (n : ℕ) → n < 2 ^ 40
    → crc 0 (n / 4294967296 % 256 ∷ n / 16777216 % 256 ∷ n / 65536 % 256 ∷ n / 256 % 256 ∷ n % 256 ∷ []) ≡ crc_of n
unfolding crc
crc_of_five n h =
    let p : n / 65536 ≡ a / 256 = omega arith in
    let q : n / 16777216 ≡ b / 256 = omega arith in
    let r : n / 4294967296 ≡ c / 256 = omega arith in
    rw (p, q, r, first, crc_of_last c, crc_of_last b, crc_of_last a, crc_of_last n) refl
  where
    a : ℕ
    a = n / 256

    b : ℕ
    b = a / 256

    c : ℕ
    c = b / 256

    first : crc_byte 0 (c / 256 % 256) ≡ crc_of (c / 256)
    first =
        let top : c / 256 / 256 ≡ 0 = omega arith in
        ap (λ (x : ℕ). crc_byte x (c / 256 % 256)) (sym (ap crc_of top ∙ crc_of_nil)) ∙ crc_of_last (c / 256)

dividend_of : (n : ℕ) (bs : List ℕ) → dividend (n * 2 ^ 16) bs ≡ followed 8 n bs * 2 ^ 16
unfolding dividend
dividend_of n bs =
    ap (λ (x : ℕ). bit_xor x (followed 8 0 bs * 2 ^ 16)) (mul_swap n (2 ^ 16) (2 ^ (8 * length bs)))
    ∙ sym (xor_scale 16 (n * 2 ^ (8 * length bs)) (followed 8 0 bs))
    ∙ ap (λ (x : ℕ). x * 2 ^ 16) (sym (followed_from 8 n bs))

-- Bytes that enter the register of a polynomial follow that polynomial.
pub crc_of_followed : (r n : ℕ) (bs : List ℕ) → ((i : ℕ) → get_or bs i 0 < 256) → r ≡ crc_of n
    → crc r bs ≡ crc_of (followed 8 n bs)
crc_of_followed r n bs h e =
    crc-rem r bs (subst (λ (x : ℕ). x < 65536) (sym e) (rem_lt (n * 2 ^ 16))) h
    ∙ (dividend_same bs (then (same e) (back (same_rem (n * 2 ^ 16))))).eq
    ∙ ap rem (dividend_of n bs)

-- A register before the first byte is added to the first two of k bytes.
pub crc_of_register : (k r : ℕ) (s : List ℕ) → 2 ≤ k → k ≤ length s → r < 65536 → ((i : ℕ) → get_or s i 0 < 256)
    → crc_of (with_rest (with_register r k s) s k) ≡ crc r s
unfolding dividend
crc_of_register k r s l h hr hs =
    ap rem
    (ap (λ (x : ℕ). x * 2 ^ 16) (followed_plus 8 (bytes_at s 0 k) (r * 2 ^ (8 * k - 16)) (drop k s))
    ∙ xor_scale 16 (followed 8 (bytes_at s 0 k) (drop k s)) (r * 2 ^ (8 * k - 16) * 2 ^ m)
    ∙ ap₂ (λ (x y : ℕ). bit_xor (x * 2 ^ 16) y) all head
    ∙ xor_comm (followed 8 0 s * 2 ^ 16) (r * 2 ^ (8 * length s)))
    ∙ sym (crc-rem r s hr hs)
  where
    m : ℕ
    m = 8 * length (drop k s)

    all : followed 8 (bytes_at s 0 k) (drop k s) ≡ followed 8 0 s
    all = sym (followed-append 8 0 (take k s) (drop k s)) ∙ ap (followed 8 0) (take-append-drop k s)

    bits : 8 * k - 16 + m + 16 ≡ 8 * length s
    bits = let g : length (drop k s) ≡ length s - k = length-drop k s in omega arith

    head : r * 2 ^ (8 * k - 16) * 2 ^ m * 2 ^ 16 ≡ r * 2 ^ (8 * length s)
    head =
        ap (λ (x : ℕ). x * 2 ^ 16) (shift_shift r (8 * k - 16) m)
        ∙ shift_shift r (8 * k - 16 + m) 16
        ∙ ap (λ (n : ℕ). r * 2 ^ n) bits

-- The register after all bytes, as a fold.
pub crc_fold : (r : ℕ) (bs : List ℕ) → fold crc_byte r bs ≡ crc r bs
unfolding crc
crc_fold r [] = refl
crc_fold r (b ∷ bs) = crc_fold (crc_byte r b) bs
