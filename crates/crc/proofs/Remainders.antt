-- The remainder is linear, is below x^16, and goes with multiplication by x^k.
use mathlib.Core.Path.{◌≡◌, refl, sym, ap, ap₂, ◌∙◌, subst}
use Prim.Native.Nat.{ℕ, zero, suc, ◌*◌, ◌/◌, ◌%◌, ◌^◌, ◌≤◌, ◌<◌}
use native.Mathlib.Nat.{not-suc-le-zero, le_refl, mul_assoc, mul-one, pow-suc}
use native.Mathlib.Decide.{le_ind}
use native.Mathlib.Omega.{arith}
use lib.Arith.{bin_ind, half_le}
use lib.Bits.{bit_xor, xor_zero_r, xor_shr, xor_mod, xor_lt}
use Rattle.crc.specs.Division.{generator}
use Rattle.crc.specs.Inner.Remainders.{reduce, bring_down, rem_bits, rem, Same}
use Rattle.crc.proofs.Xor.{Bit, off, on, bit_below, xor_swap, xor_scale, xor_parts}

-- ---- one step of the division

times_generator : {a b : ℕ} → Bit a → Bit b → bit_xor a b * generator ≡ bit_xor (a * generator) (b * generator)
times_generator off off = refl
times_generator off on = refl
times_generator on off = refl
times_generator on on = refl

-- Whether x^16 is in a number below x^17.
pub top_bit : {n : ℕ} → n < 131072 → Bit (n / 65536)
top_bit {n} h = bit_below (n / 65536) (omega arith)

reduce-xor : {m n : ℕ} → m < 131072 → n < 131072 → reduce (bit_xor m n) ≡ bit_xor (reduce m) (reduce n)
unfolding reduce
reduce-xor {m} {n} hm hn =
    ap (λ (q : ℕ). bit_xor (q * generator) (bit_xor m n)) (xor_shr m n 16)
    ∙ ap (λ (q : ℕ). bit_xor q (bit_xor m n)) (times_generator (top_bit hm) (top_bit hn))
    ∙ xor_swap (m / 65536 * generator) (n / 65536 * generator) m n

pub reduce_small : {n : ℕ} → n < 65536 → reduce n ≡ n
unfolding reduce
reduce_small {n} h =
    let e : n / 65536 ≡ 0 = omega arith in
    ap (λ (q : ℕ). bit_xor (q * generator) n) e

reduce_lt : {n : ℕ} → n < 131072 → reduce n < 65536
unfolding reduce
reduce_lt {n} h =
    let e : reduce n / 65536 ≡ 0 = xor_shr (n / 65536 * generator) n 16 ∙ gone (top_bit h) in
    omega arith
  where
    gone : {a : ℕ} → Bit a → bit_xor (a * generator / 65536) a ≡ 0
    gone off = refl
    gone on = refl

-- ---- long division

one_step_more : (steps n : ℕ) → n ≤ steps → rem_bits (suc steps) n ≡ rem_bits steps n
unfolding rem_bits
one_step_more zero zero h = refl
one_step_more zero (suc n) h = absurd (not-suc-le-zero h)
one_step_more (suc steps) zero h = refl
one_step_more (suc steps) (suc n) h =
    ap (λ (r : ℕ). reduce (bring_down r (suc n))) (one_step_more steps (suc n / 2) (half_le h))

enough_steps : (steps n : ℕ) → n ≤ steps → rem_bits steps n ≡ rem n
unfolding rem
enough_steps steps n h =
    le_ind (λ (m : ℕ). rem_bits m n ≡ rem_bits n n) refl (λ m l e. one_step_more m n l ∙ e) steps h

-- The next bit is brought down.
pub rem_step : (n : ℕ) → rem n ≡ reduce (bring_down (rem (n / 2)) n)
unfolding rem rem_bits reduce
rem_step zero = refl
rem_step (suc n) =
    ap (λ (r : ℕ). reduce (bring_down r (suc n))) (enough_steps n (suc n / 2) (half_le (le_refl (suc n))))

rem_zero : rem 0 ≡ 0
unfolding rem rem_bits
rem_zero = refl

pub bring_down_lt : {r : ℕ} (n : ℕ) → r < 65536 → bring_down r n < 131072
bring_down_lt {r} n h = xor_lt 17 (r * 2) (n % 2) (omega arith) (omega arith)

pub rem_lt : (n : ℕ) → rem n < 65536
rem_lt =
    bin_ind (λ (n : ℕ). rem n < 65536) (subst (λ (r : ℕ). r < 65536) (sym rem_zero) (omega arith))
    (λ n ih. subst (λ (r : ℕ). r < 65536) (sym (rem_step n)) (reduce_lt (bring_down_lt n ih)))

pub rem_small : (n : ℕ) → n < 65536 → rem n ≡ n
rem_small =
    bin_ind (λ (n : ℕ). n < 65536 → rem n ≡ n) (λ h. rem_zero)
    (λ n ih h.
    rem_step n
    ∙ ap reduce
    (ap (λ (r : ℕ). bring_down r n) (ih (omega arith)) ∙ xor_parts 1 n)
    ∙ reduce_small h)

-- The remainder of a sum is the sum of the remainders.
pub rem-xor : (a b : ℕ) → rem (bit_xor a b) ≡ bit_xor (rem a) (rem b)
rem-xor a =
    bin_ind (λ (n : ℕ). (b : ℕ) → rem (bit_xor n b) ≡ bit_xor (rem n) (rem b))
    (λ b. sym (ap (λ (r : ℕ). bit_xor r (rem b)) rem_zero))
    (λ n ih b.
    rem_step (bit_xor n b)
    ∙ ap reduce
    (ap₂ (λ (half odd : ℕ). bit_xor (rem half * 2) odd) (xor_shr n b 1) (xor_mod n b 1)
    ∙ ap (λ (r : ℕ). bit_xor (r * 2) (bit_xor (n % 2) (b % 2))) (ih (b / 2))
    ∙ ap (λ (r : ℕ). bit_xor r (bit_xor (n % 2) (b % 2))) (xor_scale 1 (rem (n / 2)) (rem (b / 2)))
    ∙ xor_swap (rem (n / 2) * 2) (rem (b / 2) * 2) (n % 2) (b % 2))
    ∙ reduce-xor (bring_down_lt n (rem_lt (n / 2))) (bring_down_lt b (rem_lt (b / 2)))
    ∙ sym (ap₂ bit_xor (rem_step n) (rem_step b)))
    a

-- ---- times x, and times x^k

pub rem_double : (a : ℕ) → rem (a * 2) ≡ reduce (rem a * 2)
rem_double a =
    let half : a * 2 / 2 ≡ a = omega arith in
    let even : a * 2 % 2 ≡ 0 = omega arith in
    rem_step (a * 2)
    ∙ ap reduce (ap₂ (λ (n odd : ℕ). bit_xor (rem n * 2) odd) half even ∙ xor_zero_r (rem a * 2))

-- a x^(k + 1) = a x^k x
pub shifted : (a k : ℕ) → a * 2 ^ suc k ≡ a * 2 ^ k * 2
shifted a k = ap (λ (x : ℕ). a * x) (pow-suc 2 k) ∙ sym (mul_assoc a (2 ^ k) 2)

-- ---- numbers with the same remainder

pub same : {a b : ℕ} → a ≡ b → Same a b
same e = record { eq = ap rem e }

pub back : {a b : ℕ} → Same a b → Same b a
back s = record { eq = sym s.eq }

pub then : {a b c : ℕ} → Same a b → Same b c → Same a c
then s t = record { eq = s.eq ∙ t.eq }

-- A number has the same remainder as its remainder.
pub same_rem : (a : ℕ) → Same a (rem a)
same_rem a = record { eq = sym (rem_small (rem a) (rem_lt a)) }

pub same_xor : {a b c d : ℕ} → Same a c → Same b d → Same (bit_xor a b) (bit_xor c d)
same_xor {a} {b} {c} {d} s t = record { eq = rem-xor a b ∙ ap₂ bit_xor s.eq t.eq ∙ sym (rem-xor c d) }

pub same_left : {a b : ℕ} (c : ℕ) → Same a b → Same (bit_xor a c) (bit_xor b c)
same_left c s = same_xor {b = c} {d = c} s (same refl)

pub same_right : {a b : ℕ} (c : ℕ) → Same a b → Same (bit_xor c a) (bit_xor c b)
same_right c s = same_xor {a = c} {c = c} (same refl) s

pub same_shift : {a b : ℕ} (k : ℕ) → Same a b → Same (a * 2 ^ k) (b * 2 ^ k)
same_shift {a} {b} k s = record { eq = go k }
  where
    go : (k : ℕ) → rem (a * 2 ^ k) ≡ rem (b * 2 ^ k)
    go zero = ap rem (mul-one a) ∙ s.eq ∙ sym (ap rem (mul-one b))
    go (suc k) =
        ap rem (shifted a k)
        ∙ rem_double (a * 2 ^ k)
        ∙ ap (λ (r : ℕ). reduce (r * 2)) (go k)
        ∙ sym (ap rem (shifted b k) ∙ rem_double (b * 2 ^ k))
