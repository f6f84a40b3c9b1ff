-- Where x^m has the remainder of a sum of lower powers, that sum may stand for it under any factor.
use mathlib.Core.Path.{◌≡◌, refl, sym, ap, ap₂, ◌∙◌, subst}
use mathlib.Core.List.{List, [], ◌∷◌}
use Prim.Native.Nat.{ℕ, ◌+◌, ◌-◌, ◌*◌, ◌/◌, ◌%◌, ◌^◌, ◌≤◌}
use native.Mathlib.Nat.{zero-mul, one-mul, add_comm}
use native.Mathlib.Omega.{arith}
use Rattle.std.specs.List.{fold as fold_list}
use lib.Arith.{bin_ind}
use lib.Pow.{shr-shr, shl-shr}
use lib.Bits.{bit_xor, xor_comm}
use Rattle.crc.specs.Inner.Remainders.{rem, Same}
use Rattle.crc.specs.Inner.Folding.{times, times_low, times_high, with_word}
use Rattle.crc.proofs.Xor.{xor_assoc, Bit, off, on, lowest_bit, xor_swap, xor_scale, xor_parts, mul_swap}
use Rattle.crc.proofs.Remainders.{same, then, same_xor, same_right, same_shift}

-- ---- a product with a sum of powers

times_zero : (k : ℕ) (ks : List ℕ) → times k ks 0 ≡ 0
times_zero k [] = zero-mul (2 ^ k)
times_zero k (j ∷ js) = ap₂ bit_xor (zero-mul (2 ^ k)) (times_zero j js)

times-xor : (k : ℕ) (ks : List ℕ) (a b : ℕ) → times k ks (bit_xor a b) ≡ bit_xor (times k ks a) (times k ks b)
times-xor k [] a b = xor_scale k a b
times-xor k (j ∷ js) a b =
    ap₂ bit_xor (xor_scale k a b) (times-xor j js a b)
    ∙ xor_swap (a * 2 ^ k) (b * 2 ^ k) (times j js a) (times j js b)

times_double : (k : ℕ) (ks : List ℕ) (a : ℕ) → times k ks (a * 2) ≡ times k ks a * 2
times_double k [] a = mul_swap a 2 (2 ^ k)
times_double k (j ∷ js) a =
    ap₂ bit_xor (mul_swap a 2 (2 ^ k)) (times_double j js a)
    ∙ sym (xor_scale 1 (a * 2 ^ k) (times j js a))

-- ---- the law of folding

-- The relation `one` is checked by division. It holds for 1, and so for every polynomial, bit by bit.
module _ (m k : ℕ) (ks : List ℕ) (one : rem (2 ^ m) ≡ rem (times k ks 1)) where
  abbrev Folds : ℕ → Type 0
  Folds a = Same (a * 2 ^ m) (times k ks a)

  folds_bit : {b : ℕ} → Bit b → Folds b
  folds_bit off = same (zero-mul (2 ^ m) ∙ sym (times_zero k ks))
  folds_bit on = then (same (one-mul (2 ^ m))) (record { eq = one })

  folds_sum : (a b : ℕ) → Folds a → Folds b → Folds (bit_xor a b)
  folds_sum a b p q = then (same (xor_scale m a b)) (then (same_xor p q) (same (sym (times-xor k ks a b))))

  folds_double : (a : ℕ) → Folds a → Folds (a * 2)
  folds_double a p = then (same (mul_swap a 2 (2 ^ m))) (then (same_shift 1 p) (same (sym (times_double k ks a))))

  -- a x^m may be replaced by a times the sum.
  pub fold : (a : ℕ) → Same (a * 2 ^ m) (times k ks a)
  fold =
      bin_ind Folds (folds_bit off)
      (λ n ih.
      subst Folds (xor_parts 1 n)
      (folds_sum (n / 2 * 2) (n % 2) (folds_double (n / 2) ih) (folds_bit (lowest_bit n))))

-- ---- the words of a product, added power by power

abbrev pub add_low : (a s k : ℕ) → ℕ
add_low a s k = bit_xor s (a * 2 ^ k % 2 ^ 64)

abbrev pub add_high : (a s k : ℕ) → ℕ
add_high a s k = bit_xor s (a / 2 ^ (64 - k))

pub low_added : (a s k : ℕ) (ks : List ℕ) → fold_list (add_low a) s (k ∷ ks) ≡ bit_xor s (times_low k ks a)
low_added a s k [] = refl
low_added a s k (j ∷ js) = low_added a (add_low a s k) j js ∙ xor_assoc s (a * 2 ^ k % 2 ^ 64) (times_low j js a)

pub high_added : (a s k : ℕ) (ks : List ℕ) → fold_list (add_high a) s (k ∷ ks) ≡ bit_xor s (times_high k ks a)
high_added a s k [] = refl
high_added a s k (j ∷ js) = high_added a (add_high a s k) j js ∙ xor_assoc s (a / 2 ^ (64 - k)) (times_high j js a)

-- ---- a product of a word, in two words

-- No power is above 64.
abbrev pub WithinWord : (k : ℕ) (ks : List ℕ) → Type 0
WithinWord k [] = k ≤ 64
WithinWord k (j ∷ js) = (k ≤ 64) × WithinWord j js

-- A sum of words after a sum of polynomials.
pub with_sum : (a b v w : ℕ) → with_word (bit_xor a b) (bit_xor v w) ≡ bit_xor (with_word a v) (with_word b w)
with_sum a b v w = ap (bit_xor (bit_xor v w)) (xor_scale 64 a b) ∙ xor_swap v w (a * 2 ^ 64) (b * 2 ^ 64)

-- A word stays where it is when the polynomial before it is replaced.
pub word_same : {a b : ℕ} (w : ℕ) → Same a b → Same (with_word a w) (with_word b w)
word_same w s = same_right w (same_shift 64 s)

times_parts : (a j k : ℕ) → a * 2 ^ k ≡ bit_xor (a / 2 ^ j * 2 ^ (j + k)) (a * 2 ^ k % 2 ^ (j + k))
times_parts a j k =
    sym (xor_parts (j + k) (a * 2 ^ k))
    ∙ ap (λ (q : ℕ). bit_xor (q * 2 ^ (j + k)) (a * 2 ^ k % 2 ^ (j + k)))
    (ap (λ (n : ℕ). a * 2 ^ k / 2 ^ n) (add_comm j k)
    ∙ sym (shr-shr (a * 2 ^ k) k j)
    ∙ ap (λ (q : ℕ). q / 2 ^ j) (shl-shr a k))

power_in_words : (a k : ℕ) → k ≤ 64 → a * 2 ^ k ≡ with_word (a / 2 ^ (64 - k)) (a * 2 ^ k % 2 ^ 64)
power_in_words a k h =
    let e : 64 - k + k ≡ 64 = omega arith in
    subst (λ (n : ℕ). a * 2 ^ k ≡ bit_xor (a / 2 ^ (64 - k) * 2 ^ n) (a * 2 ^ k % 2 ^ n)) e (times_parts a (64 - k) k)
    ∙ xor_comm (a / 2 ^ (64 - k) * 2 ^ 64) (a * 2 ^ k % 2 ^ 64)

-- The product is its high word, followed by its low word.
pub product_in_words : (k : ℕ) (ks : List ℕ) (a : ℕ) → WithinWord k ks
    → times k ks a ≡ with_word (times_high k ks a) (times_low k ks a)
product_in_words k [] a h = power_in_words a k h
product_in_words k (j ∷ js) a h =
    ap₂ bit_xor (power_in_words a k h.0) (product_in_words j js a h.1)
    ∙ sym (with_sum (a / 2 ^ (64 - k)) (times_high j js a) (a * 2 ^ k % 2 ^ 64) (times_low j js a))
