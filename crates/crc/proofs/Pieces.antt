-- Pieces of k bits, joined to one polynomial.
use mathlib.Core.Path.{◌≡◌, refl, sym, ap, ◌∙◌}
use mathlib.Core.List.{List, [], ◌∷◌, ◌++◌}
use Prim.Native.Nat.{ℕ, suc, ◌*◌, ◌^◌}
use native.Mathlib.Nat.{mul-one, zero-mul, mul-zero, mul-suc, add_comm}
use lib.ListN.{length}
use lib.Bits.{bit_xor, xor_comm, xor_zero_r}
use Rattle.crc.specs.Division.{followed}
use Rattle.crc.specs.Inner.Remainders.{Same}
use Rattle.crc.proofs.Xor.{xor_assoc, xor_scale, shift_shift}
use Rattle.crc.proofs.Remainders.{same, then, same_left, same_shift}

-- a x^(k (n + 1)) = a x^k x^(k n)
pub shift_piece : (k a n : ℕ) → a * 2 ^ (k * suc n) ≡ a * 2 ^ k * 2 ^ (k * n)
shift_piece k a n =
    ap (λ (x : ℕ). a * 2 ^ x) (mul-suc k n ∙ add_comm (k * n) k) ∙ sym (shift_shift a k (k * n))

-- What is added before the pieces is multiplied by x^k for each, and added to the whole.
pub followed_plus : (k a b : ℕ) (ps : List ℕ)
    → followed k (bit_xor a b) ps ≡ bit_xor (followed k a ps) (b * 2 ^ (k * length ps))
unfolding followed
followed_plus k a b [] = ap (bit_xor a) (sym (mul-one b) ∙ ap (λ (n : ℕ). b * 2 ^ n) (sym (mul-zero k)))
followed_plus k a b (p ∷ ps) =
    ap (λ (x : ℕ). followed k x ps) (ap (bit_xor p) (xor_scale k a b) ∙ sym (xor_assoc p (a * 2 ^ k) (b * 2 ^ k)))
    ∙ followed_plus k (bit_xor p (a * 2 ^ k)) (b * 2 ^ k) ps
    ∙ ap (bit_xor (followed k (bit_xor p (a * 2 ^ k)) ps)) (sym (shift_piece k b (length ps)))

pub followed_from : (k a : ℕ) (ps : List ℕ) → followed k a ps ≡ bit_xor (a * 2 ^ (k * length ps)) (followed k 0 ps)
followed_from k a ps = followed_plus k 0 a ps ∙ xor_comm (followed k 0 ps) (a * 2 ^ (k * length ps))

-- The first piece is the highest.
pub followed-first : (k p : ℕ) (ps : List ℕ)
    → followed k 0 (p ∷ ps) ≡ bit_xor (p * 2 ^ (k * length ps)) (followed k 0 ps)
unfolding followed
followed-first k p ps =
    ap (λ (x : ℕ). followed k x ps) (ap (bit_xor p) (zero-mul (2 ^ k)) ∙ xor_zero_r p)
    ∙ followed_from k p ps

pub followed-append : (k a : ℕ) (ps qs : List ℕ) → followed k a (ps ++ qs) ≡ followed k (followed k a ps) qs
unfolding followed
followed-append k a [] qs = refl
followed-append k a (p ∷ ps) qs = followed-append k (bit_xor p (a * 2 ^ k)) ps qs

pub followed_last : (k a : ℕ) (ps : List ℕ) (p : ℕ) → followed k a (ps ++ p ∷ []) ≡ bit_xor p (followed k a ps * 2 ^ k)
unfolding followed
followed_last k a ps p = followed-append k a ps (p ∷ [])

-- Polynomials with the same remainder have the same remainder when pieces follow.
pub followed_same : (k : ℕ) {a b : ℕ} (ps : List ℕ) → Same a b → Same (followed k a ps) (followed k b ps)
followed_same k {a} {b} ps s =
    then (same (followed_from k a ps))
    (then (same_left (followed k 0 ps) (same_shift (k * length ps) s)) (same (sym (followed_from k b ps))))
