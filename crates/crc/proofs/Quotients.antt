-- `rem` finds the remainder that `Remainder` defines, and there is no other.
use mathlib.Core.Path.{◌≡◌, refl, sym, ap, ap₂, ◌∙◌, subst}
use Prim.Native.Nat.{ℕ, suc, ◌*◌, ◌/◌, ◌%◌, ◌^◌}
use native.Mathlib.Nat.{zero-mul}
use lib.Arith.{bin_ind}
use lib.Bits.{bit_xor, xor_zero_r, xor_self}
use Rattle.crc.specs.Division.{generator, Multiple, none, more, Remainder, OneRemainder}
use Rattle.crc.specs.Inner.Remainders.{reduce, bring_down, rem_bits, rem}
use Rattle.crc.proofs.Xor.{Bit, off, on, xor_lift, xor_swap, xor_cancel, xor_scale, xor_parts}
use Rattle.crc.proofs.Remainders.{top_bit, rem_step, bring_down_lt, rem_lt, rem_small, rem-xor}
use Rattle.crc.proofs.Remainders.{shifted, same_shift}

-- Twice a multiple is a multiple.
multiple_double : {n : ℕ} → Multiple n → Multiple (n * 2)
multiple_double none = none
multiple_double (more k n m) =
    subst Multiple
    (ap (λ (x : ℕ). bit_xor x (n * 2)) (shifted generator k) ∙ sym (xor_scale 1 (generator * 2 ^ k) n))
    (more (suc k) (n * 2) (multiple_double m))

-- The sum of a number and its remainder is a multiple.
rem_divides : (n : ℕ) → Multiple (bit_xor n (rem n))
unfolding rem rem_bits reduce
rem_divides = bin_ind (λ (n : ℕ). Multiple (bit_xor n (rem n))) none step
  where
    down : ℕ → ℕ
    down n = bring_down (rem (n / 2)) n

    -- The bit that is brought down is n's own, so only the bits above it are left of the sum.
    doubled : (n : ℕ) → bit_xor n (down n) ≡ bit_xor (n / 2) (rem (n / 2)) * 2
    doubled n =
        ap (λ (x : ℕ). bit_xor x (down n)) (sym (xor_parts 1 n))
        ∙ xor_swap (n / 2 * 2) (n % 2) (rem (n / 2) * 2) (n % 2)
        ∙ ap₂ bit_xor (sym (xor_scale 1 (n / 2) (rem (n / 2)))) (xor_self (n % 2))
        ∙ xor_zero_r (bit_xor (n / 2) (rem (n / 2)) * 2)

    with_generator : {b n : ℕ} → Bit b → Multiple n → Multiple (bit_xor (b * generator) n)
    with_generator off m = m
    with_generator on m = more 0 _ m

    step : (n : ℕ) → Multiple (bit_xor (n / 2) (rem (n / 2))) → Multiple (bit_xor n (rem n))
    step n ih =
        subst Multiple
        (sym
        (ap (bit_xor n) (rem_step n)
        ∙ xor_lift n (down n / 65536 * generator) (down n)
        ∙ ap (bit_xor (down n / 65536 * generator)) (doubled n)))
        (with_generator (top_bit (bring_down_lt n (rem_lt (n / 2)))) (multiple_double ih))

pub rem_is_remainder : (n : ℕ) → Remainder n (rem n)
rem_is_remainder n = record { below = rem_lt n; divides = rem_divides n }

shifted_generator : (k : ℕ) → rem (generator * 2 ^ k) ≡ 0
unfolding rem rem_bits reduce
shifted_generator k = (same_shift {a = generator} {b = 0} k (record { eq = refl })).eq ∙ ap rem (zero-mul (2 ^ k))

-- The remainder of a multiple is 0.
rem_multiple : {n : ℕ} → Multiple n → rem n ≡ 0
unfolding rem rem_bits reduce
rem_multiple none = refl
rem_multiple (more k n m) =
    rem-xor (generator * 2 ^ k) n
    ∙ ap₂ bit_xor (shifted_generator k) (rem_multiple m)

remainder_is_rem : {n r : ℕ} → Remainder n r → r ≡ rem n
remainder_is_rem {n} {r} p =
    sym (rem_small r p.below)
    ∙ sym (xor_cancel (rem n) (rem r) (sym (rem-xor n r) ∙ rem_multiple p.divides))

pub one_remainder : OneRemainder
one_remainder n r s p q = remainder_is_rem p ∙ sym (remainder_is_rem q)
