-- A polynomial below x^16 that is not 0 is no multiple of the generator, and no power of x makes it one. So data of one
-- length that differ by such a polynomial, times a power of x, lead to different registers. Request 9 rests on this.
use mathlib.Core.Path.{◌≡◌, sym, ap, ap₂, ◌∙◌}
use mathlib.Core.List.{List}
use Prim.Native.Nat.{ℕ, zero, suc, ◌+◌, ◌*◌, ◌/◌, ◌^◌, ◌<◌}
use native.Mathlib.Nat.{mul-one}
use native.Mathlib.Omega.{arith}
use lib.ListN.{length, get_or}
use lib.Bits.{bit_xor, xor_self}
use Rattle.crc.specs.Crc.{crc}
use Rattle.crc.specs.Division.{generator, followed, dividend}
use Rattle.crc.specs.Inner.Remainders.{reduce, rem}
use Rattle.crc.proofs.Xor.{Bit, off, on, xor_swap, xor_cancel, xor_scale, shift_shift}
use Rattle.crc.proofs.Remainders.{top_bit, rem_lt, rem_small, rem-xor, rem_double, shifted}
use Rattle.crc.proofs.Registers.{crc-rem}

-- If 2 r is 0 or the generator, then r is 0, because the generator is odd.
generator_odd : {q : ℕ} (r : ℕ) → Bit q → q * generator ≡ r * 2 → r ≡ 0
generator_odd r off e = omega arith
generator_odd r on e = absurd (omega arith)

-- If a x^k has the remainder 0, so has a.
rem_shift_zero : (k a : ℕ) → rem (a * 2 ^ k) ≡ 0 → rem a ≡ 0
unfolding reduce
rem_shift_zero zero a e = ap rem (sym (mul-one a)) ∙ e
rem_shift_zero (suc k) a e =
    rem_shift_zero k a
    (generator_odd (rem b) (top_bit (omega (arith, rem_lt b)))
    (xor_cancel (rem b * 2 / 65536 * generator) (rem b * 2) (sym (rem_double b) ∙ sym (ap rem (shifted a k)) ∙ e)))
  where
    b : ℕ
    b = a * 2 ^ k

-- The dividends of two lists of one length differ by what the lists differ by, times x^16. The register falls out.
dividend_sum : (r : ℕ) (xs ys : List ℕ) → length xs ≡ length ys
    → bit_xor (dividend r xs) (dividend r ys) ≡ bit_xor (followed 8 0 xs) (followed 8 0 ys) * 2 ^ 16
unfolding dividend
dividend_sum r xs ys l =
    ap (λ (n : ℕ). bit_xor (bit_xor (r * 2 ^ (8 * n)) (followed 8 0 xs * 2 ^ 16)) (dividend r ys)) l
    ∙ xor_swap start (followed 8 0 xs * 2 ^ 16) start (followed 8 0 ys * 2 ^ 16)
    ∙ ap (λ (x : ℕ). bit_xor x (bit_xor (followed 8 0 xs * 2 ^ 16) (followed 8 0 ys * 2 ^ 16))) (xor_self start)
    ∙ sym (xor_scale 16 (followed 8 0 xs) (followed 8 0 ys))
  where
    start : ℕ
    start = r * 2 ^ (8 * length ys)

-- If two lists of one length differ by w x^k, where w is below x^16, and lead to the same register, then w is 0.
pub short_difference : (r k w : ℕ) (xs ys : List ℕ) → r < 65536
    → ((i : ℕ) → get_or xs i 0 < 256) → ((i : ℕ) → get_or ys i 0 < 256) → length xs ≡ length ys
    → bit_xor (followed 8 0 xs) (followed 8 0 ys) ≡ w * 2 ^ k → w < 2 ^ 16 → crc r xs ≡ crc r ys → w ≡ 0
short_difference r k w xs ys hr ha hb l d h e = sym (rem_small w h) ∙ rem_shift_zero (k + 16) w gone
  where
    gone : rem (w * 2 ^ (k + 16)) ≡ 0
    gone =
        ap rem (sym (dividend_sum r xs ys l ∙ ap (λ (x : ℕ). x * 2 ^ 16) d ∙ shift_shift w k 16))
        ∙ rem-xor (dividend r xs) (dividend r ys)
        ∙ ap₂ bit_xor (sym (crc-rem r xs hr ha)) (sym (crc-rem r ys hr hb))
        ∙ ap (λ (x : ℕ). bit_xor x (crc r ys)) e
        ∙ xor_self (crc r ys)
