-- The remainder as a function: long division by the generator. `proofs/Quotients.antt` shows that it is the one number
-- that `Remainder` allows.
--
--   reduce n          n, less the generator if n has x^16
--   bring_down r n     the remainder r of the bits above, times x, plus the lowest bit of n
--   rem_bits steps n   the remainder of n, if as many steps are enough
--   rem n             the remainder of n
--   Same a b          a and b have the same remainder
use Rattle.std.specs.Prelude.{◌≡◌, ℕ, zero, suc, ◌*◌, ◌/◌, ◌%◌}
use Rattle.std.specs.Int.Bits.{bit_xor}
use Rattle.crc.specs.Division.{generator}

-- The generator is subtracted from a number below x^17 if that has x^16.
unfoldable pub reduce : (n : ℕ) → ℕ
reduce n = bit_xor (n / 65536 * generator) n

-- Below the remainder r of the bits above stands the lowest bit of n.
abbrev pub bring_down : (r n : ℕ) → ℕ
bring_down r n = bit_xor (r * 2) (n % 2)

-- Long division: the bits are brought down one after the other, highest first.
unfoldable pub rem_bits : (steps n : ℕ) → ℕ
rem_bits zero n = 0
rem_bits (suc steps) zero = 0
rem_bits (suc steps) (suc n) = reduce (bring_down (rem_bits steps (suc n / 2)) (suc n))

-- A number n has at most n bits, so n steps are enough.
unfoldable pub rem : (n : ℕ) → ℕ
rem n = rem_bits n n

-- The two numbers have the same remainder.
pub record Same (a b : ℕ) : Type 0 where
  pub eq : rem a ≡ rem b
