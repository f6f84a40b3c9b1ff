-- The table of remainders, by which a whole byte enters the register at once.
--
--   remainders_from i n   the remainders of i x^16 and of the n - 1 numbers after i, each times x^16
--   table                the remainder of b x^16, for each byte b
--   Index r b k          the table's entry k serves register r and byte b
use Rattle.std.specs.Prelude.{◌≡◌, List, [], ◌∷◌, ℕ, zero, suc, ◌*◌, ◌/◌, ◌<◌}
use Rattle.std.specs.Int.Bits.{bit_xor}
use Rattle.crc.specs.Inner.Remainders.{rem}

-- The remainders of i x^16, (i + 1) x^16 and so on, n of them.
unfoldable pub remainders_from : (i n : ℕ) → List ℕ
remainders_from i zero = []
remainders_from i (suc n) = rem (i * 65536) ∷ remainders_from (suc i) n

-- The remainder of b x^16 for each byte b.
unfoldable pub table : List ℕ
table = remainders_from 0 256

-- Entry k serves register r and byte b: k is the byte plus the register's high byte.
pub record Index (r b k : ℕ) : Type 0 where
  pub sum : k ≡ bit_xor (r / 256) b
  pub small : k < 256
