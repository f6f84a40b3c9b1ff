-- What SBC-3 says about the CRC: it is the remainder of the data times x^16, divided by the generator polynomial. `Crc`
-- defines the same number as a shift register.
--
-- A number stands for a polynomial over GF(2), its bit k for x^k: xor adds and subtracts, times 2^k is times x^k.
--
--   generator                  the generator polynomial
--   Multiple n                 n is a multiple of the generator
--   Remainder n r              r is the remainder of n divided by the generator
--   OneRemainder               no number has two remainders
--   followed k before pieces   the polynomial `before`, followed by pieces of k bits
--   dividend register bytes    the polynomial that the CRC divides
--   CrcOfData                  SBC-3's sentence: the CRC is the remainder of the data times x^16
--   CrcIsRemainder             the same for every register before the first byte
use Rattle.std.specs.Prelude.{◌≡◌, List, [], ◌∷◌, ℕ, ◌*◌, ◌^◌, ◌<◌, length, get_or}
use Rattle.std.specs.Int.Bits.{bit_xor}
use Rattle.crc.specs.Crc.{crc}

-- x^16 + x^15 + x^11 + x^9 + x^8 + x^7 + x^5 + x^4 + x^2 + x + 1
abbrev pub generator : ℕ
generator = 0x18BB7

-- A multiple of the generator is a sum of the generator times powers of x.
pub data Multiple : ℕ → Type 0 where
  none : Multiple 0
  more : (k n : ℕ) → Multiple n → Multiple (bit_xor (generator * 2 ^ k) n)

-- The remainder of n is below x^16 and differs from n by a multiple of the generator.
pub record Remainder (n r : ℕ) : Type 0 where
  pub below : r < 2 ^ 16
  pub divides : Multiple (bit_xor n r)

-- No number has two remainders.
abbrev pub OneRemainder : Type 0
OneRemainder = (n r s : ℕ) → Remainder n r → Remainder n s → r ≡ s

-- The polynomial `before`, times x for each bit of the pieces, plus the pieces, the first one highest.
unfoldable pub followed : (k before : ℕ) (pieces : List ℕ) → ℕ
followed k before [] = before
followed k before (piece ∷ pieces) = followed k (bit_xor piece (before * 2 ^ k)) pieces

-- SBC-3's sentence. The register is 0 before the first byte.
abbrev pub CrcOfData : Type 0
CrcOfData = (bytes : List ℕ) → ((i : ℕ) → get_or bytes i 0 < 256)
    → Remainder (followed 8 0 bytes * 2 ^ 16) (crc 0 bytes)

-- A register that is not 0 before the first byte is added to the first 16 bits of the data times x^16.
unfoldable pub dividend : (register : ℕ) (bytes : List ℕ) → ℕ
dividend register bytes = bit_xor (register * 2 ^ (8 * length bytes)) (followed 8 0 bytes * 2 ^ 16)

-- The register after some bytes is the remainder, for every 16-bit register before them.
abbrev pub CrcIsRemainder : Type 0
CrcIsRemainder = (register : ℕ) (bytes : List ℕ) → register < 2 ^ 16 → ((i : ℕ) → get_or bytes i 0 < 256)
    → Remainder (dividend register bytes) (crc register bytes)
