-- Folding: a polynomial becomes shorter and keeps its remainder, because a high power of x has the remainder of a sum
-- of a few low ones. docs/FOLDING.md explains it with an example.
--
--   times k ks a         the polynomial a times x^k + x^j + .., for the powers k and ks
--   times_low k ks a      the low 64 bits of that product
--   times_high k ks a     the bits above them
--   with_word n w         the polynomial n, followed by the word w
--   with_rest n s i       the polynomial n, followed by the bytes of s from byte i on
--   bytes_at s i n        the n bytes of s from byte i on
--   with_register r n s   the first n bytes of s, with the register r added to the first two of them
--   crc_of n              the register after the data n, from register 0
use Rattle.std.specs.Prelude.{List, [], ◌∷◌, ℕ, ◌-◌, ◌*◌, ◌/◌, ◌%◌, ◌^◌, take, drop}
use Rattle.std.specs.Int.Bits.{bit_xor}
use Rattle.crc.specs.Division.{followed}
use Rattle.crc.specs.Inner.Remainders.{rem}

-- The polynomial a times a sum of powers of x.
abbrev pub times : (k : ℕ) (ks : List ℕ) (a : ℕ) → ℕ
times k [] a = a * 2 ^ k
times k (j ∷ js) a = bit_xor (a * 2 ^ k) (times j js a)

-- Of the product, the 64 low bits.
abbrev pub times_low : (k : ℕ) (ks : List ℕ) (a : ℕ) → ℕ
times_low k [] a = a * 2 ^ k % 2 ^ 64
times_low k (j ∷ js) a = bit_xor (a * 2 ^ k % 2 ^ 64) (times_low j js a)

-- Of the product, the bits above the 64 low ones, if no power is above 64.
abbrev pub times_high : (k : ℕ) (ks : List ℕ) (a : ℕ) → ℕ
times_high k [] a = a / 2 ^ (64 - k)
times_high k (j ∷ js) a = bit_xor (a / 2 ^ (64 - k)) (times_high j js a)

-- The polynomial n, followed by the 64-bit word w.
abbrev pub with_word : (n w : ℕ) → ℕ
with_word n w = bit_xor w (n * 2 ^ 64)

-- The polynomial n, followed by the bytes of s from byte i on.
abbrev pub with_rest : (n : ℕ) (s : List ℕ) (i : ℕ) → ℕ
with_rest n s i = followed 8 n (drop i s)

-- The n bytes of s from byte i on, as one polynomial.
abbrev pub bytes_at : (s : List ℕ) (i n : ℕ) → ℕ
bytes_at s i n = followed 8 0 (take n (drop i s))

-- The first n bytes of s, at least two. A register before the first byte is added to the first two.
abbrev pub with_register : (r n : ℕ) (s : List ℕ) → ℕ
with_register r n s = bit_xor (bytes_at s 0 n) (r * 2 ^ (8 * n - 16))

-- The register after data with the polynomial n, from register 0.
abbrev pub crc_of : (n : ℕ) → ℕ
crc_of n = rem (n * 2 ^ 16)
