-- A test of a number.
--
--   bit n power    the power of two is among the binary digits of n
use Rattle.std.specs.Prelude.{ℕ, ◌/◌, ◌%◌, Bool, ◌==◌}

-- The power of two is among the binary digits of n.
abbrev pub bit : (n power : ℕ) → Bool
bit n power = n / power % 2 == 1
