-- Long parts go through a window of 369 bytes. Since x^2952 has the remainder of x^248 + 1, and 369 bytes are 2952 bits
-- and 31 bytes 248, a byte may be added to those 338 and 369 bytes after it, and then left out.
--
--   room             the length of the buffer that the window moves in
--   window o         what the first 369 bytes of o stand for
--   Entered o s o'   the bytes s went through the window
--   Moved o n o'     the window at byte n was moved to the start
--   Blank o          a buffer whose first 367 bytes are 0
use Rattle.std.specs.Prelude.{◌≡◌, List, ℕ, length, take, drop, replicate}
use Rattle.std.specs.Int.Bits.{bit_xor}
use Rattle.crc.specs.Division.{followed}
use Rattle.crc.specs.Inner.Remainders.{Same}
use Rattle.crc.specs.Inner.Folding.{bytes_at}

-- The buffer holds the window and the 1,040 bytes that go through it at a time.
abbrev pub room : ℕ
room = 1409

-- The window's first 31 bytes have been added to its last 31, but have not left it yet. Adding them there once more
-- takes that back.
unfoldable pub window : (o : List ℕ) → ℕ
window o = bit_xor (bytes_at o 0 369) (bytes_at o 0 31)

-- The bytes s went through the window, which has moved along by as many bytes.
pub record Entered (o s o' : List ℕ) : Type 0 where
  pub long : length o' ≡ length o
  pub stands : Same (window (drop (length s) o')) (followed 8 (window o) s)

-- The window at byte n is at the start.
pub record Moved (o : List ℕ) (n : ℕ) (o' : List ℕ) : Type 0 where
  pub long : length o' ≡ length o
  pub there : take 369 o' ≡ take 369 (drop n o)

-- The window is empty, except that its last two bytes, where the first two of the data go, may be anything.
pub record Blank (o : List ℕ) : Type 0 where
  pub long : length o ≡ room
  pub empty : take 367 o ≡ replicate 367 0
