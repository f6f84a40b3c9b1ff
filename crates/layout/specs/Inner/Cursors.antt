-- A cursor's way along a layout: which memory offsets lie ahead of it, and what the functions over cursors require and
-- ensure.
--
--   next_piece l c         the number of the piece that comes next
--   ahead l c             the memory offsets of the layout bytes from a cursor on
--   forward c n           the cursor n bytes further on in its piece
--   InLayout l c          the cursor's numbers are in range
--   Walked l x c          the cursor is at layout byte x
--   Begins l k c          the cursor is at the start of piece k
--   Readied l c d         the same position, with bytes left in its piece
--   Stored l c before bytes d after     bytes were stored ahead of a cursor
--   Storing l c before bytes d mid rest     the loop's invariant: storing the rest completes it
use Rattle.std.specs.Prelude.{◌≡◌, List, ◌++◌, ℕ, suc, ◌+◌, ◌*◌, ◌-◌, ◌≤◌, ◌<◌, length, drop}
use Rattle.layout.specs.declared.Layout.{Layout}
use Rattle.layout.specs.declared.cursor.Cursor.{Cursor}
use Rattle.layout.specs.Pieces.{in_use, pieces, numbers_from, places_of, places}
use Rattle.layout.specs.Moves.{scattered, Placed}

-- The number of the piece that comes next.
abbrev pub next_piece : (l : Layout) (c : Cursor) → ℕ
next_piece l c = c.repeat * l.used + c.entry

-- The memory offsets of the layout bytes from a cursor on: what is left of its piece, then the next pieces.
abbrev pub ahead : (l : Layout) (c : Cursor) → List ℕ
ahead l c = numbers_from c.place.0 c.left ++ places_of (drop (next_piece l c) (pieces l))

-- The cursor n bytes further on in its piece.
abbrev pub forward : (c : Cursor) (n : ℕ) → Cursor
forward c n = record {
  place = record { 0 = c.place.0 + n };
  left = c.left - n;
  entry = c.entry;
  repeat = c.repeat;
}

-- What every cursor from the walk has: numbers in range, and what is left of its piece lies in each memory that the
-- layout lies in.
pub record InLayout (l : Layout) (c : Cursor) : Type 0 where
  pub used : length (in_use l) ≡ l.used
  pub entry : c.entry ≤ l.used
  pub repeat : c.repeat ≤ l.repeat
  pub inside : (n : ℕ) → Placed l n → c.place.0 + c.left ≤ n

-- The cursor is at layout byte x.
pub record Walked (l : Layout) (x : ℕ) (c : Cursor) : Type 0 where
  pub stands : InLayout l c
  pub on : ahead l c ≡ drop x (places l)

-- The cursor is at the start of piece k.
pub record Begins (l : Layout) (k : ℕ) (c : Cursor) : Type 0 where
  pub stands : InLayout l c
  pub on : ahead l c ≡ places_of (drop k (pieces l))
  pub next : next_piece l c ≡ suc k

-- The same position, with bytes left in its piece.
pub record Readied (l : Layout) (c d : Cursor) : Type 0 where
  pub stands : InLayout l d
  pub same : ahead l d ≡ ahead l c
  pub some : 0 < d.left

-- Bytes were stored at the offsets ahead of cursor c, in order, and cursor d is after them.
pub record Stored (l : Layout) (c : Cursor) (before bytes : List ℕ) (d : Cursor) (after : List ℕ) : Type 0 where
  pub stands : InLayout l d
  pub on : ahead l d ≡ drop (length bytes) (ahead l c)
  pub memory : after ≡ scattered before (ahead l c) bytes

-- While bytes are stored: storing the rest gives what storing all bytes is to give.
pub record Storing (l : Layout) (c : Cursor) (before bytes : List ℕ) (d : Cursor) (mid rest : List ℕ) : Type 0 where
  pub stands : InLayout l d
  pub room : length rest ≤ length (ahead l d)
  pub on : drop (length rest) (ahead l d) ≡ drop (length bytes) (ahead l c)
  pub memory : scattered mid (ahead l d) rest ≡ scattered before (ahead l c) bytes
  pub size : length mid ≡ length before
