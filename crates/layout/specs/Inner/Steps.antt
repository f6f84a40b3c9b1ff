-- What the inner functions of this crate require and ensure.
--
--   no_entry, no_piece      what stands past the last entry and past the last piece
--   Counted used repeat   the numbers of entries and repeats are in range
--   Shaped l              answer 5 does not apply
--   entry_fits n r e      an entry has bytes, and its repeat r ends within n bytes of memory
--   Fits l n              the layout fits a memory of n bytes
--   Spans l k extent      the memory bytes of piece k
--   Apart pieces k j      pieces k and j share no byte
use Rattle.std.specs.Prelude.{◌≡◌, ℕ, ◌*◌, ◌≤◌, ◌<◌, length, get_or, Bool, false, not, ◌||◌, eqb, ltb, List}
use Rattle.layout.specs.declared.Entry.{Entry}
use Rattle.layout.specs.declared.Layout.{Layout}
use Rattle.layout.specs.declared.layout_rules.Extent.{Extent}
use Rattle.layout.specs.Pieces.{entries_max, pieces_max, Piece, piece_end, piece_of, pieces, in_use, total}
use Rattle.layout.specs.Moves.{Placed}
use Rattle.layout.specs.Answers.{share}

-- What stands past the last entry.
abbrev pub no_entry : Entry
no_entry = record { start = record { 0 = 0 }; count = 0; skip = 0 }

-- The numbers of entries and repeats are in range.
abbrev pub Counted : (used repeat : ℕ) → Type 0
Counted used repeat = (0 < used) × (used ≤ entries_max) × (0 < repeat) × (used * repeat ≤ pieces_max)

-- Answer 5 does not apply: the numbers of entries and repeats are in range, and no entry is empty.
pub record Shaped (l : Layout) : Type 0 where
  pub some : 0 < l.used
  pub used : l.used ≤ entries_max
  pub repeat : 0 < l.repeat
  pub few : l.used * l.repeat ≤ pieces_max
  pub counts : (i : ℕ) → i < length (in_use l) → 0 < (get_or (in_use l) i no_entry).count

-- An entry has bytes, and repeat r of it ends within n bytes of memory.
abbrev pub entry_fits : (n r : ℕ) (e : Entry) → Bool
entry_fits n r e = not (eqb e.count 0 || ltb n (piece_end (piece_of r e)))

-- The layout fits a memory of n bytes, as `fits` tests it.
pub record Fits (l : Layout) (n : ℕ) : Type 0 where
  pub shaped : Shaped l
  pub placed : Placed l n
  pub small : total l ≤ n

-- What stands past the last piece.
abbrev pub no_piece : Piece
no_piece = record { start = 0; count = 0 }

-- The memory bytes of piece k.
pub record Spans (l : Layout) (k : ℕ) (r : Extent) : Type 0 where
  pub start : r.start.0 ≡ (get_or (pieces l) k no_piece).start
  pub end : r.end.0 ≡ piece_end (get_or (pieces l) k no_piece)

-- Pieces k and j share no byte.
abbrev pub Apart : (ps : List Piece) (k j : ℕ) → Type 0
Apart ps k j = share (get_or ps k no_piece) (get_or ps j no_piece) ≡ false
