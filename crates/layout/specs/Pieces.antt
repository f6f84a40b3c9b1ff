-- Layouts (01, "Layouts"): the pieces of a layout in order, its total, and the memory offset of each of its bytes.
--
--   entries_max, pieces_max, count_max    the most entries, pieces, and bytes of a piece
--   Piece                    a run of memory: start and count
--   piece_end piece           the first memory byte after a piece
--   piece_of r entry          the piece of repeat r of an entry
--   in_use l                  the used entries
--   repeats entries r n      the pieces of n repeats, from repeat r on
--   pieces l                 all pieces of a layout, in order
--   size pieces              how many bytes the pieces have together
--   span entries             how many bytes one repeat has
--   total l                  how many bytes the layout has
--   numbers_from m n          n numbers from m on
--   places_of pieces          the memory offsets of the pieces' bytes
--   places l                 the memory offset of each layout byte
use Rattle.std.specs.Prelude.{List, [], ◌∷◌, ◌++◌, map, ℕ, zero, suc, ◌+◌, ◌*◌, take, sum_by}
use Rattle.layout.specs.declared.Entry.{Entry}
use Rattle.layout.specs.declared.Layout.{Layout}

-- A layout has at most 16 entries, and at most 1,024 pieces (entries times repeats).
abbrev pub entries_max : ℕ
entries_max = 16

abbrev pub pieces_max : ℕ
pieces_max = 1024

-- A count has 32 bits.
abbrev pub count_max : ℕ
count_max = 4294967295

-- The memory that one repeat of an entry covers: count bytes from start on.
pub record Piece : Type 0 where
  pub start : ℕ
  pub count : ℕ

-- The first memory byte after a piece.
abbrev pub piece_end : (p : Piece) → ℕ
piece_end p = p.start + p.count

-- 01: repeat r of an entry covers count bytes from start + r × (count + skip).
abbrev pub piece_of : (r : ℕ) (e : Entry) → Piece
piece_of r e = record { start = e.start.0 + r * (e.count + e.skip); count = e.count }

-- The used entries. Those past the used count are ignored.
abbrev pub in_use : (l : Layout) → List Entry
in_use l = take l.used l.entries

-- The pieces of n repeats of the entries, from repeat r on: all entries of a repeat, then those of the next.
unfoldable pub repeats : (entries : List Entry) (r n : ℕ) → List Piece
repeats es r zero = []
repeats es r (suc n) = map (piece_of r) es ++ repeats es (suc r) n

-- 01: the layout's bytes run over repeat 0's entries in order, then repeat 1's, and so on.
abbrev pub pieces : (l : Layout) → List Piece
pieces l = repeats (in_use l) 0 l.repeat

-- How many bytes the pieces have together.
unfoldable pub size : (ps : List Piece) → ℕ
size ps = sum_by (λ (p : Piece). p.count) ps

-- How many bytes one repeat of the entries has.
abbrev pub span : (entries : List Entry) → ℕ
span es = sum_by (λ (e : Entry). e.count) es

-- The layout's total.
abbrev pub total : (l : Layout) → ℕ
total l = size (pieces l)

-- The n numbers from m on.
unfoldable pub numbers_from : (m n : ℕ) → List ℕ
numbers_from m zero = []
numbers_from m (suc n) = m ∷ numbers_from (suc m) n

-- The memory offsets of the pieces' bytes, in order.
unfoldable pub places_of : (ps : List Piece) → List ℕ
places_of [] = []
places_of (p ∷ ps) = numbers_from p.start p.count ++ places_of ps

-- The memory offset of each layout byte: layout byte x lies at element x.
abbrev pub places : (l : Layout) → List ℕ
places l = places_of (pieces l)
