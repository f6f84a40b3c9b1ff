-- Answers 5, 6 and 7 (01, "Numbered answers"): what is wrong with a layout over a memory of memory_length bytes.
--
--   some_count_zero entries            an entry's count is 0
--   counts_bad used repeat            entries not 1 to 16, repeat 0, or too many pieces
--   malformed l                      answer 5 applies
--   some_beyond memory_length pieces   answer 6 applies
--   share p q                        two pieces share a byte
--   shares_with p pieces              a piece shares a byte with one of these
--   some_share pieces                 answer 7 applies
--   verdict_on l memory_length         the first of the three answers that applies, as an error, or Ok
--   fits l memory_length              the test of an untrusted layout
use Rattle.std.specs.Prelude.{Bool, false, not, ◌||◌, cond, List, [], ◌∷◌, ℕ, ◌*◌, min, max, ltb, eqb, Result, Ok, Err}
use Rattle.std.specs.List.{list_any}
use Rattle.layout.specs.declared.Entry.{Entry}
use Rattle.layout.specs.declared.Layout.{Layout}
use Rattle.layout.specs.declared.layout_rules.LayoutError.{LayoutError}
use Rattle.layout.specs.declared.layout_rules.LayoutError.TheVariants.{Malformed, Outside, Overlapping}
use Rattle.layout.specs.Pieces.{entries_max, pieces_max, Piece, piece_end, in_use, pieces, total}

-- An entry's count is 0.
unfoldable pub some_count_zero : (entries : List Entry) → Bool
some_count_zero es = list_any (λ (e : Entry). eqb e.count 0) es

-- Entries not 1 to 16, repeat 0, or entries × repeat above 1,024.
abbrev pub counts_bad : (used repeat : ℕ) → Bool
counts_bad used repeat = eqb used 0 || ltb entries_max used || eqb repeat 0 || ltb pieces_max (used * repeat)

-- Answer 5: the numbers of entries and repeats are bad, or a count is 0.
unfoldable pub malformed : (l : Layout) → Bool
malformed l = counts_bad l.used l.repeat || some_count_zero (in_use l)

-- Answer 6: a piece ends beyond the memory. The end is an exact sum.
unfoldable pub some_beyond : (memory_length : ℕ) (ps : List Piece) → Bool
some_beyond n ps = list_any (λ (p : Piece). ltb n (piece_end p)) ps

-- Two pieces share a byte: one that is at or past both starts and before both ends.
abbrev pub share : (p q : Piece) → Bool
share p q = ltb (max p.start q.start) (min (piece_end p) (piece_end q))

-- A piece shares a byte with one of these.
unfoldable pub shares_with : (p : Piece) (ps : List Piece) → Bool
shares_with p ps = list_any (share p) ps

-- Answer 7: two pieces share a byte.
unfoldable pub some_share : (ps : List Piece) → Bool
some_share [] = false
some_share (p ∷ ps) = shares_with p ps || some_share ps

-- Answers 5, 6 and 7 in 01's order, each tested over all pieces before the next.
unfoldable pub verdict_on : (l : Layout) (memory_length : ℕ) → Result (Unit {0}) LayoutError
verdict_on l n =
    cond (malformed l) (Err Malformed)
    (cond (some_beyond n (pieces l)) (Err Outside)
    (cond (some_share (pieces l)) (Err Overlapping) (Ok tt)))

-- What moving bytes needs of a layout: neither 5 nor 6 applies, and its total is no more than the memory's length. A
-- sound layout has it.
unfoldable pub fits : (l : Layout) (memory_length : ℕ) → Bool
fits l n = not (malformed l || (some_beyond n (pieces l) || ltb n (total l)))
