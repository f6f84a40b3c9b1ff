-- The loop keeps the invariant that byte y, counted from entry i on, is byte x of the repeat.
use Rattle.std.proofs.Common.{◌≡◌, ◌+◌, ◌*◌, ◌≤◌, drop}
use Rattle.layout.specs.Pieces.{in_use, pieces, span, places_of, places}
use Rattle.layout.proofs.cursor.find_in_repeat.Given as goal

abbrev pub invariant-loop-i : goal.invariant-loop-i
invariant-loop-i l =
    (l.y ≤ span (drop l.i (in_use l.l)))
    × (drop l.y (places_of (drop (l.r * l.l.used + l.i) (pieces l.l))) ≡ drop (l.r * span (in_use l.l) + l.x) (places l.l))
