-- The loop keeps the invariant that the same offsets lie ahead, because it leaves only pieces with no bytes left.
use Rattle.std.proofs.Common.{◌≡◌, ◌-◌, length}
use Rattle.layout.specs.Pieces.{pieces}
use Rattle.layout.specs.Inner.Cursors.{next_piece, ahead, InLayout}
use Rattle.layout.proofs.cursor.next_piece_if_spent.Given as goal

abbrev pub invariant-loop-d : goal.invariant-loop-d
invariant-loop-d l = InLayout l.l l.d × (ahead l.l l.d ≡ ahead l.l l.initial.d)

abbrev pub decreases-loop-d : goal.decreases-loop-d
decreases-loop-d l = length (pieces l.l) - next_piece l.l l.d
