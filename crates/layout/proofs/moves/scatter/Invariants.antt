-- The loop keeps the invariant that storing the rest leads to the same memory as storing all bytes.
use Rattle.std.proofs.Common.{length}
use Rattle.layout.specs.Inner.Cursors.{Storing}
use Rattle.layout.proofs.moves.scatter.Given as goal

abbrev pub invariant-loop-rest : goal.invariant-loop-rest
invariant-loop-rest l = Storing l.l l.initial.c l.initial.memory l.bytes l.c l.memory l.rest

abbrev pub decreases-loop-rest : goal.decreases-loop-rest
decreases-loop-rest l = length l.rest
