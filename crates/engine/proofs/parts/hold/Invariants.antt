-- The loop keeps the invariant that storing the bytes left leads to the same bytes as storing all.
use mathlib.Core.Path.{◌≡◌}
use Prim.Native.Nat.{◌+◌}
use lib.ListN.{drop}
use lib.Seq.{sets}
use Rattle.engine.proofs.parts.hold.Given as goal

abbrev pub invariant-loop-i : goal.invariant-loop-i
invariant-loop-i l = sets l.all (l.from + l.i) (drop l.i l.part) ≡ sets l.initial.all l.from l.part
