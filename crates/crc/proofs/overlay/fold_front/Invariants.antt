use mathlib.Core.Path.{◌≡◌}
use Prim.Native.Nat.{◌-◌, ◌%◌, ◌≤◌}
use Rattle.crc.specs.Inner.Overlays.{Overlays}
use Rattle.crc.proofs.overlay.fold_front.Given as goal

abbrev pub invariant-loop-j : goal.invariant-loop-j
invariant-loop-j l = (l.j % 24 ≡ 0) × (l.j ≤ 240) × Overlays l.s l.v l.j l.o

abbrev pub decreases-loop-j : goal.decreases-loop-j
decreases-loop-j l = 240 - l.j
