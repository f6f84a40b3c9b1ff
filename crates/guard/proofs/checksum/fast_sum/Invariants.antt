-- The loop keeps the invariant that 256 times the sum so far plus the plain sum of the bytes left is the result but for
-- carries.
use mathlib.Core.Bool.{false}
use Prim.Native.Nat.{◌+◌, ◌*◌, ◌≤◌}
use lib.ListN.{length}
use Rattle.guard.specs.Inner.Plain.{plain, Partly}
use Rattle.guard.proofs.checksum.fast_sum.Given as goal

abbrev pub invariant-loop-eight : goal.invariant-loop-eight
invariant-loop-eight l = (l.all + length l.rest * 1073741824 ≤ length l.part * 1073741824) × Partly (plain false l.part) l.all l.rest

abbrev pub decreases-loop-eight : goal.decreases-loop-eight
decreases-loop-eight l = length l.rest
