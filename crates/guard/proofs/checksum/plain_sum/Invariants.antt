-- The loop keeps the invariant that the sum is the number that it began with and the words so far.
use mathlib.Core.Path.{◌≡◌}
use Prim.Native.Nat.{◌+◌, ◌*◌, ◌≤◌}
use Rattle.std.proofs.Common.{take}
use Rattle.std.specs.List.{sum_by}
use Rattle.guard.specs.Inner.Plain.{word}
use Rattle.guard.proofs.checksum.plain_sum.Given as goal

abbrev pub invariant-loop-two : goal.invariant-loop-two
invariant-loop-two l = (l.all ≡ l.from + sum_by word (take l.two-index l.words)) × (l.all ≤ l.from + l.two-index * 65535)
