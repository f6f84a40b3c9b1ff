-- The loop keeps the invariant that the first i bytes are copied.
use Rattle.std.proofs.Common.{◌≡◌, length, take}
use Rattle.layout.proofs.moves.copy.Given as goal

abbrev pub invariant-loop-i : goal.invariant-loop-i
invariant-loop-i l = (length l.to ≡ length l.initial.to) × (take l.i l.to ≡ take l.i l.from)
