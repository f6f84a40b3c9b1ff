-- The loop keeps the invariant that the sum is the span of the entries before e.
use Rattle.std.proofs.Common.{◌≡◌, ◌*◌, ◌≤◌, take}
use Rattle.layout.specs.Pieces.{span}
use Rattle.layout.proofs.sizes.span.Given as goal

abbrev pub invariant-loop-e : goal.invariant-loop-e
invariant-loop-e l = (l.sum ≡ span (take l.e-index l.entries)) × (l.sum ≤ l.e-index * 4294967295)
