-- The outer loop keeps the invariant that each piece before k shares no byte with a later one. The inner loop keeps it
-- too, and that piece k shares no byte with those between k and j.
use Rattle.std.proofs.Common.{◌≡◌, ◌<◌, ℕ, false, length}
use Rattle.layout.specs.Pieces.{pieces}
use Rattle.layout.specs.Inner.Steps.{Apart}
use Rattle.layout.proofs.layout_rules.overlapping.Given as goal

abbrev pub invariant-search : goal.invariant-search
invariant-search l = (l.met ≡ false) × ((k : ℕ) → k < l.k → (j : ℕ) → k < j → j < length (pieces l.l) → Apart (pieces l.l) k j)

abbrev pub invariant-loop-j : goal.invariant-loop-j
invariant-loop-j l =
    (l.met ≡ false) × ((k : ℕ) → k < l.k → (j : ℕ) → k < j → j < length (pieces l.l) → Apart (pieces l.l) k j)
    × ((j : ℕ) → l.k < j → j < l.j → Apart (pieces l.l) l.k j)
