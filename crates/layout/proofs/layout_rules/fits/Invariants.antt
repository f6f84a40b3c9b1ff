-- The loop keeps the invariant that the entries before e fit, and the sum is their span.
use Rattle.std.proofs.Common.{◌≡◌, ◌*◌, ◌-◌, ◌≤◌, ◌<◌, ℕ, true, get_or, take}
use Rattle.layout.specs.Pieces.{span}
use Rattle.layout.specs.Inner.Steps.{no_entry, entry_fits}
use Rattle.layout.proofs.layout_rules.fits.Given as goal

abbrev pub invariant-loop-e : goal.invariant-loop-e
invariant-loop-e l =
    (l.span ≡ span (take l.e-index l.entries)) × (l.span ≤ l.e-index * 4294967295)
    × ((k : ℕ) → k < l.e-index → entry_fits l.memory_length (l.fn.l.repeat - 1) (get_or l.entries k no_entry) ≡ true)
