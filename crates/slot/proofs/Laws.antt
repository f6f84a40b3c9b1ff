-- Laws about keeping the first of several errors: an empty slot changes nothing, and the grouping does not matter.
use Rattle.std.specs.Prelude.{Some, None}
use mathlib.Core.Path.{◌≡◌, refl}
use Rattle.slot.specs.Slots.{Slot, keep}

-- Keeping an empty slot leaves the old slot as it is.
pub keep_none : (s : Slot) → keep s None ≡ s
keep_none None = refl
keep_none (Some e) = refl

-- Of three slots the first error is kept, however they are grouped.
pub keep-first : (a b c : Slot) → keep (keep a b) c ≡ keep a (keep b c)
keep-first None b c = refl
keep-first (Some e) b c = refl
