-- 01's number for each answer.
--
--   Outcome                  how a call ends: it is done, or refused
--   refusal_number r          the number of a refusal
--   layout_refusal error      the refusal of a layout error
--   number outcome           the number of an outcome
--   refuse test r rest       the refusal if the test holds, else the rest
--   then first second        the second outcome if the first is Ok
use Rattle.std.specs.Prelude.{Bool, true, false, ℕ, ⊤, Result, Ok, Err}
use Rattle.layout.specs.declared.layout_rules.LayoutError.{LayoutError}
use Rattle.layout.specs.declared.layout_rules.LayoutError.TheVariants as layout
use Rattle.key.specs.declared.refusal.Refusal.{Refusal}
use Rattle.key.specs.declared.refusal.Refusal.TheVariants.{BadDomain, EscapeTag, CopyMask, BlockSizes}
use Rattle.key.specs.declared.refusal.Refusal.TheVariants.{MalformedLayout, OutsideMemory, Overlap, MemoryLength}
use Rattle.key.specs.declared.refusal.Refusal.TheVariants.{PartialBlock, PastLayout, ShortWire}
use Rattle.key.specs.declared.refusal.Refusal.TheVariants.{LongPacket, BytesToCome, NotConfigured, Edition}

-- How a call ends: it is done, or refused.
abbrev pub Outcome : Type 0
Outcome = Result ⊤ Refusal

-- 01's table, "Numbered answers", and the number of 02's request 11.
abbrev pub refusal_number : (r : Refusal) → ℕ
refusal_number BadDomain = 1
refusal_number EscapeTag = 2
refusal_number CopyMask = 3
refusal_number BlockSizes = 4
refusal_number MalformedLayout = 5
refusal_number OutsideMemory = 6
refusal_number Overlap = 7
refusal_number MemoryLength = 8
refusal_number PartialBlock = 9
refusal_number PastLayout = 10
refusal_number ShortWire = 11
refusal_number LongPacket = 12
refusal_number BytesToCome = 13
refusal_number NotConfigured = 14
refusal_number Edition = 20

-- Answers 5 to 7 are those of a layout error.
abbrev pub layout_refusal : (error : LayoutError) → Refusal
layout_refusal layout.Malformed = MalformedLayout
layout_refusal layout.Outside = OutsideMemory
layout_refusal layout.Overlapping = Overlap

-- 0 is done.
abbrev pub number : (outcome : Outcome) → ℕ
number (Ok tt) = 0
number (Err r) = refusal_number r

-- The refusal if the test holds, else what the tests after it give.
abbrev pub refuse : (test : Bool) (r : Refusal) (rest : Outcome) → Outcome
refuse true r rest = Err r
refuse false r rest = rest

-- The second outcome if the first is Ok, else the first.
abbrev pub then : (first second : Outcome) → Outcome
then (Ok tt) second = second
then (Err r) second = Err r
