-- What the engine does, one byte of the input stream after the other. `proofs/` shows that it is the transfer rule.
--
--   checks_guard r, makes_guard r    the input guard, the output guard is computed
--   side_at d i                     the start of block i
--   side_after d computes s b       a side after one data byte
--   arrived r p b                  the progress after a byte, before its unit is closed
--   whole r p                      the input unit is whole
--   field_made r p, field_due r p    the output field of the current unit
--   error_due r p                   the error of the current unit
--   next_unit r p                   the progress at the start of the next unit
--   settled r p                    the next unit if the current one is whole
--   placed r p, shown r p b        what is stored when a unit is closed, and when a byte arrives
--   fed r p bytes                  the progress after these bytes
--   emitted r p bytes              the output bytes stored for them
--   begun r slot                   the progress before the first byte
use Rattle.std.specs.Prelude.{Bool, ◌&&◌, not, cond, List, [], ◌∷◌, ◌++◌, ℕ, ◌+◌, ◌-◌, ◌/◌, ◌%◌, eqb, ltb, leb, set}
use Rattle.guard.specs.Guards.{started, stepped, guard_value}
use Rattle.field.specs.declared.Domain.{Domain}
use Rattle.field.specs.Domains.{signed}
use Rattle.field.specs.Fields.{lowest_guard_bit, bytes_of, field_of, computed_field}
use Rattle.field.specs.Output.{output_field}
use Rattle.slot.specs.Slots.{Slot, keep}
use Rattle.engine.specs.declared.Rule.{Rule}
use Rattle.engine.specs.declared.Side.{Side}
use Rattle.engine.specs.declared.Progress.{Progress}
use Rattle.engine.specs.Streams.{in_block, in_unit}
use Rattle.engine.specs.Transfers.{error_by}

-- The input guard is computed if a guard byte is checked.
unfoldable pub checks_guard : (r : Rule) → Bool
checks_guard r = signed r.input && leb lowest_guard_bit r.check_mask

-- The output guard is computed if a guard byte is generated, that is unless both guard bits of the copy mask are set.
unfoldable pub makes_guard : (r : Rule) → Bool
makes_guard r = signed r.output && not (eqb (r.copy_mask / lowest_guard_bit % 4) 3)

-- The start of block i of a domain's stream.
abbrev pub side_at : (d : Domain) (i : ℕ) → Side
side_at d i = record { index = i; at = 0; guard = started d.seed }

-- A side after one data byte.
abbrev pub side_after : (d : Domain) (computes : Bool) (s : Side) (b : ℕ) → Side
side_after d computes s b = record {
  index = s.index;
  at = s.at + 1;
  guard = cond computes (stepped d.guard_type s.guard b) s.guard;
}

-- A byte arrives: as data, for both sides, or as a byte of the input field, which is held.
unfoldable pub arrived : (r : Rule) (p : Progress) (b : ℕ) → Progress
arrived r p b =
    cond (ltb p.input.at (in_block r))
    (record {
      input = side_after r.input (checks_guard r) p.input b;
      output = side_after r.output (makes_guard r) p.output b;
      held = p.held;
      slot = p.slot;
    })
    (record {
      input = record { index = p.input.index; at = p.input.at + 1; guard = p.input.guard };
      output = p.output;
      held = set p.held (p.input.at - in_block r) b;
      slot = p.slot;
    })

-- The input unit is whole.
abbrev pub whole : (r : Rule) (p : Progress) → Bool
whole r p = eqb p.input.at (in_unit r)

-- The output field of the current unit.
unfoldable pub field_made : (r : Rule) (p : Progress) → List ℕ
field_made r p =
    bytes_of
    (output_field r.copy_mask (field_of p.held)
    (computed_field r.output p.output.index (guard_value r.output.guard_type p.output.guard)))

-- It is stored if the output is signed.
abbrev pub field_due : (r : Rule) (p : Progress) → List ℕ
field_due r p = cond (signed r.output) (field_made r p) []

-- The error of the current unit.
unfoldable pub error_due : (r : Rule) (p : Progress) → Slot
error_due r p = error_by r p.input.index (guard_value r.input.guard_type p.input.guard) p.held

-- The next unit: the current one is judged, the first error is kept, and the next blocks begin.
abbrev pub next_unit : (r : Rule) (p : Progress) → Progress
next_unit r p = record {
  input = side_at r.input (p.input.index + 1);
  output = side_at r.output (p.output.index + 1);
  held = p.held;
  slot = keep p.slot (error_due r p);
}

-- If the input unit is whole, the next begins.
unfoldable pub settled : (r : Rule) (p : Progress) → Progress
settled r p = cond (whole r p) (next_unit r p) p

-- What is stored if the input unit is whole.
abbrev pub placed : (r : Rule) (p : Progress) → List ℕ
placed r p = cond (whole r p) (field_due r p) []

-- What is stored as a byte arrives.
abbrev pub shown : (r : Rule) (p : Progress) (b : ℕ) → List ℕ
shown r p b = cond (ltb p.input.at (in_block r)) (b ∷ []) []

-- The progress after these bytes.
unfoldable pub fed : (r : Rule) (p : Progress) (bytes : List ℕ) → Progress
fed r p [] = p
fed r p (b ∷ bytes) = fed r (settled r (arrived r p b)) bytes

-- The output bytes stored for these bytes.
unfoldable pub emitted : (r : Rule) (p : Progress) (bytes : List ℕ) → List ℕ
emitted r p [] = []
emitted r p (b ∷ bytes) = (shown r p b ++ placed r (arrived r p b)) ++ emitted r (settled r (arrived r p b)) bytes

-- The progress before the first byte, with this slot.
abbrev pub begun : (r : Rule) (slot : Slot) → Progress
begun r slot = record {
  input = side_at r.input 0;
  output = side_at r.output 0;
  held = 0 ∷ 0 ∷ 0 ∷ 0 ∷ 0 ∷ 0 ∷ 0 ∷ 0 ∷ [];
  slot = slot;
}
