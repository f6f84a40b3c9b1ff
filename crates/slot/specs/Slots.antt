-- The error slot (01, "Error slot"; 02, request 6).
--
--   Slot                                              an error, or none
--   guard_error, reference_error, application_error    01's error types
--   error_type tag                                   the error type of a wrong tag
--   no_error                                         the numbers of an empty slot
--   error_numbers slot                               the numbers that check returns for a slot
--   keep old new                                    a slot keeps its first error
use Rattle.std.specs.Prelude.{ℕ, Option, Some, None}
use Rattle.std.specs.Option.{option_or}
use Rattle.field.specs.declared.Tag.{Tag}
use Rattle.field.specs.declared.Tag.TheVariants.{Guard, Application, Reference}
use Rattle.slot.specs.declared.Error.{Error}
use Rattle.slot.specs.declared.ErrorNumbers.{ErrorNumbers}

-- A slot holds an error or none.
abbrev pub Slot : Type 0
Slot = Option Error

-- 01's error types, which don't follow the order of the tags in the field.
abbrev pub guard_error : ℕ
guard_error = 1

abbrev pub reference_error : ℕ
reference_error = 2

abbrev pub application_error : ℕ
application_error = 3

-- The error type of a wrong tag.
abbrev pub error_type : (tag : Tag) → ℕ
error_type Guard = guard_error
error_type Reference = reference_error
error_type Application = application_error

-- The numbers of an empty slot.
abbrev pub no_error : ErrorNumbers
no_error = record { error_type = 0; actual = 0; expected = 0; offset = 0; differing = 0 }

-- The numbers that check returns for a slot: actual is what the rule computes, expected what was found, differing the
-- mask of the reported tag's checked bytes in which they differ.
unfoldable pub error_numbers : (slot : Slot) → ErrorNumbers
error_numbers None = no_error
error_numbers (Some e) = record {
  error_type = error_type e.mismatch.tag;
  actual = e.mismatch.actual;
  expected = e.mismatch.expected;
  offset = e.offset;
  differing = e.mismatch.differing;
}

-- A slot keeps its first error.
abbrev pub keep : (old new : Slot) → Slot
keep old new = option_or old new
