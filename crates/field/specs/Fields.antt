-- The protection field (01): guard (2 bytes), application tag (2), reference tag (4), each with the high byte first.
--
--   field_bytes                            a field has 8 bytes
--   guard_bits, application_bits, reference_bits, lowest_guard_bit, lowest_application_bit    bits of a mask
--   two_bytes high low                     a number of two bytes
--   bytes_of field                         the eight bytes of a field
--   field_of bytes                         the field that eight bytes hold
--   computed_field d i guard               the field that a domain's rule computes for block i
--   bytes_in mask                          the field bytes that a mask stands for
use Rattle.std.specs.Prelude.{ℕ, ◌+◌, ◌*◌, ◌/◌, ◌%◌, Bool, List, [], ◌∷◌, slice_index}
use Rattle.field.specs.declared.Domain.{Domain}
use Rattle.field.specs.declared.ProtectionField.{ProtectionField}
use Rattle.field.specs.Domains.{reference_tag}
use Rattle.field.specs.Tests.{bit}

-- How many bytes a field has.
abbrev pub field_bytes : ℕ
field_bytes = 8

-- The bits of a mask that stand for each tag.
abbrev pub guard_bits : ℕ
guard_bits = 0xC0

abbrev pub application_bits : ℕ
application_bits = 0x30

abbrev pub reference_bits : ℕ
reference_bits = 0x0F

-- A mask of this value or more has a bit of the guard.
abbrev pub lowest_guard_bit : ℕ
lowest_guard_bit = 64

-- A mask without guard bits has a bit of the application tag if it is of this value or more.
abbrev pub lowest_application_bit : ℕ
lowest_application_bit = 16

-- A number of two bytes, high byte first.
abbrev pub two_bytes : (high low : ℕ) → ℕ
two_bytes high low = high * 256 + low

-- The eight bytes of a field.
unfoldable pub bytes_of : (field : ProtectionField) → List ℕ
bytes_of f =
    f.guard / 256 ∷ f.guard % 256
    ∷ f.application / 256 ∷ f.application % 256
    ∷ f.reference / 65536 / 256 ∷ f.reference / 65536 % 256
    ∷ f.reference % 65536 / 256 ∷ f.reference % 65536 % 256 ∷ []

-- The field that eight bytes hold.
unfoldable pub field_of : (bytes : List ℕ) → ProtectionField
field_of bs = record {
  guard = two_bytes (slice_index bs 0) (slice_index bs 1);
  application = two_bytes (slice_index bs 2) (slice_index bs 3);
  reference = two_bytes (slice_index bs 4) (slice_index bs 5) * 65536 + two_bytes (slice_index bs 6) (slice_index bs 7);
}

-- The field that a domain's rule computes for block i, whose data has this guard.
unfoldable pub computed_field : (d : Domain) (i guard : ℕ) → ProtectionField
computed_field d i g = record { guard = g; application = d.application_tag; reference = reference_tag d i }

-- The field bytes that a mask stands for. 01: bit 7 stands for the first byte, bit 0 for the last.
abbrev pub bytes_in : (mask : ℕ) → List Bool
bytes_in mask =
    bit mask 128 ∷ bit mask 64 ∷ bit mask 32 ∷ bit mask 16 ∷ bit mask 8 ∷ bit mask 4 ∷ bit mask 2 ∷ bit mask 1 ∷ []
