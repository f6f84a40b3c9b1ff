-- The output field (01, "The transfer rule"): each byte is copied from the input field or generated from the output
-- domain.
--
--   agreed input output                          the tags in which both domains agree, as a mask
--   copy_mask attribute_flags mask input output    the copy mask in force
--   merged choices copied generated              bytes chosen from two lists
--   output_field mask copied generated            the output field
use Rattle.std.specs.Prelude.{ℕ, ◌+◌, Bool, cond, ◌&&◌, List, [], ◌∷◌, ◌==◌}
use Rattle.std.specs.Bool.{beq}
use Rattle.field.specs.declared.Domain.{Domain}
use Rattle.field.specs.declared.ProtectionField.{ProtectionField}
use Rattle.field.specs.Domains.{signed, remaps}
use Rattle.field.specs.Fields.{guard_bits, application_bits, reference_bits, bytes_of, bytes_in, field_of}

-- What is copied by itself: the guard if guard type and seed agree, the application tag if the configured tags do, the
-- reference tag if configured tag, remap flag and edition do (the edition by 02, request 11).
unfoldable pub agreed : (input output : Domain) → ℕ
agreed a b =
    cond (a.guard_type == b.guard_type && a.seed == b.seed) guard_bits 0
    + cond (a.application_tag == b.application_tag) application_bits 0
    + cond (a.reference_tag == b.reference_tag && (beq (remaps a) (remaps b)
    && a.edition == b.edition)) reference_bits 0

-- The copy mask in force: with the attribute flag the configured one; else, with signatures on both sides, what agrees;
-- else nothing.
unfoldable pub copy_mask : (attribute_flags mask : ℕ) (input output : Domain) → ℕ
copy_mask attribute_flags mask a b = cond (attribute_flags == 0) (cond (signed a && signed b) (agreed a b) 0) mask

-- Each byte is from the first list where its choice is true, else from the second.
unfoldable pub merged : (choices : List Bool) (copied generated : List ℕ) → List ℕ
merged [] xs ys = []
merged (c ∷ cs) [] ys = []
merged (c ∷ cs) (x ∷ xs) [] = []
merged (c ∷ cs) (x ∷ xs) (y ∷ ys) = cond c x y ∷ merged cs xs ys

-- 01's output field, byte by byte: copied where the copy bit is set, else generated.
unfoldable pub output_field : (mask : ℕ) (copied generated : ProtectionField) → ProtectionField
output_field mask copied generated = field_of (merged (bytes_in mask) (bytes_of copied) (bytes_of generated))
