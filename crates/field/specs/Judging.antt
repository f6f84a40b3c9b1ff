-- Checking a found field (01, "The transfer rule", "Escape" and "Error slot"; 02, requests 2 and 6).
--
--   escape_application_tag, escape_reference_tag    the tags that escape a block
--   escaped d found                     the found field escapes its block
--   checked_mask d mask found            the bytes to check
--   differs checks found computed       which of the checked bytes differ
--   digit b, mask_of n set               a bit as a number, and a set of bytes as a mask
--   differing mask found computed       the set of differing checked bytes, as a mask
--   bits_of tag set                      the bits of a mask that stand for a tag's bytes
--   value_of tag field                   a tag's value in a field
--   mismatch tag set computed found     a wrong tag with both its values and its differing bytes
--   first_bad set computed found         the first wrong tag, given the set of differing bytes
--   judged d mask i guard found         the judgement of the field found after block i
use Rattle.std.specs.Prelude.{ℕ, ◌+◌, ◌*◌, ◌/◌, ◌%◌, Bool, true, false, cond, not, ◌&&◌, ◌||◌, List, [], ◌∷◌, ◌==◌, nat_le, nat_lt, Option, Some, None}
use Rattle.field.specs.declared.Domain.{Domain}
use Rattle.field.specs.declared.ProtectionField.{ProtectionField}
use Rattle.field.specs.declared.Mismatch.{Mismatch}
use Rattle.field.specs.declared.Tag.{Tag}
use Rattle.field.specs.declared.Tag.TheVariants.{Guard, Application, Reference}
use Rattle.field.specs.Domains.{escapes_by_application, escapes_by_both}
use Rattle.field.specs.Fields.{lowest_guard_bit, lowest_application_bit, bytes_of, bytes_in, computed_field}

-- The tags that escape a block.
abbrev pub escape_application_tag : ℕ
escape_application_tag = 0xFFFF

abbrev pub escape_reference_tag : ℕ
escape_reference_tag = 0xFFFFFFFF

-- The escape (000): the application tag reads 0xFFFF, and under flag 4 the reference tag 0xFFFFFFFF. The field is read
-- whole, whatever the check mask.
unfoldable pub escaped : (d : Domain) (found : ProtectionField) → Bool
escaped d found =
    (found.application == escape_application_tag) &&
    (escapes_by_application d || (escapes_by_both d && found.reference == escape_reference_tag))

-- The bytes to check, as a mask: of an escaped block none, because "all three fields of an escaped block are skipped"
-- (02, request 2).
unfoldable pub checked_mask : (d : Domain) (mask : ℕ) (found : ProtectionField) → ℕ
checked_mask d mask found = cond (escaped d found) 0 mask

-- Which of the checked bytes differ.
unfoldable pub differs : (checks : List Bool) (found computed : List ℕ) → List Bool
differs [] xs ys = []
differs (c ∷ cs) [] ys = []
differs (c ∷ cs) (x ∷ xs) [] = []
differs (c ∷ cs) (x ∷ xs) (y ∷ ys) = (c && not (x == y)) ∷ differs cs xs ys

-- A bit as a number.
abbrev pub digit : (b : Bool) → ℕ
digit true = 1
digit false = 0

-- A set of bytes as a mask, in 01's bit order, after the digits n.
unfoldable pub mask_of : (n : ℕ) (set : List Bool) → ℕ
mask_of n [] = n
mask_of n (b ∷ bs) = mask_of (n * 2 + digit b) bs

-- The set of differing checked bytes, as a mask.
unfoldable pub differing : (mask : ℕ) (found computed : ProtectionField) → ℕ
differing mask found computed = mask_of 0 (differs (bytes_in mask) (bytes_of found) (bytes_of computed))

-- The bits of a mask that stand for a tag's bytes: bits 7 and 6 for the guard, 5 and 4 for the application tag, the
-- others for the reference tag.
abbrev pub bits_of : (tag : Tag) (set : ℕ) → ℕ
bits_of Guard set = set / lowest_guard_bit * lowest_guard_bit
bits_of Application set = set % lowest_guard_bit / lowest_application_bit * lowest_application_bit
bits_of Reference set = set % lowest_application_bit

-- A tag's value in a field.
abbrev pub value_of : (tag : Tag) (field : ProtectionField) → ℕ
value_of Guard f = f.guard
value_of Application f = f.application
value_of Reference f = f.reference

-- The whole of a tag, unmasked: actual is what the rule computes, expected what was found. Of the set of differing
-- bytes it holds the tag's own, "only the reported field's bits" (02, request 6).
abbrev pub mismatch : (tag : Tag) (set : ℕ) (computed found : ProtectionField) → Mismatch
mismatch tag set computed found = record {
  tag = tag;
  actual = value_of tag computed;
  expected = value_of tag found;
  differing = bits_of tag set;
}

-- The first wrong tag, given the set of differing bytes.
unfoldable pub first_bad : (set : ℕ) (computed found : ProtectionField) → Option Mismatch
first_bad set computed found =
    cond (nat_le lowest_guard_bit set) (Some (mismatch Guard set computed found))
    (cond (nat_le lowest_application_bit (set % lowest_guard_bit)) (Some (mismatch Application set computed found))
    (cond (nat_lt 0 (set % lowest_application_bit)) (Some (mismatch Reference set computed found)) None))

-- The judgement of the field found after block i, whose data has this guard, under a domain and a check mask.
unfoldable pub judged : (d : Domain) (mask i guard : ℕ) (found : ProtectionField) → Option Mismatch
judged d mask i g found =
    first_bad (differing (checked_mask d mask found) found (computed_field d i g)) (computed_field d i g) found
