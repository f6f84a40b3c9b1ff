-- The escape: which blocks are escaped, that no byte of theirs is checked, and which blocks never are.
--
-- 02, request 2: "Under flags 2 and 4 all three fields of an escaped block are skipped." For a rule and an input
-- stream:
--
--   AllOnes r stream i from end      bytes `from` to `end` - 1 of the field after block i are FF
--   EscapedBlock r stream i          block i is escaped, by the input domain's flags and the bytes of its field
--   CheckedByEscape r stream         a byte is checked exactly if its check bit is set and its block is not escaped
--   EscapedIsGood r stream           an escaped block is good
--   NeverWrittenIsGood r stream      a unit with a field of FF bytes is good under either escape flag
--   wire_unwritten, unwritten         a wire of FF bytes, received under each guard type with and without an escape flag
--   UnwrittenHolds                   it is an error only without an escape flag
--
-- The order's fault "One site used it as its ordinary tag, and eleven weeks of blocks went unchecked" cannot happen:
-- under an accepted configuration a block with the configured application tag is never escaped, whatever the escape
-- flags.
--
--   NeverEscapes d                   no block with the domain's application tag is escaped
--   EscapeShut k                     so it is for both domains of every configured key
use Rattle.std.specs.Prelude.{◌≡◌, true, false, ◌||◌, List, [], ◌∷◌, ◌↔◌, ◌⊎◌, ℕ, ◌+◌, ◌*◌, ◌≤◌, ◌<◌, get_or, replicate}
use Rattle.guard.specs.Guards.{Bytes}
use Rattle.field.specs.declared.Domain.{Domain}
use Rattle.field.specs.declared.ProtectionField.{ProtectionField}
use Rattle.field.specs.declared.Tag.TheVariants.{Application, Reference}
use Rattle.field.specs.Domains.{signed, escapes_by_application, escapes_by_both}
use Rattle.field.specs.Fields.{field_bytes}
use Rattle.field.specs.Judging.{escaped}
use Rattle.key.specs.declared.Key.{Key}
use Rattle.key.specs.Keys.{CameFromCalls}
use Rattle.engine.specs.declared.Rule.{Rule}
use Rattle.engine.specs.Streams.{in_block, in_unit}
use Rattle.audit.specs.Errors.{InMask, CheckedByte, GoodBlock, first, after}
use Rattle.audit.specs.Cases.{domain, received}

-- ---- escaped blocks

-- Bytes `from` to `end` - 1 of the field after block i are FF in the stream.
abbrev pub AllOnes : (r : Rule) (stream : List ℕ) (i from end : ℕ) → Type 0
AllOnes r stream i from end =
    (k : ℕ) → from ≤ k → k < end → get_or stream (i * in_unit r + in_block r + k) 0 ≡ 0xFF

-- Block i is escaped: by flag 2 if the application tag is FF FF, by flag 4 if the reference tag is FF FF FF FF too. The
-- flags are those of the input domain, and no mask plays a part.
abbrev pub EscapedBlock : (r : Rule) (stream : List ℕ) (i : ℕ) → Type 0
EscapedBlock r stream i =
    ((escapes_by_application r.input ≡ true) × AllOnes r stream i (first Application) (after Application))
    ⊎ ((escapes_by_both r.input ≡ true) × AllOnes r stream i (first Application) (after Reference))

-- Byte k of block i's field is checked, in the sense of demand 2, exactly if its bit of the check mask is set and the
-- block is not escaped.
abbrev pub CheckedByEscape : (r : Rule) (stream : List ℕ) → Type 0
CheckedByEscape r stream =
    Bytes stream → signed r.input ≡ true → (i k : ℕ)
    → CheckedByte r stream i k
    ↔ (InMask r.check_mask k × (EscapedBlock r stream i → ⊥))

-- An escaped block is good, whatever its data, its guard, the guard type, the configured tags and the check mask.
abbrev pub EscapedIsGood : (r : Rule) (stream : List ℕ) → Type 0
EscapedIsGood r stream =
    Bytes stream → signed r.input ≡ true → (i : ℕ) → EscapedBlock r stream i → GoodBlock r stream i

-- A unit that was never written, with a field of FF bytes, is good under either escape flag. Linux's block layer and
-- QEMU's NVMe device don't check such units either.
abbrev pub NeverWrittenIsGood : (r : Rule) (stream : List ℕ) → Type 0
NeverWrittenIsGood r stream =
    Bytes stream → signed r.input ≡ true → escapes_by_application r.input || escapes_by_both r.input ≡ true
    → (i : ℕ) → AllOnes r stream i 0 field_bytes → GoodBlock r stream i

-- ---- a wire that was never written

-- Two units of FF bytes.
abbrev pub wire_unwritten : List ℕ
wire_unwritten = replicate 32 0xFF

-- What receive and check return under this guard type and these flags, with all check bits set.
abbrev pub unwritten : (guard_type flags : ℕ) → List ℕ
unwritten guard_type flags = received (domain guard_type 0 flags) 0xFF wire_unwritten

-- There is no error under flag 2 (flags 3, with remap) and under flag 4 (flags 5), for either guard type. Without an
-- escape (flags 1) the guard of the first block is an error: the CRC of its data is 0x625F and its checksum 0, and
-- 0xFFFF was found.
pub record UnwrittenHolds : Type 0 where
  pub crc_by_application : unwritten 0 3 ≡ 0 ∷ 32 ∷ 16 ∷ 0 ∷ 0 ∷ 0 ∷ 0 ∷ 0 ∷ []
  pub crc_by_both : unwritten 0 5 ≡ 0 ∷ 32 ∷ 16 ∷ 0 ∷ 0 ∷ 0 ∷ 0 ∷ 0 ∷ []
  pub crc_without_escape : unwritten 0 1 ≡ 0 ∷ 32 ∷ 16 ∷ 1 ∷ 0x625F ∷ 0xFFFF ∷ 0 ∷ 0xC0 ∷ []
  pub checksum_by_application : unwritten 1 3 ≡ 0 ∷ 32 ∷ 16 ∷ 0 ∷ 0 ∷ 0 ∷ 0 ∷ 0 ∷ []
  pub checksum_by_both : unwritten 1 5 ≡ 0 ∷ 32 ∷ 16 ∷ 0 ∷ 0 ∷ 0 ∷ 0 ∷ 0 ∷ []
  pub checksum_without_escape : unwritten 1 1 ≡ 0 ∷ 32 ∷ 16 ∷ 1 ∷ 0 ∷ 0xFFFF ∷ 0 ∷ 0xC0 ∷ []

-- ---- blocks that are never escaped

-- No block with the domain's application tag is escaped.
abbrev pub NeverEscapes : (d : Domain) → Type 0
NeverEscapes d =
    signed d ≡ true → (found : ProtectionField) → found.application ≡ d.application_tag → escaped d found ≡ false

-- So it is for both domains of every configured key.
abbrev pub EscapeShut : (k : Key) → Type 0
EscapeShut k =
    CameFromCalls k → k.configured ≡ true → NeverEscapes k.signature.memory × NeverEscapes k.signature.wire
