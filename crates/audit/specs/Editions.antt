-- The two editions of reference tags (02, request 11): "edition 2 adds i × (block size / 512) under remap". Contracts
-- have the tags from `reference_tag`, answer 20 from `bad_edition` and the copied bytes from `copy_mask`. Here is what
-- these say about an accepted configuration, and examples.
--
--   AcceptedTags d                the editions and the tags of a signed domain that configure accepts
--   TagsAccepted                  AcceptedTags holds for each signed domain of every accepted configuration
--   OneCount                      edition 2 counts the same whatever the block size
--   TagsGoOn, ChecksGoOn          tags and checks go on from any block
--   AllReference mask             all bytes of the reference tag are in the mask
--   field_with d guard tag         a field with this guard and reference tag and the domain's application tag
--   TagsChecked                   which reference tag is good
--   ReferencesAgree a b           both domains have one reference tag, remap flag and edition
--   ReferenceCopied               without a given copy mask, the reference tag is copied exactly if ReferencesAgree
--   tagged, tags, answer_to, read_by_second    what the examples compute
--   EditionExamples               tags, answers, and a stream of edition 1 that is received by edition 2
use Rattle.std.specs.Prelude.{◌≡◌, true, false, List, [], ◌∷◌, ◌++◌, ◌↔◌, ◌⊎◌, ℕ, ◌+◌, ◌*◌, ◌/◌, ◌%◌, ◌^◌, ◌≤◌, ◌<◌, replicate, None, Ok}
use Rattle.field.specs.declared.Domain.{Domain}
use Rattle.field.specs.declared.ProtectionField.{ProtectionField}
use Rattle.field.specs.declared.Tag.TheVariants.{Reference}
use Rattle.field.specs.Domains.{signed, unsigned_domain, remaps}
use Rattle.field.specs.Domains.{edition1, edition2, sector_size, reference_tag, domain_from}
use Rattle.field.specs.Judging.{escaped, judged}
use Rattle.field.specs.Output.{copy_mask}
use Rattle.key.specs.declared.Configuration.{Configuration}
use Rattle.key.specs.Numbers.{number}
use Rattle.key.specs.Configuring.{configure_answer}
use Rattle.key.specs.Keys.{fresh_key, configure_result, check_result}
use Rattle.transfer.specs.Transferring.{receive_result}
use Rattle.audit.specs.Errors.{InMask, first, after}
use Rattle.audit.specs.Cases.{entry, two_entries, key_over, numbers}

-- The editions and the tags of a signed domain that configure accepts. Block i begins at byte i * block size of the
-- data, so edition 2 adds the number of sectors before it.
pub record AcceptedTags (d : Domain) : Type 0 where
  pub known : (d.edition ≡ edition1) ⊎ (d.edition ≡ edition2)
  pub whole : d.edition ≡ edition2 → d.block_size % sector_size ≡ 0
  pub still : remaps d ≡ false → (i : ℕ) → reference_tag d i ≡ d.reference_tag
  pub blocks :
      remaps d ≡ true → d.edition ≡ edition1 → (i : ℕ) → reference_tag d i ≡ (d.reference_tag + i) % 2 ^ 32
  pub sectors :
      remaps d ≡ true → d.edition ≡ edition2
      → (i : ℕ) → reference_tag d i ≡ (d.reference_tag + i * d.block_size / sector_size) % 2 ^ 32

-- `AcceptedTags` holds for each signed domain of every accepted configuration.
abbrev pub TagsAccepted : Type 0
TagsAccepted =
    (memory_length : ℕ) (c : Configuration) → configure_answer memory_length c ≡ Ok tt
    → (signed c.signature.memory ≡ true → AcceptedTags c.signature.memory)
    × (signed c.signature.wire ≡ true → AcceptedTags c.signature.wire)

-- "An array maker's next release counts 512-byte steps whatever the block size": two blocks that begin at the same byte
-- of the data have the same tag, if both domains have edition 2, remap and one configured tag.
abbrev pub OneCount : Type 0
OneCount =
    (a b : Domain) → AcceptedTags a → AcceptedTags b
    → remaps a ≡ true → remaps b ≡ true → a.edition ≡ edition2 → b.edition ≡ edition2
    → a.reference_tag ≡ b.reference_tag
    → (i j : ℕ) → i * a.block_size ≡ j * b.block_size → reference_tag a i ≡ reference_tag b j

-- In the domain that begins at block i of d, block j has the tag of block i + j of d.
abbrev pub TagsGoOn : Type 0
TagsGoOn = (d : Domain) (i j : ℕ) → reference_tag (domain_from d i) j ≡ reference_tag d (i + j)

-- In the domain that begins at block i of d, a field found after block j is judged as after block i + j of d.
abbrev pub ChecksGoOn : Type 0
ChecksGoOn =
    (d : Domain) (check_mask i j guard : ℕ) (found : ProtectionField)
    → judged (domain_from d i) check_mask j guard found ≡ judged d check_mask (i + j) guard found

-- All bytes of the reference tag are in the mask.
abbrev pub AllReference : (mask : ℕ) → Type 0
AllReference mask = (k : ℕ) → first Reference ≤ k → k < after Reference → InMask mask k

-- A field with this guard and reference tag, and the domain's application tag.
abbrev pub field_with : (d : Domain) (guard tag : ℕ) → ProtectionField
field_with d guard tag = record { guard = guard; application = d.application_tag; reference = tag }

-- Take a field with the guard of its block and the domain's application tag, its block not escaped, and all bytes of
-- the reference tag checked. After block i it is good exactly if its reference tag is that of block i.
abbrev pub TagsChecked : Type 0
TagsChecked =
    (d : Domain) (check_mask i guard tag : ℕ) → AllReference check_mask → escaped d (field_with d guard tag) ≡ false
    → (judged d check_mask i guard (field_with d guard tag) ≡ None) ↔ (tag ≡ reference_tag d i)

-- Both domains have one reference tag, remap flag and edition.
pub record ReferencesAgree (a b : Domain) : Type 0 where
  pub tag : a.reference_tag ≡ b.reference_tag
  pub remap : remaps a ≡ remaps b
  pub edition : a.edition ≡ b.edition

-- "Automatic copying of the reference tag also needs equal editions": with two signed domains and attribute flags 0, a
-- byte of the reference tag is copied exactly if `ReferencesAgree` holds. The configured copy mask is ignored. `SendCopies` and
-- `ReceiveCopies` (`Copying`) say what that means for the bytes.
abbrev pub ReferenceCopied : Type 0
ReferenceCopied =
    (mask : ℕ) (a b : Domain) → signed a ≡ true → signed b ≡ true
    → (k : ℕ) → first Reference ≤ k → k < after Reference
    → InMask (copy_mask 0 mask a b) k ↔ ReferencesAgree a b

-- ---- examples

-- A domain with checksums and reference tag 0xFFFFFFFC.
abbrev pub tagged : (kind block_size application_tag flags edition : ℕ) → Domain
tagged kind block_size application_tag flags edition = record {
  kind = kind;
  block_size = block_size;
  guard_type = 1;
  reference_tag = 0xFFFFFFFC;
  seed = 0;
  application_tag = application_tag;
  flags = flags;
  edition = edition;
}

-- The reference tags of four blocks under remap.
abbrev pub tags : (block_size edition : ℕ) → List ℕ
tags block_size edition =
    let d = tagged 1 block_size 0x1234 1 edition in
    reference_tag d 0 ∷ reference_tag d 1 ∷ reference_tag d 2 ∷ reference_tag d 3 ∷ []

-- Configure's numbers for this domain on the wire and for this domain in memory, with the other side unsigned.
abbrev pub answer_to : (d : Domain) → List ℕ
answer_to d =
    let answer : Domain → Domain → ℕ =
    λ (memory wire : Domain).
    number (configure_result fresh_key 8 (record {
      signature = record {
        memory = memory;
        wire = wire;
        attribute_flags = 0;
        check_mask = 0xFF;
        copy_mask = 0;
      };
      layout = two_entries (entry 0 8 0) (entry 0 0 0) 1 1;
    })).outcome in
    answer unsigned_domain d ∷ answer d unsigned_domain ∷ []

-- What check returns after edition 2 has received two blocks of 1,024 zeros whose reference tags end in x and y.
abbrev pub read_by_second : (x y : ℕ) → List ℕ
read_by_second x y =
    let unit : ℕ → List ℕ =
    λ (last : ℕ). replicate 1024 0 ++ (0xFF ∷ 0xFF ∷ 0x12 ∷ 0x34 ∷ 0xFF ∷ 0xFF ∷ 0xFF ∷ last ∷ []) in
    let key = key_over 2048 (tagged 1 1024 0x1234 1 2) 0xFF in
    numbers (check_result (receive_result key (replicate 2048 0) (unit x ++ unit y) 0 2048).key)

pub record EditionExamples : Type 0 where
  -- Edition 1 counts blocks of any size. Edition 2 counts sectors, also over the wrap.
  pub blocks : tags 4096 1 ≡ 0xFFFFFFFC ∷ 0xFFFFFFFD ∷ 0xFFFFFFFE ∷ 0xFFFFFFFF ∷ []
  pub eight_sectors : tags 4096 2 ≡ 0xFFFFFFFC ∷ 4 ∷ 12 ∷ 20 ∷ []
  pub three_sectors : tags 1536 2 ≡ 0xFFFFFFFC ∷ 0xFFFFFFFF ∷ 2 ∷ 5 ∷ []
  pub one_sector : tags 512 2 ≡ tags 512 1
  -- 20: editions 0 and 3, and edition 2 with a block size that is not a multiple of 512, also without remap.
  pub zero : answer_to (tagged 1 512 0x1234 1 0) ≡ 20 ∷ 20 ∷ []
  pub three : answer_to (tagged 1 512 0x1234 1 3) ≡ 20 ∷ 20 ∷ []
  pub part_sector : answer_to (tagged 1 520 0x1234 1 2) ≡ 20 ∷ 20 ∷ []
  pub part_sector_still : answer_to (tagged 1 520 0x1234 0 2) ≡ 20 ∷ 20 ∷ []
  -- 0: edition 2 with 512, and with 4,096, the largest multiple of it that is a block size.
  pub accepted : answer_to (tagged 1 512 0x1234 1 2) ≡ 0 ∷ 0 ∷ []
  pub largest : answer_to (tagged 1 4096 0x1234 0 2) ≡ 0 ∷ 0 ∷ []
  -- A domain of kind 0 ignores its edition.
  pub unsigned : answer_to (tagged 0 520 0x1234 1 3) ≡ 0 ∷ 0 ∷ []
  -- 1 comes before 20, and 20 before 2, which is for the escape flag 2 with the application tag 0xFFFF.
  pub bad_domain_first : answer_to (tagged 1 12 0x1234 1 3) ≡ 1 ∷ 1 ∷ []
  pub escape_tag_later : answer_to (tagged 1 512 0xFFFF 3 3) ≡ 20 ∷ 20 ∷ []
  pub escape_tag : answer_to (tagged 1 512 0xFFFF 3 2) ≡ 2 ∷ 2 ∷ []
  -- A stream of edition 2 has no error. In one of edition 1, the second block has tag 0xFFFFFFFD for 0xFFFFFFFE.
  pub second_by_second : read_by_second 0xFC 0xFE ≡ 0 ∷ 0 ∷ 0 ∷ 0 ∷ 0 ∷ []
  pub first_by_second : read_by_second 0xFC 0xFD ≡ 2 ∷ 0xFFFFFFFE ∷ 0xFFFFFFFD ∷ 1032 ∷ 1 ∷ []
