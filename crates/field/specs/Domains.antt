-- What a domain says of its blocks (01, "The protection field").
--
--   t10_dif, block_size_step, block_size_min, block_size_max, guard_type_max, seed_ones    numbers of the rule book
--   remap_flag, escape_by_application_flag, escape_by_both_flag, flags_max    domain flags
--   signed d                   the domain has a signature
--   unsigned_domain             a domain without one
--   has_flag d flag             the domain has this flag
--   remaps d                   the reference tag counts up with each block
--   escapes_by_application d     the application tag alone escapes a block
--   escapes_by_both d            the application tag and the reference tag together escape a block
--   edition1, edition2, sector_size    the editions of reference tags, and what edition 2 counts
--   tag_step d                  how much the reference tag grows from one block to the next
--   tag_at tag step i           a tag i steps on
--   reference_tag d i           the reference tag of block i
--   domain_from d i             the domain whose block 0 is block i of d
use Rattle.std.specs.Prelude.{ℕ, ◌+◌, ◌*◌, ◌/◌, ◌%◌, ◌^◌, Bool, cond, ◌==◌}
use Rattle.field.specs.declared.Domain.{Domain}
use Rattle.field.specs.declared.Flag.{Flag}
use Rattle.field.specs.declared.Flag.TheVariants.{Remap, EscapeByApplication, EscapeByBoth}
use Rattle.field.specs.Tests.{bit}

-- The kind of a domain with a signature. Kind 0 has none.
abbrev pub t10_dif : ℕ
t10_dif = 1

-- A block size is a multiple of the step, from the smallest to the largest.
abbrev pub block_size_step : ℕ
block_size_step = 8

abbrev pub block_size_min : ℕ
block_size_min = 8

abbrev pub block_size_max : ℕ
block_size_max = 4160

-- The guard types are 0 (CRC) and 1 (checksum).
abbrev pub guard_type_max : ℕ
guard_type_max = 1

-- A guard starts from seed 0 or from this one.
abbrev pub seed_ones : ℕ
seed_ones = 0xFFFF

-- 01's values of the domain flags, and their sum.
abbrev pub remap_flag : ℕ
remap_flag = 1

abbrev pub escape_by_application_flag : ℕ
escape_by_application_flag = 2

abbrev pub escape_by_both_flag : ℕ
escape_by_both_flag = 4

abbrev pub flags_max : ℕ
flags_max = 7

-- A domain of kind 1 is T10-DIF; one of kind 0 has no signature.
abbrev pub signed : (d : Domain) → Bool
signed d = d.kind == t10_dif

-- A domain without a signature, all its other numbers 0.
abbrev pub unsigned_domain : Domain
unsigned_domain = record {
  kind = 0;
  block_size = 0;
  guard_type = 0;
  reference_tag = 0;
  seed = 0;
  application_tag = 0;
  flags = 0;
  edition = 0;
}

-- The domain has this flag.
abbrev pub has_flag : (d : Domain) (flag : Flag) → Bool
has_flag d Remap = bit d.flags remap_flag
has_flag d EscapeByApplication = bit d.flags escape_by_application_flag
has_flag d EscapeByBoth = bit d.flags escape_by_both_flag

-- The reference tag counts up with each block.
abbrev pub remaps : (d : Domain) → Bool
remaps d = bit d.flags remap_flag

-- The application tag alone escapes a block.
abbrev pub escapes_by_application : (d : Domain) → Bool
escapes_by_application d = bit d.flags escape_by_application_flag

-- The application tag and the reference tag together escape a block.
abbrev pub escapes_by_both : (d : Domain) → Bool
escapes_by_both d = bit d.flags escape_by_both_flag

-- The editions of reference tags (02, request 11). Edition 1 counts blocks. Edition 2 "counts 512-byte steps whatever
-- the block size"; 512 bytes are a sector.
abbrev pub edition1 : ℕ
edition1 = 1

abbrev pub edition2 : ℕ
edition2 = 2

abbrev pub sector_size : ℕ
sector_size = 512

-- How much the reference tag grows from one block to the next under remap.
unfoldable pub tag_step : (d : Domain) → ℕ
tag_step d = cond (d.edition == edition2) (d.block_size / sector_size) 1

-- A tag i steps on, modulo 2^32. The modulus is of the whole sum.
abbrev pub tag_at : (tag step i : ℕ) → ℕ
tag_at tag step i = (tag + i * step) % 2 ^ 32

-- The reference tag of block i: the configured tag, under remap i steps on.
unfoldable pub reference_tag : (d : Domain) (i : ℕ) → ℕ
reference_tag d i = cond (remaps d) (tag_at d.reference_tag (tag_step d) i) d.reference_tag

-- The domain whose block 0 is block i of d: it has that block's reference tag.
abbrev pub domain_from : (d : Domain) (i : ℕ) → Domain
domain_from d i = record {
  kind = d.kind;
  block_size = d.block_size;
  guard_type = d.guard_type;
  reference_tag = reference_tag d i;
  seed = d.seed;
  application_tag = d.application_tag;
  flags = d.flags;
  edition = d.edition;
}
