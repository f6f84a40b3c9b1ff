-- Blocks and units of a domain's stream (01, "The transfer rule" and "Packets").
--
--   block_size d other       a domain's block size
--   field_size d             how many field bytes follow each block
--   unit_size d other        a unit of a domain's stream
--   in_block r, in_unit r     the input's block size and unit
--   out_block r, out_unit r   the output's block size and unit
--   input_block r stream i   block i of the input stream
--   input_field r stream i   the field bytes after block i
use Rattle.std.specs.Prelude.{List, cond, ℕ, ◌+◌, ◌*◌, take, drop}
use Rattle.field.specs.declared.Domain.{Domain}
use Rattle.field.specs.Domains.{signed}
use Rattle.field.specs.Fields.{field_bytes}
use Rattle.engine.specs.declared.Rule.{Rule}

-- A domain's block size. A domain without a signature has the other's, or 1 if neither has a signature.
unfoldable pub block_size : (d other : Domain) → ℕ
block_size d other = cond (signed d) d.block_size (cond (signed other) other.block_size 1)

-- How many field bytes follow each block.
unfoldable pub field_size : (d : Domain) → ℕ
field_size d = cond (signed d) field_bytes 0

-- A unit of a domain's stream: a block with its field, or a bare block.
abbrev pub unit_size : (d other : Domain) → ℕ
unit_size d other = block_size d other + field_size d

-- The input's block size.
abbrev pub in_block : (r : Rule) → ℕ
in_block r = block_size r.input r.output

-- The input's unit.
abbrev pub in_unit : (r : Rule) → ℕ
in_unit r = unit_size r.input r.output

-- The output's block size.
abbrev pub out_block : (r : Rule) → ℕ
out_block r = block_size r.output r.input

-- The output's unit.
abbrev pub out_unit : (r : Rule) → ℕ
out_unit r = unit_size r.output r.input

-- Block i of the input stream.
unfoldable pub input_block : (r : Rule) (stream : List ℕ) (i : ℕ) → List ℕ
input_block r stream i = take (in_block r) (drop (i * in_unit r) stream)

-- The field bytes after block i.
unfoldable pub input_field : (r : Rule) (stream : List ℕ) (i : ℕ) → List ℕ
input_field r stream i = take (field_size r.input) (drop (i * in_unit r + in_block r) stream)
