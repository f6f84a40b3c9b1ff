-- Streams (01, "The transfer rule"): a domain's stream holds the data with a field after each block, or the data alone.
--
--   stream_length d data_length     the length of a domain's stream
use Rattle.std.specs.Prelude.{cond, ℕ, ◌+◌, ◌*◌, ◌/◌}
use Rattle.field.specs.declared.Domain.{Domain}
use Rattle.field.specs.Domains.{signed}
use Rattle.field.specs.Fields.{field_bytes}

-- The length of a domain's stream.
unfoldable pub stream_length : (d : Domain) (data_length : ℕ) → ℕ
stream_length d data_length = cond (signed d) (data_length + data_length / d.block_size * field_bytes) data_length
