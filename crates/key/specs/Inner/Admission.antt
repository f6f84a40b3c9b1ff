-- What an accepted configure and an accepted open tell, and what the functions that admit a transfer require.
--
--   GoodDomain d                    what follows if answer 1 does not apply to a T10-DIF domain
--   Sized d                         a T10-DIF domain's blocks are no shorter than their fields
--   Measured d data_length           what computing a stream's length requires
--   Bounded l                       what computing a layout's total requires
--   Blocks d data_length             what an accepted open tells of a T10-DIF domain
--   Admitted k memory_length offset data_length    all that an accepted open tells
use Rattle.std.specs.Prelude.{◌≡◌, true, ℕ, ◌+◌, ◌*◌, ◌%◌, ◌≤◌}
use Rattle.field.specs.declared.Domain.{Domain}
use Rattle.field.specs.Domains.{block_size_min, block_size_max, block_size_step, guard_type_max, seed_ones, signed}
use Rattle.field.specs.Fields.{field_bytes}
use Rattle.layout.specs.declared.Layout.{Layout}
use Rattle.layout.specs.Pieces.{entries_max, pieces_max, total}
use Rattle.layout.specs.Moves.{Placed}
use Rattle.key.specs.declared.Key.{Key}
use Rattle.key.specs.Configuring.{memory_limit}
use Rattle.key.specs.Streams.{stream_length}

-- What follows for a T10-DIF domain if answer 1 does not apply.
pub record GoodDomain (d : Domain) : Type 0 where
  pub least : block_size_min ≤ d.block_size
  pub most : d.block_size ≤ block_size_max
  pub eights : d.block_size % block_size_step ≡ 0
  pub guard : d.guard_type ≤ guard_type_max
  pub seed : d.seed ≤ seed_ones

-- A T10-DIF domain's blocks are no shorter than their fields: so a stream is at most twice as long as its data.
abbrev pub Sized : (d : Domain) → Type 0
Sized d = signed d ≡ true → field_bytes ≤ d.block_size

-- What computing a stream's length requires: a block size, and data that lies in a layout. The data and as many field
-- bytes at most are then below 2^26, far from the end of 64 bits.
pub record Measured (d : Domain) (data_length : ℕ) : Type 0 where
  pub sized : Sized d
  pub short : data_length ≤ memory_limit

-- What computing a layout's total requires, and that it is no more than the memory limit.
pub record Bounded (l : Layout) : Type 0 where
  pub used : l.used ≤ entries_max
  pub few : l.used * l.repeat ≤ pieces_max
  pub small : total l ≤ memory_limit

-- What an accepted open tells of a T10-DIF domain.
pub record Blocks (d : Domain) (data_length : ℕ) : Type 0 where
  pub good : GoodDomain d
  pub whole : data_length % d.block_size ≡ 0

-- All that an accepted open tells.
pub record Admitted (k : Key) (memory_length offset data_length : ℕ) : Type 0 where
  pub configured : k.configured ≡ true
  pub lent : memory_length ≡ k.memory_length
  pub limit : memory_length ≤ memory_limit
  pub placed : Placed k.layout memory_length
  pub bounded : Bounded k.layout
  pub inside : offset + stream_length k.signature.memory data_length ≤ total k.layout
  pub short : data_length ≤ memory_limit
  pub memory : signed k.signature.memory ≡ true → Blocks k.signature.memory data_length
  pub wire : signed k.signature.wire ≡ true → Blocks k.signature.wire data_length
  pub alike :
      signed k.signature.memory ≡ true → signed k.signature.wire ≡ true
      → k.signature.memory.block_size ≡ k.signature.wire.block_size
