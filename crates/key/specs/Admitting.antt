-- Answers 14, 8, 9, 10 as a transfer and open give them, and 11 for a transfer (01, "Numbered answers").
--
--   partial d data_length                  the data length is not a whole number of d's blocks (9)
--   open_answer k memory_length offset data_length                     open's answer: 14, 8, 9, 10, or Ok
--   transfer_answer k memory_length offset data_length wire_length      a transfer's answer: open's, then 11
use Rattle.std.specs.Prelude.{Bool, ◌&&◌, ◌||◌, not, ℕ, ◌+◌, ◌%◌, eqb, ltb, Ok}
use Rattle.field.specs.declared.Domain.{Domain}
use Rattle.field.specs.Domains.{signed}
use Rattle.layout.specs.Pieces.{total}
use Rattle.key.specs.declared.Key.{Key}
use Rattle.key.specs.Numbers.{Outcome, refuse, then}
use Rattle.key.specs.declared.refusal.Refusal.TheVariants.{MemoryLength, PartialBlock, PastLayout}
use Rattle.key.specs.declared.refusal.Refusal.TheVariants.{ShortWire, NotConfigured}
use Rattle.key.specs.Streams.{stream_length}

-- The data length is not a whole number of a T10-DIF domain's blocks.
abbrev pub partial : (d : Domain) (data_length : ℕ) → Bool
partial d data_length = signed d && not (eqb (data_length % d.block_size) 0)

-- Open's answer: 14, 8, 9, 10. Sums are exact.
unfoldable pub open_answer : (k : Key) (memory_length offset data_length : ℕ) → Outcome
open_answer k memory_length offset data_length =
    refuse (not k.configured) NotConfigured
    (refuse (not (eqb memory_length k.memory_length)) MemoryLength
    (refuse (partial k.signature.memory data_length || partial k.signature.wire data_length) PartialBlock
    (refuse (ltb (total k.layout) (offset + stream_length k.signature.memory data_length)) PastLayout (Ok tt))))

-- A transfer's answer on a wire buffer of this length: open's, then 11.
unfoldable pub transfer_answer : (k : Key) (memory_length offset data_length wire_length : ℕ) → Outcome
transfer_answer k memory_length offset data_length wire_length =
    then (open_answer k memory_length offset data_length)
    (refuse (ltb wire_length (stream_length k.signature.wire data_length)) ShortWire (Ok tt))
