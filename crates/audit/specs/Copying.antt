-- Copied field bytes. The order's fault "a guard worked out anew over spoiled data where the old guard should have been
-- copied" cannot happen: with both sides signed, a field byte whose copy bit is set is output as it came in, whatever
-- the data before it.
--
--   BothSigned s                     both domains are T10-DIF
--   OneGuard s                       no copy mask is given, and the guards are of one type and seed
--   blocks k data_length              how many blocks a transfer has
--   field_byte k j b                  where byte b of the field after block j is in a stream
-- For a key, lent bytes, offset and data length:
--   SentOn b, ReceivedOn b           byte b of each field is output as it came in
--   SendCopies, ReceiveCopies        so it is wherever the copy mask in force says copy
--   SendKeepsGuard, ReceiveKeepsGuard     and so are both guard bytes under OneGuard
use Rattle.std.specs.Prelude.{◌≡◌, true, List, ℕ, ◌+◌, ◌*◌, ◌/◌, ◌<◌, get_or, Ok}
use Rattle.guard.specs.Guards.{Bytes}
use Rattle.field.specs.Domains.{signed}
use Rattle.field.specs.Fields.{field_bytes}
use Rattle.field.specs.Output.{copy_mask}
use Rattle.key.specs.declared.Signature.{Signature}
use Rattle.key.specs.declared.Key.{Key}
use Rattle.key.specs.Keys.{CameFromCalls}
use Rattle.transfer.specs.Transferring.{answer_of, wire_after_send, memory_after_receive}
use Rattle.audit.specs.Errors.{InMask}
use Rattle.audit.specs.Destination.{place_of}

-- Both domains are T10-DIF.
pub record BothSigned (s : Signature) : Type 0 where
  pub memory : signed s.memory ≡ true
  pub wire : signed s.wire ≡ true

-- No copy mask is given by the attribute flag, and the guards are of one type and seed.
pub record OneGuard (s : Signature) : Type 0 where
  pub flag : s.attribute_flags ≡ 0
  pub type : s.memory.guard_type ≡ s.wire.guard_type
  pub seed : s.memory.seed ≡ s.wire.seed

-- How many blocks a transfer has.
abbrev pub blocks : (k : Key) (data_length : ℕ) → ℕ
blocks k data_length = data_length / k.signature.wire.block_size

-- Where byte b of the field after block j is, in the memory stream as in the wire stream.
abbrev pub field_byte : (k : Key) (j b : ℕ) → ℕ
field_byte k j b = j * (k.signature.wire.block_size + field_bytes) + k.signature.wire.block_size + b

module _ (k : Key) (memory wire : List ℕ) (offset data_length : ℕ) where
  -- Byte b of each field is sent as it is in memory.
  abbrev pub SentOn : (b : ℕ) → Type 0
  SentOn b =
      (j : ℕ) → j < blocks k data_length
      → get_or (wire_after_send k memory wire offset data_length) (field_byte k j b) 0
      ≡ get_or memory (place_of k offset (field_byte k j b)) 0

  -- Byte b of each field is received as it is on the wire.
  abbrev pub ReceivedOn : (b : ℕ) → Type 0
  ReceivedOn b =
      (j : ℕ) → j < blocks k data_length
      → get_or (memory_after_receive k memory wire offset data_length) (place_of k offset (field_byte k j b)) 0
      ≡ get_or wire (field_byte k j b) 0

  -- Of an accepted send: wherever bit b of the copy mask in force is set.
  abbrev pub SendCopies : Type 0
  SendCopies =
      CameFromCalls k → answer_of k memory wire offset data_length ≡ Ok tt → Bytes memory → BothSigned k.signature
      → (b : ℕ) → b < field_bytes
      → InMask (copy_mask k.signature.attribute_flags k.signature.copy_mask
      k.signature.memory k.signature.wire) b
      → SentOn b

  -- Of an accepted receive: wherever bit b of the copy mask in force is set.
  abbrev pub ReceiveCopies : Type 0
  ReceiveCopies =
      CameFromCalls k → answer_of k memory wire offset data_length ≡ Ok tt → Bytes wire → BothSigned k.signature
      → (b : ℕ) → b < field_bytes
      → InMask (copy_mask k.signature.attribute_flags k.signature.copy_mask
      k.signature.wire k.signature.memory) b
      → ReceivedOn b

  -- Both guard bytes, so that a damaged block is sent with the guard that it had in memory.
  abbrev pub SendKeepsGuard : Type 0
  SendKeepsGuard =
      CameFromCalls k → answer_of k memory wire offset data_length ≡ Ok tt → Bytes memory → BothSigned k.signature
      → OneGuard k.signature → (b : ℕ) → b < 2 → SentOn b

  -- Both guard bytes, so that a damaged block is stored with the guard that it had on the wire.
  abbrev pub ReceiveKeepsGuard : Type 0
  ReceiveKeepsGuard =
      CameFromCalls k → answer_of k memory wire offset data_length ≡ Ok tt → Bytes wire → BothSigned k.signature
      → OneGuard k.signature → (b : ℕ) → b < 2 → ReceivedOn b
