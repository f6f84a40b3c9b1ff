-- Demand 2, errors: "It records no error exactly when every checked byte of every field that isn't escaped is right;
-- otherwise the first bad block, and in it guard before application tag before reference tag." 02, request 6: with it
-- goes "the set of differing checked bytes, as an eight-bit mask in 01's bit order", with "only the reported field's
-- bits". In bytes, for a rule, an input stream and its first n blocks.
--
--   found r stream i                 the field found after block i
--   FoundBytes r stream              its bytes are the stream's own
--   computed r stream i              the field that the input domain's rule computes for block i
--   InMask mask k                    the bit of a mask that stands for byte k is set
--   CheckedByte r stream i k         byte k of block i's field is checked
--   RightByte, GoodByte, BadByte     it is right; right if it is checked; checked and wrong
--   GoodBlock r stream i             all its bytes are good
--   first tag, after tag             a tag's first byte, and the byte after it
--   FirstBadTag r stream i tag       block i is bad, and this is its first bad tag
--   BadBytesOf r stream i tag mask   the mask stands for the bad bytes of this tag
--   ErrorOfBlock r stream i e        the error is that of block i
--   FirstBadBlock r stream n e       the error is that of the first bad block
--   HoldsFirstError r stream n slot  what a slot that was empty holds after n blocks
--   SendFindsFirstError, ReceiveFindsFirstError    so it is after an accepted transfer from an empty slot
use Rattle.std.specs.Prelude.{◌≡◌, true, false, List, ◌↔◌, ℕ, ◌+◌, ◌*◌, ◌/◌, ◌≤◌, ◌<◌, get_or, Some, None, Ok}
use Rattle.guard.specs.Guards.{Bytes}
use Rattle.field.specs.declared.ProtectionField.{ProtectionField}
use Rattle.field.specs.declared.Tag.{Tag}
use Rattle.field.specs.declared.Tag.TheVariants.{Guard, Application, Reference}
use Rattle.field.specs.Domains.{signed}
use Rattle.field.specs.Fields.{field_bytes, bytes_of, bytes_in, field_of, computed_field}
use Rattle.field.specs.Judging.{escaped, value_of}
use Rattle.slot.specs.declared.Error.{Error}
use Rattle.slot.specs.Slots.{Slot}
use Rattle.key.specs.declared.Key.{Key}
use Rattle.engine.specs.declared.Rule.{Rule}
use Rattle.engine.specs.Streams.{in_block, in_unit, input_block, input_field}
use Rattle.engine.specs.Transfers.{guard_by}
use Rattle.transfer.specs.Rules.{send_rule, receive_rule}
use Rattle.transfer.specs.Transferring.{memory_stream, wire_stream, answer_of, send_result, receive_result}

-- The field found after block i.
abbrev pub found : (r : Rule) (stream : List ℕ) (i : ℕ) → ProtectionField
found r stream i = field_of (input_field r stream i)

-- Its bytes are the stream's own.
abbrev pub FoundBytes : (r : Rule) (stream : List ℕ) → Type 0
FoundBytes r stream =
    Bytes stream → signed r.input ≡ true → (i k : ℕ) → k < field_bytes
    → get_or (bytes_of (found r stream i)) k 0 ≡ get_or stream (i * in_unit r + in_block r + k) 0

-- The field that the input domain's rule computes for block i.
abbrev pub computed : (r : Rule) (stream : List ℕ) (i : ℕ) → ProtectionField
computed r stream i = computed_field r.input i (guard_by r.input (input_block r stream i))

-- The bit of a mask that stands for byte k is set. 01: bit 7 stands for the first byte, bit 0 for the last.
abbrev pub InMask : (mask k : ℕ) → Type 0
InMask mask k = get_or (bytes_in mask) k false ≡ true

-- Byte k of block i's field is checked: its bit of the check mask is set, and the block is not escaped. 02, request 2:
-- "all three fields of an escaped block are skipped". `Escape` says in bytes which blocks are escaped.
pub record CheckedByte (r : Rule) (stream : List ℕ) (i k : ℕ) : Type 0 where
  pub masked : InMask r.check_mask k
  pub unescaped : escaped r.input (found r stream i) ≡ false

-- Byte k as found is byte k as computed.
abbrev pub RightByte : (r : Rule) (stream : List ℕ) (i k : ℕ) → Type 0
RightByte r stream i k = get_or (bytes_of (found r stream i)) k 0 ≡ get_or (bytes_of (computed r stream i)) k 0

-- Byte k is right if it is checked.
abbrev pub GoodByte : (r : Rule) (stream : List ℕ) (i k : ℕ) → Type 0
GoodByte r stream i k = CheckedByte r stream i k → RightByte r stream i k

-- Byte k is checked, and it is wrong.
pub record BadByte (r : Rule) (stream : List ℕ) (i k : ℕ) : Type 0 where
  pub checked : CheckedByte r stream i k
  pub wrong : RightByte r stream i k → ⊥

-- All bytes of block i's field are good.
abbrev pub GoodBlock : (r : Rule) (stream : List ℕ) (i : ℕ) → Type 0
GoodBlock r stream i = (k : ℕ) → k < field_bytes → GoodByte r stream i k

-- A tag's first byte in the field.
abbrev pub first : (tag : Tag) → ℕ
first Guard = 0
first Application = 2
first Reference = 4

-- The first byte after a tag.
abbrev pub after : (tag : Tag) → ℕ
after Guard = 2
after Application = 4
after Reference = 8

-- Block i is bad, and this is its first bad tag: one of the tag's bytes is bad, and no byte of the tags before it.
pub record FirstBadTag (r : Rule) (stream : List ℕ) (i : ℕ) (tag : Tag) : Type 0 where
  pub byte : ℕ
  pub from : first tag ≤ byte
  pub to : byte < after tag
  pub bad : BadByte r stream i byte
  pub before : (k : ℕ) → k < first tag → GoodByte r stream i k

-- The mask stands for the bad bytes of this tag: the bit for byte k is set exactly if byte k lies in the tag, is
-- checked, and differs. It has no other bits.
pub record BadBytesOf (r : Rule) (stream : List ℕ) (i : ℕ) (tag : Tag) (mask : ℕ) : Type 0 where
  pub eight_bits : mask < 256
  pub bits :
      (k : ℕ) → k < field_bytes → InMask mask k ↔ ((first tag ≤ k) × (k < after tag) × BadByte r stream i k)

-- The error is that of block i: its first bad tag, whole as the rule computes it (actual), whole as it was found
-- (expected), where the block's data begins in the input stream, and which bytes of that tag are bad.
pub record ErrorOfBlock (r : Rule) (stream : List ℕ) (i : ℕ) (e : Error) : Type 0 where
  pub tag : FirstBadTag r stream i e.mismatch.tag
  pub actual : e.mismatch.actual ≡ value_of e.mismatch.tag (computed r stream i)
  pub expected : e.mismatch.expected ≡ value_of e.mismatch.tag (found r stream i)
  pub offset : e.offset ≡ i * in_unit r
  pub differing : BadBytesOf r stream i e.mismatch.tag e.mismatch.differing

-- The error is that of the first bad block, the one of the n before which all blocks are good.
pub record FirstBadBlock (r : Rule) (stream : List ℕ) (n : ℕ) (e : Error) : Type 0 where
  pub block : ℕ
  pub among : block < n
  pub before : (i : ℕ) → i < block → GoodBlock r stream i
  pub error : ErrorOfBlock r stream block e

-- What a slot that was empty holds after n blocks.
pub record HoldsFirstError (r : Rule) (stream : List ℕ) (n : ℕ) (slot : Slot) : Type 0 where
  pub unsigned : signed r.input ≡ false → slot ≡ None
  pub none : signed r.input ≡ true → (slot ≡ None) ↔ ((i : ℕ) → i < n → GoodBlock r stream i)
  pub some : signed r.input ≡ true → (e : Error) → slot ≡ Some e → FirstBadBlock r stream n e

-- ---- of an accepted transfer from an empty slot

-- An accepted send.
abbrev pub SendFindsFirstError : (k : Key) (memory wire : List ℕ) (offset data_length : ℕ) → Type 0
SendFindsFirstError k memory wire offset data_length =
    k.slot ≡ None → answer_of k memory wire offset data_length ≡ Ok tt
    → HoldsFirstError (send_rule k.signature) (memory_stream k memory offset data_length)
    (data_length / in_block (send_rule k.signature)) (send_result k memory wire offset data_length).key.slot

-- An accepted receive.
abbrev pub ReceiveFindsFirstError : (k : Key) (memory wire : List ℕ) (offset data_length : ℕ) → Type 0
ReceiveFindsFirstError k memory wire offset data_length =
    k.slot ≡ None → answer_of k memory wire offset data_length ≡ Ok tt
    → HoldsFirstError (receive_rule k.signature) (wire_stream k wire data_length)
    (data_length / in_block (receive_rule k.signature)) (receive_result k memory wire offset data_length).key.slot
