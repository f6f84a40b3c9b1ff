-- 02, request 9: how much damage a CRC guard is sure to find. "Take a received unit, CRC guard right, both guard bits
-- checked, block not escaped. Change any of its data bits, at least one, all within 16 consecutive bits with high bits
-- first, and leave its field. Then that block's guard is bad, for every block size and both seeds."
--
-- The definitions compare two streams: the intact one, and the one in which unit i was damaged.
--
--   bit_at block n                          bit n of a block, high bits first
--   Differ intact damaged n                bit n is not the same in the two blocks
--   Burst width intact damaged             the two blocks differ, all within `width` consecutive bits
--   Guarded r stream i                     unit i has a CRC guard that is right, and this guard is checked
--   Damaged width r intact damaged i       unit i has a burst in its data, and its field is unchanged
--   sure_bits                               16
--   FindsBursts width                      a burst of at most `width` bits makes a guard bad that was right
--   RecordedUpTo r stream n i slot         the slot holds the error of block i or of one before it
--   ReceiveFindsBurst k memory intact damaged offset data_length i    so it is in an accepted receive
--   rule_a, wire_with                        the rule and the wires of the examples
--   wire_sixteen, wire_seventeen             A's wire with a burst of 16 bits, and with one of 17
--   BurstExamples                          the first is found, the second is not
use Rattle.std.specs.Prelude.{◌≡◌, true, false, List, [], ◌∷◌, ◌++◌, ℕ, ◌+◌, ◌-◌, ◌/◌, ◌%◌, ◌^◌, ◌≤◌, ◌<◌, length, drop, get_or, Some, None, Ok}
use Rattle.guard.specs.Guards.{Bytes}
use Rattle.field.specs.declared.Tag.TheVariants.{Guard}
use Rattle.field.specs.Domains.{signed}
use Rattle.field.specs.Judging.{escaped}
use Rattle.slot.specs.declared.Error.{Error}
use Rattle.slot.specs.Slots.{Slot}
use Rattle.key.specs.declared.Key.{Key}
use Rattle.key.specs.Keys.{CameFromCalls}
use Rattle.engine.specs.declared.Rule.{Rule}
use Rattle.engine.specs.Streams.{in_block, input_block, input_field}
use Rattle.transfer.specs.Rules.{receive_rule}
use Rattle.transfer.specs.Transferring.{wire_stream, answer_of, receive_result}
use Rattle.audit.specs.Errors.{found, InMask, RightByte, after, FirstBadTag, FirstBadBlock}
use Rattle.audit.specs.Cases.{key_over, received, domain_a, field_a, wire}

-- ---- changed bits

-- Bit n of a block, 0 or 1. Bit 0 is the high bit of the first byte, bit 7 its low bit, bit 8 the high bit of the
-- second byte. After the end of the block every bit reads 0, so blocks of one length differ in none of these.
abbrev pub bit_at : (block : List ℕ) (n : ℕ) → ℕ
bit_at block n = get_or block (n / 8) 0 / 2 ^ (7 - n % 8) % 2

-- Bit n is not the same in the two blocks.
abbrev pub Differ : (intact damaged : List ℕ) (n : ℕ) → Type 0
Differ intact damaged n = bit_at intact n ≡ bit_at damaged n → ⊥

-- Two blocks of one length differ in at least one bit, and every bit in which they differ has a number from `start` to
-- start + width - 1.
pub record Burst (width : ℕ) (intact damaged : List ℕ) : Type 0 where
  pub lengths : length damaged ≡ length intact
  pub changed : ℕ
  pub differs : Differ intact damaged changed
  pub start : ℕ
  pub within : (n : ℕ) → Differ intact damaged n → (start ≤ n) × (n < start + width)

-- ---- the unit

-- Unit i has a CRC guard that is right, both bytes of the guard are checked, and the block is not escaped. The "guard
-- bits" of the request are those of the check mask.
pub record Guarded (r : Rule) (stream : List ℕ) (i : ℕ) : Type 0 where
  pub kind : signed r.input ≡ true
  pub crc : r.input.guard_type ≡ 0
  pub right : (k : ℕ) → k < after Guard → RightByte r stream i k
  pub masked : (k : ℕ) → k < after Guard → InMask r.check_mask k
  pub unescaped : escaped r.input (found r stream i) ≡ false

-- Unit i of the damaged stream is that of the intact one with a burst in its data, and its field is unchanged.
pub record Damaged (width : ℕ) (r : Rule) (intact damaged : List ℕ) (i : ℕ) : Type 0 where
  pub block : Burst width (input_block r intact i) (input_block r damaged i)
  pub field : input_field r damaged i ≡ input_field r intact i

-- ---- the statements

-- A CRC guard is sure to find a burst of at most 16 bits.
abbrev pub sure_bits : ℕ
sure_bits = 16

-- If unit i is guarded in the intact stream and has a burst of at most `width` bits in the damaged one, then its guard
-- is bad there: block i is bad in the sense of demand 2, and its guard is its first bad tag. The rule may be that of a
-- receive or of a send, with any block size and any seed below 2^16. The other units of the two streams may differ in
-- any way.
abbrev pub FindsBursts : (width : ℕ) → Type 0
FindsBursts width =
    (r : Rule) (intact damaged : List ℕ) (i : ℕ)
    → Bytes intact → Bytes damaged → r.input.seed < 2 ^ 16
    → Guarded r intact i → Damaged width r intact damaged i → FirstBadTag r damaged i Guard

-- After n blocks the slot holds the error of the first bad block, and that is block i or one before it.
pub record RecordedUpTo (r : Rule) (stream : List ℕ) (n i : ℕ) (slot : Slot) : Type 0 where
  pub error : Error
  pub holds : slot ≡ Some error
  pub first_bad : FirstBadBlock r stream n error
  pub up_to : first_bad.block ≤ i

-- In an accepted receive of the damaged wire the guard of block i is bad. If the slot was empty, the receive records
-- the error of this block or of one before it. There is no premise about the seed, because configure accepts only 0 and
-- 0xFFFF. Once all bytes of a receive by packets have come, its recorded error is that of one receive, by demand 3.
abbrev pub ReceiveFindsBurst : (k : Key) (memory intact damaged : List ℕ) (offset data_length i : ℕ) → Type 0
ReceiveFindsBurst k memory intact damaged offset data_length i =
    let r = receive_rule k.signature in
    let stream = wire_stream k damaged data_length in
    let blocks = data_length / in_block r in
    CameFromCalls k → answer_of k memory damaged offset data_length ≡ Ok tt → i < blocks → Bytes intact → Bytes damaged
    → Guarded r (wire_stream k intact data_length) i
    → Damaged sure_bits r (wire_stream k intact data_length) stream i
    → FirstBadTag r stream i Guard
    × (k.slot ≡ None
    → RecordedUpTo r stream blocks i (receive_result k memory damaged offset data_length).key.slot)

-- ---- the bound is sharp

-- The rule by which the key of case A receives.
abbrev pub rule_a : Rule
rule_a = receive_rule (key_over 16 domain_a 0xFF).signature

-- A's wire, with this data in place of the first block's, 00 00 00 00 00 00 00 01.
abbrev pub wire_with : (block : List ℕ) → List ℕ
wire_with block = block ++ drop 8 (wire field_a 0)

-- A's wire with bits 28 to 43 of its first block changed.
abbrev pub wire_sixteen : List ℕ
wire_sixteen = wire_with (0 ∷ 0 ∷ 0 ∷ 0x0F ∷ 0xFF ∷ 0xF0 ∷ 0 ∷ 1 ∷ [])

-- A's wire with the generator, 0x18BB7, added to its first block at bits 39 to 55. Of these 17 bits it changes 11, the
-- first and the last among them.
abbrev pub wire_seventeen : List ℕ
wire_seventeen = wire_with (0 ∷ 0 ∷ 0 ∷ 0 ∷ 0x01 ∷ 0x8B ∷ 0xB7 ∷ 1 ∷ [])

-- The first unit of A's wire is guarded. The burst of 16 bits is found: check returns the type of a bad guard, the CRC
-- of the damaged block, the guard in the field, offset 0 and the mask of both guard bytes. The burst of 17 bits is not
-- found: check returns zeros. So the statement is false for 17 bits.
pub record BurstExamples : Type 0 where
  pub guarded : Guarded rule_a (wire field_a 0) 0
  pub sixteen : Damaged sure_bits rule_a (wire field_a 0) wire_sixteen 0
  pub sixteen_found : received domain_a 0xFF wire_sixteen ≡ 0 ∷ 32 ∷ 16 ∷ 1 ∷ 0x58CE ∷ 0x8BB7 ∷ 0 ∷ 0xC0 ∷ []
  pub seventeen : Damaged (sure_bits + 1) rule_a (wire field_a 0) wire_seventeen 0
  pub seventeen_missed : received domain_a 0xFF wire_seventeen ≡ 0 ∷ 32 ∷ 16 ∷ 0 ∷ 0 ∷ 0 ∷ 0 ∷ 0 ∷ []
  pub sharp : FindsBursts (sure_bits + 1) → ⊥
