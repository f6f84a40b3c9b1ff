-- The small program's answer for every input (01, "The small program").
--
--   wire_max, unit_a                    the most input bytes, and a unit of the wire
--   signature_a, configuration_a        the configuration of the program
--   received k memory wire            the key after one receive of the whole wire
--   checked_after k                    what check returns for it
--   bad_input wire more                the input is too long, or ends inside a unit
--   answer_by, check_of wire more memory      the program's answer
--   memory_by, memory_of wire more memory     the lent memory after it
use Rattle.std.specs.Prelude.{Result, Bool, ◌||◌, not, cond, List, ℕ, ◌/◌, ◌%◌, eqb, ltb, length, replicate, Ok, Err}
use Rattle.field.specs.Domains.{unsigned_domain}
use Rattle.layout.specs.Pieces.{entries_max}
use Rattle.key.specs.declared.Key.{Key}
use Rattle.key.specs.declared.Signature.{Signature}
use Rattle.key.specs.declared.Configuration.{Configuration}
use Rattle.key.specs.Numbers.{Outcome}
use Rattle.key.specs.declared.refusal.Refusal.TheVariants.{PartialBlock}
use Rattle.key.specs.declared.refusal.Refusal.{Refusal}
use Rattle.key.specs.Keys.{fresh_key, configure_result, check_result}
use Rattle.transfer.specs.Transferring.{receive_result, memory_after_receive}
use Rattle.slot.specs.declared.ErrorNumbers.{ErrorNumbers}

-- The input has at most 65,536 bytes.
abbrev pub wire_max : ℕ
wire_max = 65536

-- A unit of the wire: 8 bytes of data and 8 of protection.
abbrev pub unit_a : ℕ
unit_a = 16

-- Case A's wire domain, no memory signature, all check bits.
abbrev pub signature_a : Signature
signature_a = record {
  memory = unsigned_domain;
  wire = record {
    kind = 1;
    block_size = 8;
    guard_type = 0;
    reference_tag = 0xFFFFFFFF;
    seed = 0;
    application_tag = 0x1234;
    flags = 1;
    edition = 1;
  };
  attribute_flags = 0;
  check_mask = 0xFF;
  copy_mask = 0;
}

-- One entry over 32,768 bytes.
abbrev pub configuration_a : Configuration
configuration_a = record {
  signature = signature_a;
  layout = record {
    entries = replicate entries_max (record { start = record { 0 = 0 }; count = 32768; skip = 0 });
    used = 1;
    repeat = 1;
  };
}

-- The key after one receive of the whole wire. Half of it is data.
abbrev pub received : (k : Key) (memory wire : List ℕ) → Key
received k memory wire = (receive_result k memory wire 0 (length wire / 2)).key

-- The numbers that check returns for it.
abbrev pub checked_after : (k : Key) → Result ErrorNumbers Refusal
checked_after k = Ok (check_result k).error

-- By configure's outcome: what check returns after the receive, or the refusal.
abbrev pub answer_by : (outcome : Outcome) (k : Key) (memory wire : List ℕ) → Result ErrorNumbers Refusal
answer_by (Ok tt) k memory wire = checked_after (received k memory wire)
answer_by (Err r) k memory wire = Err r

-- 01: input above 65,536 bytes, or not a multiple of 16, is refused with 9.
abbrev pub bad_input : (wire : List ℕ) (more : Bool) → Bool
bad_input wire more = more || (ltb wire_max (length wire) || not (eqb (length wire % unit_a) 0))

-- Else the program's answer is that of check after one receive of the whole input, from a fresh key configured over
-- this memory. A memory of fewer than 32,768 bytes gets configure's refusal.
unfoldable pub check_of : (wire : List ℕ) (more : Bool) (memory : List ℕ) → Result ErrorNumbers Refusal
check_of wire more memory =
    cond (bad_input wire more) (Err PartialBlock)
    (answer_by (configure_result fresh_key (length memory) configuration_a).outcome
    (configure_result fresh_key (length memory) configuration_a).key memory wire)

-- The memory that one receive leaves, by configure's outcome.
abbrev pub memory_by : (outcome : Outcome) (k : Key) (memory wire : List ℕ) → List ℕ
memory_by (Ok tt) k memory wire = memory_after_receive k memory wire 0 (length wire / 2)
memory_by (Err r) k memory wire = memory

-- The lent memory afterwards.
unfoldable pub memory_of : (wire : List ℕ) (more : Bool) (memory : List ℕ) → List ℕ
memory_of wire more memory =
    cond (bad_input wire more) memory
    (memory_by (configure_result fresh_key (length memory) configuration_a).outcome
    (configure_result fresh_key (length memory) configuration_a).key memory wire)
