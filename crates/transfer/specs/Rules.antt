-- The transfer rule for send and receive: which domain is the input (01, "The transfer rule").
--
--   rule_between input output s        the rule for a transfer from one domain to the other
--   send_rule s, receive_rule s         memory is the input; the wire is the input
--   output_of r stream data_length      the output stream
--   error_in r stream data_length       the first error, or none
use Rattle.std.specs.Prelude.{List, ℕ, ◌/◌}
use Rattle.field.specs.declared.Domain.{Domain}
use Rattle.field.specs.Output.{copy_mask}
use Rattle.slot.specs.Slots.{Slot}
use Rattle.key.specs.declared.Signature.{Signature}
use Rattle.engine.specs.declared.Rule.{Rule}
use Rattle.engine.specs.Streams.{in_block, out_block}
use Rattle.engine.specs.Transfers.{output_stream, first_error}

-- The rule for a transfer from the input domain to the output domain.
abbrev pub rule_between : (input output : Domain) (s : Signature) → Rule
rule_between input output s = record {
  input = input;
  output = output;
  check_mask = s.check_mask;
  copy_mask = copy_mask s.attribute_flags s.copy_mask input output;
}

-- Send: memory is the input, the wire the output.
abbrev pub send_rule : (s : Signature) → Rule
send_rule s = rule_between s.memory s.wire s

-- Receive: the wire is the input, memory the output.
abbrev pub receive_rule : (s : Signature) → Rule
receive_rule s = rule_between s.wire s.memory s

-- The output stream for an input stream with data_length data bytes: each side has its own blocks.
abbrev pub output_of : (r : Rule) (stream : List ℕ) (data_length : ℕ) → List ℕ
output_of r stream data_length = output_stream r stream (data_length / in_block r) (data_length / out_block r)

-- Its first error, or none.
abbrev pub error_in : (r : Rule) (stream : List ℕ) (data_length : ℕ) → Slot
error_in r stream data_length = first_error r stream (data_length / in_block r)
