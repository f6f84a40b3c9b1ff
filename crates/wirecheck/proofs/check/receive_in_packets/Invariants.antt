use Rattle.std.proofs.Common.{◌≡◌, length}
use Rattle.wirecheck.specs.Inner.Receiving.{Receivable, Along}
use Rattle.wirecheck.proofs.check.receive_in_packets.Given as goal

-- Session and memory are those after the packets that came; the iterator has the rest of the wire.
abbrev pub invariant-loop-packet : goal.invariant-loop-packet
invariant-loop-packet l =
    Receivable l.key (length l.initial.memory) (length l.wire)
    × Along l.key l.initial.memory l.wire l.session l.packet-iterator.rest.now l.memory
    × (length l.memory ≡ length l.initial.memory)
