-- After the `?` the packet is accepted, and the cursor is at the place of the next output byte.
use mathlib.Core.Path.{sym}
use Rattle.packets.proofs.PacketLaws.{packet_told, packet_at, packet_feeds, packet_taken, packet_written}
use Rattle.packets.proofs.Session.packet.Goals as goal

pub written-requires : goal.written-requires
written-requires c =
    rw c.receive_rule-rule.ensures (packet_at _ c.requires c.args.bytes.now (packet_told _ _ _ (sym c.in_ok-admit_packet.ensures)).1).0

pub ahead-requires : goal.ahead-requires
ahead-requires c =
    rw (c.written.ensures, c.receive_rule-rule.ensures) (packet_at _ c.requires c.args.bytes.now (packet_told _ _ _ (sym c.in_ok-admit_packet.ensures)).1).1

pub walk-at-requires : goal.walk-at-requires
walk-at-requires c =
    let at = packet_at _ c.requires c.args.bytes.now (packet_told _ _ _ (sym c.in_ok-admit_packet.ensures)).1 in
    (at.2, rw (c.ahead.ensures, c.written.ensures, c.receive_rule-rule.ensures) at.3)

pub feed-fed-requires : goal.feed-fed-requires
feed-fed-requires c =
    rw c.receive_rule-rule.ensures (packet_feeds _ c.requires c.args.bytes.now (packet_told _ _ _ (sym c.in_ok-admit_packet.ensures)).1 _ (packet_told _ _ _ (sym c.in_ok-admit_packet.ensures)).0 _ (rw (c.ahead.ensures, c.written.ensures, c.receive_rule-rule.ensures) at c.walk-at.ensures))

pub taken-requires : goal.taken-requires
taken-requires c =
    rw (c.feed-fed.ensures.progress, c.receive_rule-rule.ensures) (packet_taken _ c.requires c.args.bytes.now (packet_told _ _ _ (sym c.in_ok-admit_packet.ensures)).1)

pub written-requires-2 : goal.written-requires-2
written-requires-2 c =
    rw (c.feed-fed.ensures.progress, c.receive_rule-rule.ensures) (packet_written _ c.requires c.args.bytes.now (packet_told _ _ _ (sym c.in_ok-admit_packet.ensures)).1)
