use Rattle.packets.proofs.PacketLaws.{wire_measured}
use Rattle.packets.proofs.Session.wire_length.Goals as goal

pub stream_length-requires : goal.stream_length-requires
stream_length-requires c = wire_measured c.args.self.now c.requires.key c.requires.opened
