use Rattle.std.proofs.Common.{sym, ◌∙◌, length}
use Rattle.cstructs.proofs.Laws.{session_told, session_back}
use Rattle.engine.specs.Feeding.{fed}
use Rattle.packets.specs.Sessions.{rule_of, packet_answer, packet_result}
use Rattle.cstructs.specs.CStructs.{session_from_c}
use Rattle.capi.specs.Calls.{c_packet}
use Rattle.capi.proofs.Calls.{taken_with, refused_with}
use Rattle.capi.proofs.session_calls.garoalva_packet.Goals as goal

pub packet-requires : goal.packet-requires
packet-requires c =
    rw c.from-s.ensures (session_told c.args.session (sym c.if-not-is_valid.ensures.valid) c.is_valid.ensures.eight_held)

pub returns-in-Ok-clause-value : goal.returns-in-Ok-clause-value
unfolding c_packet packet_result
returns-in-Ok-clause-value c =
    let s = session_from_c c.args.session in
    rw (c.with_progress.ensures, c.in-Ok.ensures.session_after, c.from-s.ensures, sym c.if-not-is_valid.ensures.valid)
    (taken_with s (fed (rule_of s) s.progress c.args.bytes.now) (packet_answer s (length c.args.memory.now) (length c.args.bytes.now)) c.in-Ok.totals (c.in-Ok.ensures.totals ∙ rw c.from-s.ensures))

pub returns-in-Err-clause-value : goal.returns-in-Err-clause-value
unfolding c_packet packet_result
returns-in-Err-clause-value c =
    let s = session_from_c c.args.session in
    rw (c.number.ensures, sym c.if-not-is_valid.ensures.valid)
    (refused_with s (fed (rule_of s) s.progress c.args.bytes.now) c.args.session (packet_answer s (length c.args.memory.now) (length c.args.bytes.now)) c.in-Err.refusal
    (session_back c.args.session (sym c.if-not-is_valid.ensures.valid)) (c.in-Err.ensures.totals ∙ rw c.from-s.ensures))
