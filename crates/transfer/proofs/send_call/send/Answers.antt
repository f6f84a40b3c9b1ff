-- After the `?` the transfer is accepted, so the laws of an accepted send apply.
use mathlib.Core.Path.{sym, ap, ◌∙◌}
use native.Mathlib.Omega.{arith}
use Rattle.transfer.specs.Transferring.{TransferResult}
use Rattle.transfer.proofs.Laws.{accept}
use Rattle.transfer.proofs.SendLaws.{send_small, send_asks, send_gives}
use Rattle.transfer.proofs.send_call.send.Goals as goal

pub stream_length-taken-requires : goal.stream_length-taken-requires
stream_length-taken-requires c = (accept _ _ _ _ _ c.requires (sym c.in_ok-admit_transfer.ensures)).measured.0

pub stream_length-written-requires : goal.stream_length-written-requires
stream_length-written-requires c = (accept _ _ _ _ _ c.requires (sym c.in_ok-admit_transfer.ensures)).measured.1

pub prefix_layout-requires : goal.prefix_layout-requires
prefix_layout-requires c =
    rw c.stream_length-written.ensures (omega (arith, send_small _ c.args.memory.now c.args.wire.now _ _ c.requires (sym c.in_ok-admit_transfer.ensures) (λ i. (c.type_inv.memory i).fits)))

pub send_stream-slot-requires : goal.send_stream-slot-requires
send_stream-slot-requires c =
    rw (c.prefix_layout.ensures, c.stream_length-written.ensures, c.stream_length-taken.ensures, c.send_rule-rule.ensures)
    (send_asks _ c.args.memory.now c.args.wire.now _ _ c.requires (sym c.in_ok-admit_transfer.ensures) (λ i. (c.type_inv.memory i).fits))

pub keep_error-requires : goal.keep_error-requires
keep_error-requires c = (accept _ _ _ _ _ c.requires (sym c.in_ok-admit_transfer.ensures)).admitted.configured

pub returns-clause-key_after : goal.returns-clause-key_after
returns-clause-key_after c = c.keep_error.ensures ∙ ap (λ (t : TransferResult). t.key) (send_gives _ c.args.memory.now c.args.wire.now _ _ c.requires (sym c.in_ok-admit_transfer.ensures) (λ i. (c.type_inv.memory i).fits) _ _
    (rw (c.prefix_layout.ensures, c.stream_length-written.ensures, c.stream_length-taken.ensures, c.send_rule-rule.ensures) at c.send_stream-slot.ensures)).0

pub returns-clause-wire_after : goal.returns-clause-wire_after
returns-clause-wire_after c = (send_gives _ c.args.memory.now c.args.wire.now _ _ c.requires (sym c.in_ok-admit_transfer.ensures) (λ i. (c.type_inv.memory i).fits) _ _
    (rw (c.prefix_layout.ensures, c.stream_length-written.ensures, c.stream_length-taken.ensures, c.send_rule-rule.ensures) at c.send_stream-slot.ensures)).1
