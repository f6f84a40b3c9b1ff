-- After the `?` the transfer is accepted, so the laws of an accepted receive apply.
use mathlib.Core.Path.{sym, ap, ◌∙◌}
use native.Mathlib.Nat.{sub-zero}
use Rattle.transfer.specs.Transferring.{TransferResult}
use Rattle.transfer.proofs.Laws.{accept, walkable, receive_asks, receive_gives}
use Rattle.transfer.proofs.receive_call.receive.Goals as goal

pub stream_length-taken-requires : goal.stream_length-taken-requires
stream_length-taken-requires c = (accept _ _ _ _ _ c.requires (sym c.in_ok-admit_transfer.ensures)).measured.1

pub stream_length-written-requires : goal.stream_length-written-requires
stream_length-written-requires c = (accept _ _ _ _ _ c.requires (sym c.in_ok-admit_transfer.ensures)).measured.0

pub walk-at-requires : goal.walk-at-requires
walk-at-requires c = walkable (accept _ _ _ _ _ c.requires (sym c.in_ok-admit_transfer.ensures)).admitted

pub slice_bounds-feed-end : goal.slice_bounds-feed-end
slice_bounds-feed-end c = rw c.stream_length-taken.ensures (accept _ _ _ _ _ c.requires (sym c.in_ok-admit_transfer.ensures)).wire

pub feed-fed-requires : goal.feed-fed-requires
feed-fed-requires c =
    rw (c.begin.ensures, c.receive_rule-rule.ensures, c.stream_length-taken.ensures, sub-zero _)
    (receive_asks _ c.args.memory.now c.args.wire.now _ _ c.requires (sym c.in_ok-admit_transfer.ensures) (λ i. (c.type_inv.wire i).fits) _ c.walk-at.ensures)

pub keep_error-requires : goal.keep_error-requires
keep_error-requires c = (accept _ _ _ _ _ c.requires (sym c.in_ok-admit_transfer.ensures)).admitted.configured

pub returns-clause-key_after : goal.returns-clause-key_after
returns-clause-key_after c = c.keep_error.ensures ∙ ap (λ (t : TransferResult). t.key) (receive_gives _ c.args.memory.now c.args.wire.now _ _ c.requires (sym c.in_ok-admit_transfer.ensures) (λ i. (c.type_inv.wire i).fits) _ c.walk-at.ensures _ _
    (rw (c.begin.ensures, c.receive_rule-rule.ensures, c.stream_length-taken.ensures, sub-zero _) at c.feed-fed.ensures)).0

pub returns-clause-memory_after : goal.returns-clause-memory_after
returns-clause-memory_after c = (receive_gives _ c.args.memory.now c.args.wire.now _ _ c.requires (sym c.in_ok-admit_transfer.ensures) (λ i. (c.type_inv.wire i).fits) _ c.walk-at.ensures _ _
    (rw (c.begin.ensures, c.receive_rule-rule.ensures, c.stream_length-taken.ensures, sub-zero _) at c.feed-fed.ensures)).1
