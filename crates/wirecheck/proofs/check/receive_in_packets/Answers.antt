use Rattle.std.proofs.Common.{◌≡◌, ℕ, refl, ap, ◌∙◌}
use Rattle.layout.specs.declared.offset.LayoutOffset.{LayoutOffset}
use Rattle.wirecheck.proofs.Laws.{key_valid_lem, opened_along, opened_never, along_never, along_session, along_next, along_end, along_memory}
use Rattle.wirecheck.proofs.check.receive_in_packets.Goals as goal

pub open-requires : goal.open-requires
open-requires c = key_valid_lem _ _ _ c.requires

pub returns-in_err-session-clause-value : goal.returns-in_err-session-clause-value
returns-in_err-session-clause-value c =
    let z : ◌≡◌ {A = LayoutOffset} c.new.result (record { 0 = 0 }) = ap (λ (n : ℕ). record { 0 = n }) c.new.ensures in
    absurd (opened_never _ c.args.memory.now c.args.wire.now c.requires (λ i. (c.type_inv.wire i).fits) _ (rw z at (c.in_err-session.ensures {u = tt})))

pub returns-in_err-session-clause-memory_after : goal.returns-in_err-session-clause-memory_after
returns-in_err-session-clause-memory_after c =
    let z : ◌≡◌ {A = LayoutOffset} c.new.result (record { 0 = 0 }) = ap (λ (n : ℕ). record { 0 = n }) c.new.ensures in
    absurd (opened_never _ c.args.memory.now c.args.wire.now c.requires (λ i. (c.type_inv.wire i).fits) _ (rw z at (c.in_err-session.ensures {u = tt})))

pub packet-requires : goal.packet-requires
packet-requires c =
    along_session _ c.args.memory.now c.args.wire.now c.loop-packet.invariant.0 (λ i. (c.type_inv.wire i).fits) _ _ _ c.loop-packet.invariant.1

pub finish-requires : goal.finish-requires
finish-requires c =
    along_session _ c.args.memory.now c.args.wire.now c.loop-packet.invariant.0 (λ i. (c.type_inv.wire i).fits) _ _ _ c.loop-packet.invariant.1

pub loop-packet-init : goal.loop-packet-init
loop-packet-init c =
    let z : ◌≡◌ {A = LayoutOffset} c.new.result (record { 0 = 0 }) = ap (λ (n : ℕ). record { 0 = n }) c.new.ensures in
    rw (c.into_iter-packet-iterator.ensures.into_iter_gives, c.chunks-packet-items.ensures.rest)
    (c.requires, opened_along _ c.args.memory.now c.args.wire.now c.requires (λ i. (c.type_inv.wire i).fits) _ (rw z at c.in_ok-session.ensures), refl)

pub loop-packet-preserved : goal.loop-packet-preserved
loop-packet-preserved c = (
  c.loop-packet.invariant.0,
  along_next _ c.args.memory.now c.args.wire.now c.loop-packet.invariant.0 (λ i. (c.type_inv.wire i).fits) _ _ _ c.loop-packet.invariant.1 _ _ c.in-Some.ensures.steps.1.0 c.loop-packet.invariant.2 _ c.packet.ensures.session_after _ c.packet.ensures.memory_after,
  c.packet.auto.memory ∙ c.loop-packet.invariant.2,
)

pub returns-in_err-packet-clause-value : goal.returns-in_err-packet-clause-value
returns-in_err-packet-clause-value c = absurd (along_never _ c.args.memory.now c.args.wire.now c.loop-packet.invariant.0 (λ i. (c.type_inv.wire i).fits) _ _ _ c.loop-packet.invariant.1 _ _ c.in-Some.ensures.steps.1.0 c.loop-packet.invariant.2 _ c.in_err-packet.ensures.totals)

pub returns-in_err-packet-clause-memory_after : goal.returns-in_err-packet-clause-memory_after
returns-in_err-packet-clause-memory_after c = absurd (along_never _ c.args.memory.now c.args.wire.now c.loop-packet.invariant.0 (λ i. (c.type_inv.wire i).fits) _ _ _ c.loop-packet.invariant.1 _ _ c.in-Some.ensures.steps.1.0 c.loop-packet.invariant.2 _ c.in_err-packet.ensures.totals)

pub returns-clause-value : goal.returns-clause-value
returns-clause-value c = c.finish.ensures ∙ along_end _ c.args.memory.now c.args.wire.now c.loop-packet.invariant.0 (λ i. (c.type_inv.wire i).fits) _ _ _ c.loop-packet.invariant.1 c.in-None.ensures.steps.1.0

pub returns-clause-memory_after : goal.returns-clause-memory_after
returns-clause-memory_after c = along_memory _ c.args.memory.now c.args.wire.now c.loop-packet.invariant.0 (λ i. (c.type_inv.wire i).fits) _ _ _ c.loop-packet.invariant.1 c.in-None.ensures.steps.1.0
