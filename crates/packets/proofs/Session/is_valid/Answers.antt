-- Each return follows from the tests before it; the bytes taken are computed only once they are known to be within the
-- count limit.
use mathlib.Core.Path.{sym, ◌∙◌}
use Rattle.packets.proofs.PacketLaws.{wire_measured, too_far, countable}
use Rattle.packets.proofs.Session.is_valid.Goals as goal

pub stream_length-wire-requires : goal.stream_length-wire-requires
stream_length-wire-requires c =
    wire_measured c.args.self.now c.requires (sym c.admit-outcome.ensures ∙ c.in-Ok.is)

pub returns-then-wire-progress-clause-valid : goal.returns-then-wire-progress-clause-valid
returns-then-wire-progress-clause-valid c =
    too_far c.args.self.now c.requires (sym c.admit-outcome.ensures ∙ c.in-Ok.is) (rw c.receive_rule-rule.ensures at (sym c.in_step.ensures ∙ c.if-in_step.true)) _ c.stream_length-wire.ensures c.if-wire-progress.true

pub taken-requires : goal.taken-requires
taken-requires c =
    rw c.receive_rule-rule.ensures
    (countable c.args.self.now c.requires (sym c.admit-outcome.ensures ∙ c.in-Ok.is) (rw c.receive_rule-rule.ensures at (sym c.in_step.ensures ∙ c.if-in_step.true)) _ c.stream_length-wire.ensures c.if-wire-progress.false)
