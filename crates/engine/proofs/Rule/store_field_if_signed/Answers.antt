use mathlib.Core.Path.{sym, ◌∙◌}
use Rattle.layout.proofs.CursorLaws.{stored_nothing}
use Rattle.engine.proofs.Rule.store_field_if_signed.Goals as goal

pub returns : goal.returns
returns c = rw (sym c.signed.ensures ∙ c.if-signed.false) (stored_nothing _ _ _ c.requires.stands)
