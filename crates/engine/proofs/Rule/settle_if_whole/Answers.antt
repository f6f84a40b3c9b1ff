use Rattle.engine.proofs.PartLaws.{settled_partial, settled_whole}
use Rattle.engine.proofs.Rule.settle_if_whole.Goals as goal

pub returns-then-input-unit_size : goal.returns-then-input-unit_size
returns-then-input-unit_size c = settled_partial _ _ _ _ _ _ c.unit_size.ensures.0 c.if-input-unit_size.true c.requires.room.stands

pub returns : goal.returns
returns c =
    settled_whole _ _ _ _ _ _ c.unit_size.ensures.0 c.if-input-unit_size.false _ _ _ c.next_unit.ensures c.store_field_if_signed-cursor.ensures
