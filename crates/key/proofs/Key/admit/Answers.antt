use Rattle.key.proofs.Laws.{layout_bounded}
use Rattle.key.proofs.Key.admit.Goals as goal

pub past-requires-clause-bounded : goal.past-requires-clause-bounded
past-requires-clause-bounded c = layout_bounded c.args.self.now c.requires c.if-not-self.false
