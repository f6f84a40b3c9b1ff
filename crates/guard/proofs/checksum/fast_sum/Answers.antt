use Rattle.guard.proofs.Laws.{partly_end}
use Rattle.guard.proofs.checksum.fast_sum.Goals as goal

pub returns : goal.returns
returns c = partly_end _ _ _ _ c.loop-eight.rest.now c.loop-eight.invariant.1 c.plain_sum.ensures
