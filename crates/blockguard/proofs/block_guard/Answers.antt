use Rattle.std.proofs.Common.{arith}
use Rattle.guard.proofs.Laws.{advanced-append, advanced_none, whole_block}
use Rattle.blockguard.proofs.block_guard.Goals as goal

pub loop-part-preserved : goal.loop-part-preserved
loop-part-preserved c = grind (arith, advanced-append)

pub returns : goal.returns
returns c =
    let a = c.args in
    let all = whole_block a.guard_type a.seed a.block.now (grind arith) (λ i. (c.type_inv.block i).fits) in
    grind (arith, advanced_none, all)
