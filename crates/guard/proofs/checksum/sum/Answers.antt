use Rattle.std.proofs.Common.{arith}
use Rattle.guard.specs.Guards.{Bytes}
use Rattle.guard.proofs.Laws.{advanced_even, advanced_odd_place, rounds_here}
use Rattle.guard.proofs.checksum.sum.Goals.{then-g+in-Some, else-g}
use Rattle.guard.proofs.checksum.sum.Goals as goal

pub returns : goal.returns
returns c =
    let bytes : Bytes c.args.part.now = λ i. (c.type_inv.part i).fits in
    let p = c.fast_sum.ensures _ c.round.ensures in
    elim c.if-g.branch [
      | then-g+in-Some w ↦
          let e = w.in-Some.ensures.cases.0 in
          rw (w.from-is, e)
          (advanced_odd_place 0 c.args.g.value _ _ _ _ (rw e at bytes) (grind arith) w.if-g.true
          (rw (w.from-is, w.from.ensures, w.from-then-g.ensures) at p))
      | else-g w ↦
          rw w.from-is
          (advanced_even 0 c.args.g.value _ _ _ c.args.part.now bytes (rounds_here _ (grind arith)) w.if-g.false
          (rw (w.from-is, w.from-else-g.ensures) at p))
    ]
