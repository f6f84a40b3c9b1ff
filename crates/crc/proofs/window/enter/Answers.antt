use mathlib.Core.Path.{refl}
use native.Mathlib.Omega.{arith}
use borrow.Author.Rules.{rules}
use Rattle.crc.specs.Division.{followed}
use Rattle.crc.proofs.Remainders.{same}
use Rattle.crc.proofs.Windowing.{byte_entered}
use Rattle.crc.proofs.window.enter.Goals as goal

pub loop-i-init : goal.loop-i-init
unfolding followed
loop-i-init c = (refl, same refl)

pub loop-i-preserved : goal.loop-i-preserved
loop-i-preserved c =
    let l = c.loop-i in (
      search rules,
      byte_entered l.o c.args.o.now c.args.s.now l.i _ c.loop-i-test.true
          (omega (arith, c.told-o, c.requires, l.invariant.0, c.loop-i-test.true)) refl l.invariant.1,
    )
