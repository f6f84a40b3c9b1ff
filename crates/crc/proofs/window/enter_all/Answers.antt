use mathlib.Core.Path.{◌∙◌}
use Rattle.crc.proofs.Windowing.{stride_entered, none_left}
use Rattle.crc.proofs.window.enter_all.Goals as goal

pub loop-part-preserved : goal.loop-part-preserved
loop-part-preserved c =
    let steps = c.in-Some.ensures.steps in
    let l = c.loop-part in (
      steps.0 ∙ l.invariant.0,
      stride_entered l.o _ _ _ _ c.in-Some.part.now steps.1.0 c.enter.ensures.stands c.move_to_start.ensures.there
          l.invariant.1,
    )

pub returns : goal.returns
returns c = none_left _ _ c.in-None.ensures.steps.1.0 c.loop-part.invariant.1
