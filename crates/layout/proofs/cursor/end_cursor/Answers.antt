-- The layout ends where a further repeat would begin.
use Rattle.std.proofs.Common.{◌∙◌, arith}
use native.Mathlib.Nat.{add-zero}
use Rattle.layout.specs.Pieces.{numbers_from, in_use}
use Rattle.layout.proofs.PieceLaws.{size-repeats}
use Rattle.layout.proofs.AnswerLaws.{length_in_use}
use Rattle.layout.proofs.CursorLaws.{repeat_start, stands_behind}
use Rattle.layout.proofs.cursor.end_cursor.Goals as goal

pub returns : goal.returns
unfolding numbers_from
returns c =
    let l = c.args.l in
    let used = length_in_use l (omega arith) c.requires in
    record {
      stands = stands_behind l used l.repeat 0 (omega arith) (omega arith);
      on = repeat_start l used l.repeat 0 (omega arith) ∙ rw (add-zero, ← size-repeats (in_use l) 0 l.repeat);
    }
