-- Every repeat has the same number of bytes.
use Rattle.std.proofs.Common.{ℕ, ◌*◌, ap, sym, ◌∙◌}
use Rattle.layout.specs.Pieces.{in_use}
use Rattle.layout.proofs.PieceLaws.{size-repeats}
use Rattle.layout.proofs.sizes.total.Goals as goal

pub returns : goal.returns
returns c =
    let l = c.args.l in
    ap (λ (k : ℕ). l.repeat * k) c.span.ensures.0 ∙ sym (size-repeats (in_use l) 0 l.repeat)
