-- Piece k is that of entry k % used in repeat k / used.
use Rattle.std.proofs.Common.{ap, arith}
use Rattle.layout.specs.declared.offset.MemoryOffset.{MemoryOffset}
use Rattle.layout.proofs.AnswerLaws.{piece_number, piece_fits}
use Rattle.layout.proofs.layout_rules.extent_of.Goals as goal

pub repeat_start-start-requires : goal.repeat_start-start-requires
repeat_start-start-requires c = omega (arith, piece_fits c.args.l.now c.args.k (omega arith) c.requires.0 c.requires.1 c.requires.2)

pub ahead-requires : goal.ahead-requires
ahead-requires c =
    omega (arith, piece_fits c.args.l.now c.args.k (omega arith) c.requires.0 c.requires.1 c.requires.2, ap (λ (m : MemoryOffset). m.0) c.repeat_start-start.ensures)

pub returns : goal.returns
returns c =
    let is = piece_number c.args.l.now c.args.k (omega arith) c.requires.0 c.requires.2 in
    rw (c.ahead.ensures, c.repeat_start-start.ensures) (record { start = rw is; end = rw is })
