use Rattle.std.proofs.Common.{sym, ◌∙◌, arith}
use Rattle.layout.proofs.CursorLaws.{all_next, more_pieces}
use Rattle.layout.proofs.cursor.next_piece_if_spent.Goals as goal

pub next_piece-d-requires : goal.next_piece-d-requires
next_piece-d-requires c =
    let l = c.loop-d in
    (c.requires.0, l.invariant.0, more_pieces c.args.l l.d l.invariant.0 c.loop-d-test.true (rw l.invariant.1 c.requires.2))

pub loop-d-smaller : goal.loop-d-smaller
loop-d-smaller c =
    let l = c.loop-d in
    omega (arith, c.next_piece-d.ensures.next, more_pieces c.args.l l.d l.invariant.0 c.loop-d-test.true (rw l.invariant.1 c.requires.2))

pub loop-d-preserved : goal.loop-d-preserved
loop-d-preserved c =
    let l = c.loop-d in
    (c.next_piece-d.ensures.stands, c.next_piece-d.ensures.on ∙ sym (all_next _ l.d l.invariant.0 c.loop-d-test.true) ∙ l.invariant.1)
