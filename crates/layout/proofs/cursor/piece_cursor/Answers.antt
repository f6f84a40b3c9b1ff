-- The cursor is at byte 0 of the piece of entry i in repeat r.
use Rattle.std.proofs.Common.{refl, arith}
use Rattle.layout.proofs.AnswerLaws.{length_in_use}
use Rattle.layout.proofs.CursorLaws.{piece_ends, stands_at, ahead_at}
use Rattle.layout.proofs.cursor.piece_cursor.Goals as goal

pub cursor_within-requires : goal.cursor_within-requires
cursor_within-requires c =
    let a = c.args in
    let used = length_in_use a.l (omega arith) c.requires.0.used in
    (omega (arith, piece_ends a.l used a.r a.i c.requires.1 c.requires.2 18446744073709551615 c.requires.0), omega arith, omega arith)

pub returns : goal.returns
returns c =
    let a = c.args in
    let used = length_in_use a.l (omega arith) c.requires.0.used in
    rw c.cursor_within.ensures
    (record {
      stands = stands_at a.l used a.r a.i c.requires.1 c.requires.2 _ 0 refl (omega arith);
      on = ahead_at a.l used a.r a.i c.requires.1 c.requires.2 _ 0 refl (omega arith);
      next = omega arith;
    })
