use Rattle.std.proofs.Common.{◌+◌, ◌≤◌, arith, rules, length}
use Rattle.std.proofs.lemmas.Bool.Decides.{nat_tests}
use Rattle.layout.proofs.PieceLaws.{placed_more}
use Rattle.layout.proofs.CursorLaws.{storing_turn, storing_end}
use Rattle.layout.proofs.moves.scatter.Goals as goal

pub next_piece_if_spent-c-requires : goal.next_piece_if_spent-c-requires
next_piece_if_spent-c-requires c =
    let g = c.loop-rest.invariant in
    (placed_more (search rules) c.requires.placed, g.stands, grind (arith, nat_tests, g.room, c.is_empty.ensures, c.loop-rest-test.true))

pub loop-rest-preserved : goal.loop-rest-preserved
loop-rest-preserved c =
    -- The piece ends within the memory.
    let inside : c.next_piece_if_spent-c.result.place.0 + c.next_piece_if_spent-c.result.left ≤ length c.loop-rest.memory =
    rw c.loop-rest.invariant.size (c.next_piece_if_spent-c.ensures.stands.inside _ c.requires.placed) in
    rw c.forward-c.ensures
    (storing_turn _ _ _ _ _ _ _ c.loop-rest.rest.now c.loop-rest.invariant c.next_piece_if_spent-c.ensures _ c.min-n.ensures _ inside c.copy.ensures (search rules))

pub returns : goal.returns
returns c = storing_end _ _ _ _ _ _ c.loop-rest.rest.now (grind (arith, nat_tests, c.is_empty.ensures, c.loop-rest-test.false)) c.loop-rest.invariant
