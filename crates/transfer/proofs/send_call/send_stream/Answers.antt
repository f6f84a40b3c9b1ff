-- The loop invariant is `StreamPartly`; each turn feeds at least one byte of the current piece, so that n - done
-- decreases.
use mathlib.Core.Path.{◌≡◌}
use native.Mathlib.Nat.{sub-zero}
use native.Mathlib.Omega.{arith}
use borrow.Author.Rules.{rules}
use lib.ListN.{length}
use Rattle.layout.proofs.PieceLaws.{placed_more}
use Rattle.transfer.proofs.SendLaws.{stream_start, stream_more, stream_some, stream_ready, stream_turn, stream_sent}
use Rattle.transfer.proofs.send_call.send_stream.Goals as goal

pub walk-c-requires : goal.walk-c-requires
walk-c-requires c =
    (placed_more {n = length c.args.memory.now} (search rules) c.requires.placed, omega (arith, c.requires.inside))

pub walk-cursor-requires : goal.walk-cursor-requires
walk-cursor-requires c =
    (c.requires.near, rw c.new.ensures (omega arith))

pub loop-done-init : goal.loop-done-init
loop-done-init c = stream_start _ _ _ _ _ _ _ c.requires _ (rw c.new.ensures at c.walk-cursor.ensures) _ c.walk-c.ensures _ c.begin-begun.ensures

pub next_piece_if_spent-c-requires : goal.next_piece_if_spent-c-requires
next_piece_if_spent-c-requires c =
    (placed_more {n = length c.args.memory.now} (search rules) c.requires.placed, c.loop-done.invariant.stands, stream_more _ _ _ _ _ _ _ c.requires _ (rw c.new.ensures at c.walk-cursor.ensures) _ c.walk-c.ensures _ _ _ _ c.loop-done-test.true c.loop-done.invariant)

pub rest_of_piece-piece-requires : goal.rest_of_piece-piece-requires
rest_of_piece-piece-requires c = c.next_piece_if_spent-c.ensures.stands.inside _ c.requires.placed

pub feed-p-requires : goal.feed-p-requires
feed-p-requires c =
    rw (sub-zero _)
    (stream_ready _ _ _ _ _ _ _ c.requires _ (rw c.new.ensures at c.walk-cursor.ensures) _ c.walk-c.ensures _ _ _ _ c.loop-done-test.true c.loop-done.invariant
    _ c.next_piece_if_spent-c.ensures _ _ c.rest_of_piece-piece.ensures c.min-m.ensures)

pub forward-c-requires : goal.forward-c-requires
forward-c-requires c = (
  (stream_some _ _ _ _ _ _ _ c.requires _ (rw c.new.ensures at c.walk-cursor.ensures) _ c.walk-c.ensures _ _ _ _ c.loop-done-test.true c.loop-done.invariant
      _ c.next_piece_if_spent-c.ensures _ _ c.rest_of_piece-piece.ensures c.min-m.ensures).1,
  omega (arith, c.next_piece_if_spent-c.ensures.stands.inside _ c.requires.placed),
)

pub loop-done-smaller : goal.loop-done-smaller
loop-done-smaller c =
    let some = stream_some _ _ _ _ _ _ _ c.requires _ (rw c.new.ensures at c.walk-cursor.ensures) _ c.walk-c.ensures _ _ _ _ c.loop-done-test.true c.loop-done.invariant
    _ c.next_piece_if_spent-c.ensures _ _ c.rest_of_piece-piece.ensures c.min-m.ensures in
    omega (arith, some.0, some.2)

pub loop-done-preserved : goal.loop-done-preserved
loop-done-preserved c =
    rw c.forward-c.ensures
    (stream_turn _ _ _ _ _ _ _ c.requires _ (rw c.new.ensures at c.walk-cursor.ensures) _ c.walk-c.ensures _ _ _ _ c.loop-done-test.true c.loop-done.invariant
    _ c.next_piece_if_spent-c.ensures _ _ c.rest_of_piece-piece.ensures c.min-m.ensures _ _ (rw (sub-zero _) at c.feed-p.ensures))

pub returns : goal.returns
returns c =
    let all : c.loop-done.done ≡ c.args.n = omega (arith, c.loop-done.invariant.most, c.loop-done-test.false) in
    stream_sent _ _ _ _ _ _ _ c.requires _ (rw c.new.ensures at c.walk-cursor.ensures) _ c.walk-c.ensures _ _ _ _ all c.loop-done.invariant
