-- The loop keeps the invariant that feeding the rest leads to the same result as feeding all bytes.
use native.Mathlib.Nat.{sub-zero}
use borrow.Author.Rules.{part_to_end}
use Rattle.engine.proofs.FeedLaws.{going_turn}
use Rattle.engine.proofs.Rule.feed_parts.Goals as goal

pub loop-rest-preserved : goal.loop-rest-preserved
loop-rest-preserved c =
    let n = c.part_length-n in
    rw (part_to_end c.loop-rest.rest.now n.result)
    (going_turn _ _ _ _ _ _ _ _ _ c.loop-rest.invariant n.result _ _ (rw (sub-zero n.result) at c.feed_part-q.ensures))
