use Rattle.engine.proofs.FeedLaws.{arrived_done}
use Rattle.engine.proofs.Rule.feed_part.Goals as goal

pub returns : goal.returns
returns c =
    arrived_done _ _ c.args.part.now c.requires.one_part.1 c.requires.one_part.0 _ _ _ _ _ c.take_part-a.ensures _ _ c.settle_if_whole.ensures
