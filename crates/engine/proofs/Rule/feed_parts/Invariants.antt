use lib.ListN.{length}
use Rattle.engine.specs.Inner.Parts.{Going}
use Rattle.engine.proofs.Rule.feed_parts.Given as goal

abbrev pub invariant-loop-rest : goal.invariant-loop-rest
invariant-loop-rest l = Going l.self l.initial.q.progress l.l l.initial.q.cursor l.initial.memory l.bytes l.q l.memory l.rest

abbrev pub decreases-loop-rest : goal.decreases-loop-rest
decreases-loop-rest l = length l.rest
