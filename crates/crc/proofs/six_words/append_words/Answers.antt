use Rattle.crc.specs.Inner.Carried.{value}
use Rattle.crc.proofs.Carrying.{chunk_entered, chunks_entered}
use Rattle.crc.proofs.six_words.append_words.Goals as goal

pub loop-word-preserved : goal.loop-word-preserved
loop-word-preserved c =
    let l = c.loop-word in
    chunk_entered _ l.word-index (value l.y) c.loop-word-test.true c.append_bytes-y.ensures l.invariant

pub returns : goal.returns
returns c = let l = c.loop-word in chunks_entered _ l.word-index (value l.y) c.loop-word-test.false l.invariant
