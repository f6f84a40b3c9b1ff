use mathlib.Core.Path.{◌∙◌}
use Rattle.crc.specs.Inner.Carried.{value}
use Rattle.crc.proofs.Carrying.{chunk_entered, chunks_entered, chunks_and_rest}
use Rattle.crc.proofs.six_words.finish.Goals as goal

pub loop-six-preserved : goal.loop-six-preserved
loop-six-preserved c =
    let l = c.loop-six in
    chunk_entered _ l.six-index (value l.y) c.loop-six-test.true c.append_six-y.ensures l.invariant

pub returns : goal.returns
returns c =
    let l = c.loop-six in
    c.finish_words.ensures
    ∙ chunks_and_rest 48 (value c.args.x) c.args.s.now _ _ c.as_chunks.ensures.front c.as_chunks.ensures.back
    (chunks_entered _ l.six-index (value l.y) c.loop-six-test.false l.invariant)
