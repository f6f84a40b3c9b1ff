use mathlib.Core.Path.{◌∙◌}
use Rattle.crc.specs.Inner.Carried.{value}
use Rattle.crc.proofs.Carrying.{chunks_and_rest}
use Rattle.crc.proofs.six_words.finish_words.Goals as goal

pub returns : goal.returns
returns c =
    c.finish_bytes.ensures
    ∙ chunks_and_rest 8 (value c.args.x) c.args.s.now _ _ c.as_chunks.ensures.front c.as_chunks.ensures.back
    c.append_words.ensures
