use Rattle.crc.proofs.Overlaying.{word_overlaid}
use Rattle.crc.proofs.overlay.add_word.Goals as goal

pub returns : goal.returns
returns c =
    λ v h.
    let a = c.args in
    word_overlaid a.s.now v a.j a.o c.append_word.result _ _ _ c.requires h
    c.word.ensures c.word-last.ensures c.add_four-w.ensures
    c.append_word.ensures
