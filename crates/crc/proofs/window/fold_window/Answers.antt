use mathlib.Core.Path.{ap₂, ◌∙◌}
use native.Mathlib.Omega.{arith}
use lib.ListN.{take, drop, length-drop}
use lib.Seq.{length-take-le}
use Rattle.crc.specs.Division.{followed}
use Rattle.crc.proofs.Remainders.{same, then}
use Rattle.crc.proofs.Carrying.{chunks_whole}
use Rattle.crc.proofs.Windowing.{first_then}
use Rattle.crc.proofs.window.fold_window.Goals as goal

pub returns : goal.returns
returns c =
    let o = c.args.o.now in
    let p = length-drop 1 o in
    let q = length-take-le 368 (drop 1 o) (omega (arith, c.told-o, p)) in
    then c.append_words.ensures
    (same
    (ap₂ (followed 8) (c.only_word.ensures ∙ c.from.ensures)
    (chunks_whole 8 (take 368 (drop 1 o)) _ c.as_chunks.ensures.front (omega (arith, q)))
    ∙ first_then o 368 (omega (arith, c.told-o))))
