use mathlib.Core.Path.{refl, ◌∙◌}
use native.Mathlib.Omega.{arith}
use Rattle.crc.specs.Inner.Carried.{value}
use Rattle.crc.proofs.Reading.{five_joined}
use Rattle.crc.proofs.Overlaying.{overlay-begun}
use Rattle.crc.proofs.overlay.begin.Goals as goal

pub returns : goal.returns
returns c =
    let last = c.word-last.ensures in
    let before = c.word-before.ensures in
    let s = c.args.s.now in
    record {
      sum =
          overlay-begun s c.args.v _ _ _ _ _ _ _ _ _
          (value c.append_word.result) (value c.append_word-2.result) c.requires
          (c.only_word.ensures ∙ c.from_be_bytes-a.ensures ∙ five_joined s 243 (omega (arith, c.requires)) (λ i. (c.type_inv.s i).fits)) last before c.word.ensures
          c.word-2.ensures c.word-3.ensures refl refl c.add_four-d.ensures
          c.append_word.ensures c.append_word-2.ensures c.append_word-3.ensures;
      last = last;
      before = before;
    }
