use mathlib.Core.Path.{◌≡◌, ◌∙◌}
use Prim.Native.Nat.{◌+◌, ◌-◌}
use borrow.Author.Rules.{rules}
use lib.ListN.{take, drop}
use Rattle.crc.proofs.Reading.{word_read}
use Rattle.crc.proofs.words.word.Goals as goal

pub returns : goal.returns
returns c =
    let s = c.args.s.now in
    let i = c.args.i in
    let part : c.unwrap.result ≡ take (i + 8 - i) (drop i s) = search rules in
    c.from_be_bytes.ensures ∙ word_read s _ i c.requires (λ k. (c.type_inv.s k).fits) part
