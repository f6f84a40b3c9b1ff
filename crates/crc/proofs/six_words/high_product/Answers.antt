use mathlib.Core.Path.{sym, ap, ◌∙◌}
use Rattle.std.specs.List.{fold}
use Rattle.std.proofs.lemmas.List.{at_drop_all}
use Rattle.crc.proofs.Folding.{add_high, high_added}
use Rattle.crc.proofs.six_words.high_product.Goals as goal

pub returns : goal.returns
returns c = λ k ks e.
    let h = c.args.h in
    let l = c.loop-k in
    sym (at_drop_all (fold (add_high h) l.sum) c.args.powers.now l.k-index c.loop-k-test.false)
    ∙ l.invariant
    ∙ ap (fold (add_high h) 0) e
    ∙ high_added h 0 k ks
