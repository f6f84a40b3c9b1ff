use Rattle.std.proofs.Common.{sym, ◌∙◌, arith, below_more}
use Rattle.layout.specs.Pieces.{pieces}
use Rattle.layout.proofs.AnswerLaws.{length-pieces, meet_share, share_found, share_none}
use Rattle.layout.proofs.layout_rules.overlapping.Goals as goal

pub returns-then-share_byte : goal.returns-then-share_byte
returns-then-share_byte c =
    let l = c.args.l.now in
    let count = length-pieces l (omega arith) c.requires.0.used in
    sym (share_found (pieces l) c.search.k c.loop-j.j (omega arith) (omega (arith, count))
    (meet_share l _ _ _ _ _ c.extent_of-p.ensures c.extent_of.ensures c.share_byte.ensures ∙ c.if-share_byte.true))

pub search-preserved : goal.search-preserved
search-preserved c =
    let count = length-pieces c.args.l.now (omega arith) c.requires.0.used in
    (c.loop-j.invariant.0, below_more _ _ c.loop-j.invariant.1 (λ j h h'. c.loop-j.invariant.2 j h (omega (arith, count))))

pub returns-after-search : goal.returns-after-search
returns-after-search c =
    let l = c.args.l.now in
    let count = length-pieces l (omega arith) c.requires.0.used in
    c.search.invariant.0 ∙ sym (share_none (pieces l) (λ k j h h'. c.search.invariant.1 k (omega (arith, count)) j h h'))
