use Rattle.std.proofs.Common.{◌≡◌, take_all, sym, ◌∙◌, arith}
use Rattle.layout.specs.Pieces.{in_use, span}
use Rattle.layout.specs.Answers.{fits, malformed}
use Rattle.layout.proofs.PieceLaws.{one_in_use}
use Rattle.layout.proofs.AnswerLaws.{fits_not, fits-total, fits_one}
use Rattle.layout.proofs.layout_rules.fits.Goals as goal

pub returns-then-counts_bad : goal.returns-then-counts_bad
unfolding fits malformed
returns-then-counts_bad c = rw (sym c.counts_bad.ensures.applies ∙ c.if-counts_bad.true)

pub returns-then-entry_fits : goal.returns-then-entry_fits
returns-then-entry_fits c =
    let one = one_in_use c.args.l (omega arith) c.if-l-eq1.true in
    sym (fits_one _ c.args.memory_length _ (sym c.if-counts_bad.ensures.applies) one ∙ rw (sym c.entry_fits.ensures ∙ c.if-entry_fits.true))

pub returns-else-entry_fits : goal.returns-else-entry_fits
returns-else-entry_fits c =
    let one = one_in_use c.args.l (omega arith) c.if-l-eq1.true in
    c.if-entry_fits.false ∙ sym (fits_one _ c.args.memory_length _ (sym c.if-counts_bad.ensures.applies) one ∙ rw (sym c.entry_fits.ensures ∙ c.if-entry_fits.false))

pub returns-then-not-entry_fits : goal.returns-then-not-entry_fits
returns-then-not-entry_fits c =
    let l = c.args.l in
    sym (fits_not l c.args.memory_length c.loop-e.e-index (sym c.if-counts_bad.ensures.applies)
    (rw c.in_use-entries.ensures at c.loop-e-test.true) (rw c.in_use-entries.ensures at (sym c.entry_fits-in-loop-e.ensures ∙ c.if-not-entry_fits.true)))

pub returns : goal.returns
returns c =
    let l = c.args.l in
    let xs = c.in_use-entries.ensures in
    let end = rw xs at c.loop-e-test.false in
    let sum : c.loop-e.span ≡ span (in_use l) = rw (xs, take_all c.loop-e.e-index (in_use l) end) at c.loop-e.invariant.0 in
    rw sum
    (sym (fits-total l c.args.memory_length (sym c.if-counts_bad.ensures.applies)
    (λ k h. rw xs at (c.loop-e.invariant.2 k (omega arith)))))
