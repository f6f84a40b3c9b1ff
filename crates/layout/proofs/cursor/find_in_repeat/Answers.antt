use Rattle.std.proofs.Common.{◌≡◌, ◌<◌, ℕ, List, sym, refl, ◌∙◌, arith, rules, get_or, drop, length, ap, [], drop_of_length-le, ◌≤◌}
use Rattle.std.proofs.lemmas.List.Sums.{sum_by-drop_more}
use Rattle.std.proofs.Math.Seq.{get_or-take}
use Rattle.layout.specs.declared.Entry.{Entry}
use Rattle.layout.specs.declared.Layout.{Layout}
use Rattle.layout.specs.Pieces.{in_use, span, numbers_from}
use Rattle.layout.specs.Inner.Steps.{no_entry}
use Rattle.layout.proofs.AnswerLaws.{length_in_use}
use Rattle.layout.proofs.CursorLaws.{repeat_start, stands_behind, piece_ends, walked_at, pass}
use Rattle.layout.proofs.cursor.find_in_repeat.Goals as goal

-- An entry in use is that entry of the layout.
entry_at : (l : Layout) (xs : List Entry) (i : ℕ) → xs ≡ in_use l → i < l.used → get_or xs i no_entry ≡ get_or l.entries i no_entry
entry_at l xs i e h = rw e (get_or-take l.used l.entries i no_entry h)

-- A byte of the repeat below the count of entry 0 lies in entry 0.
pub cursor_within-requires : goal.cursor_within-requires
cursor_within-requires c =
    let used = length_in_use c.args.l (omega arith) c.requires.0.used in
    (omega (arith, piece_ends c.args.l used c.args.r 0 c.requires.1 c.if-l-gt0.true 18446744073709551615 c.requires.0), omega (arith, c.if-x-e.true), search rules)

pub returns-then-x-e : goal.returns-then-x-e
returns-then-x-e c =
    let l = c.args.l in
    let used = length_in_use l (omega arith) c.requires.0.used in
    walked_at l used c.args.r 0 c.requires.1 c.if-l-gt0.true _ c.args.x refl (omega (arith, c.if-x-e.true)) _ _ c.cursor_within.ensures
    (repeat_start l used c.args.r c.args.x (omega (arith, c.requires.1)))

pub loop-i-init : goal.loop-i-init
loop-i-init c =
    let used = length_in_use c.args.l (omega arith) c.requires.0.used in
    (c.requires.2, repeat_start c.args.l used c.args.r c.args.x (omega (arith, c.requires.1)))

pub cursor_within-requires-then-y-count : goal.cursor_within-requires-then-y-count
cursor_within-requires-then-y-count c =
    let l = c.args.l in
    let used = length_in_use l (omega arith) c.requires.0.used in
    let i : c.loop-i.i < l.used = omega (arith, used, ap (length {A = Entry}) c.in_use-e-items.ensures) in
    let e = entry_at l _ c.loop-i.i c.in_use-e-items.ensures i in
    (rw e (omega (arith, piece_ends l used c.args.r c.loop-i.i c.requires.1 i 18446744073709551615 c.requires.0)), omega (arith, c.if-y-count.true), omega arith)

pub returns-then-y-count : goal.returns-then-y-count
returns-then-y-count c =
    let l = c.args.l in
    let used = length_in_use l (omega arith) c.requires.0.used in
    let i : c.loop-i.i < l.used = omega (arith, used, ap (length {A = Entry}) c.in_use-e-items.ensures) in
    let e = entry_at l _ c.loop-i.i c.in_use-e-items.ensures i in
    let less : c.loop-i.y ≤ (get_or c.in_use-e-items.result.now c.loop-i.i no_entry).count = omega (arith, c.if-y-count.true) in
    walked_at l used c.args.r c.loop-i.i c.requires.1 i _ c.loop-i.y refl (rw e at less) _ _ (rw e at c.cursor_within-then-y-count.ensures) c.loop-i.invariant.1

pub loop-i-preserved : goal.loop-i-preserved
loop-i-preserved c =
    let l = c.args.l in
    let used = length_in_use l (omega arith) c.requires.0.used in
    let i : c.loop-i.i < l.used = omega (arith, used, ap (length {A = Entry}) c.in_use-e-items.ensures) in
    let e = entry_at l _ c.loop-i.i c.in_use-e-items.ensures i in
    let left = sum_by-drop_more (λ (e : Entry). e.count) (in_use l) c.loop-i.i no_entry (omega (arith, used)) in
    let same = ap (λ (xs : List Entry). (get_or xs c.loop-i.i no_entry).count) c.in_use-e-items.ensures in (
      omega (arith, left, same, c.loop-i.invariant.0),
      rw e (sym (pass l used c.args.r c.loop-i.i c.requires.1 i c.loop-i.y (rw e at c.if-y-count.false)) ∙ c.loop-i.invariant.1),
    )

pub returns : goal.returns
unfolding numbers_from
returns c =
    let l = c.args.l in
    let used = length_in_use l (omega arith) c.requires.0.used in
    let all : c.loop-i.i ≡ l.used = omega (arith, used, ap (length {A = Entry}) c.in_use-e-items.ensures) in
    let past : drop c.loop-i.i (in_use l) ≡ [] = drop_of_length-le (in_use l) {i = c.loop-i.i} (omega (arith, used)) in
    let none_left : c.loop-i.y ≡ 0 = omega (arith, c.loop-i.invariant.0, ap (λ (es : List Entry). span es) past) in
    record {
      stands = stands_behind l used c.args.r l.used (omega (arith, c.requires.1)) (omega arith);
      on = rw (all, none_left) at c.loop-i.invariant.1;
    }
