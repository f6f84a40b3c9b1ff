-- Of each entry the last repeat ends last.
use Rattle.std.proofs.Common.{◌∙◌, ◌-◌, sym, arith, ltb, rules, tests}
use Rattle.std.proofs.lemmas.Iterator.{YieldsList-from_slice}
use Rattle.std.proofs.lemmas.Iterator.Search.{any_from_yields_List}
use Rattle.layout.specs.declared.Entry.{Entry}
use Rattle.layout.specs.Pieces.{piece_end, piece_of, in_use, pieces}
use Rattle.layout.proofs.PieceLaws.{within_more}
use Rattle.layout.proofs.AnswerLaws.{beyond_pieces, beyond_within}
use Rattle.layout.proofs.layout_rules.outside.Goals as goal

pub returns-clause-applies : goal.returns-clause-applies
returns-clause-applies c =
    let l = c.args.l.now in
    any_from_yields_List (λ (e : Entry). ltb c.args.memory_length (piece_end (piece_of (l.repeat - 1) e))) _ _ _ c.any.ensures.ran
    (YieldsList-from_slice (in_use l) cc) (λ x b q k. search (rules, tests))
    ∙ beyond_pieces c.args.memory_length l c.requires.repeat

pub returns-clause-within : goal.returns-clause-within
returns-clause-within c =
    λ h. within_more c.args.memory_length 18446744073709551615 (pieces c.args.l.now) (omega arith)
    (beyond_within c.args.memory_length (pieces c.args.l.now) (sym (returns-clause-applies c) ∙ h))
