use mathlib.Core.Path.{◌∙◌}
use borrow.Author.Rules.{rules}
use Rattle.std.proofs.lemmas.Iterator.{YieldsList-from_slice}
use Rattle.std.proofs.lemmas.Iterator.Consumers.{fold_from_yields_List}
use Rattle.crc.specs.Crc.{crc_byte}
use Rattle.crc.proofs.Registers.{crc_fold}
use Rattle.crc.proofs.bytes.enter.Goals as goal

pub returns : goal.returns
returns c =
    fold_from_yields_List _ crc_byte _ _ c.fold.ensures.ran
    (YieldsList-from_slice c.args.bytes.now c.iter.ensures.rest)
    (λ a x b q h. search rules)
    ∙ crc_fold c.args.start c.args.bytes.now
