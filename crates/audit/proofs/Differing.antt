-- The examples of differing bytes are proved by computing them.
use mathlib.Core.Path.{refl}
use Rattle.audit.proofs.Computing.{opened}
use Rattle.audit.specs.Differing.{DifferingExamples}

-- Check returns the numbers of the examples.
pub differing_examples : DifferingExamples
unfolding opened
differing_examples = record { wrong_tag = refl; half_masked = refl; two_of_four = refl; all_three = refl; two_blocks = refl }
