-- This law proves cases A to L by computing both sides.
use mathlib.Core.Path.{refl}
use Rattle.audit.specs.Cases.{worked, said, CasesHold}
use Rattle.audit.proofs.Computing.{opened}

pub cases_hold : CasesHold
unfolding opened worked said
cases_hold = refl
