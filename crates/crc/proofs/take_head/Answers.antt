use mathlib.Core.Path.{sym, ap, ◌∙◌}
use Prim.Native.Nat.{ℕ}
use native.Mathlib.Omega.{arith}
use borrow.Author.Rules.{rules}
use lib.ListN.{length}
use lib.Seq.{drop-length}
use Rattle.crc.specs.Inner.Folding.{with_rest}
use Rattle.crc.specs.Inner.Carried.{value}
use Rattle.crc.proofs.Remainders.{same, then}
use Rattle.crc.proofs.Reading.{rest_of}
use Rattle.crc.proofs.Carrying.{nothing_left, head_leads}
use Rattle.crc.proofs.take_head.Goals as goal

pub returns-then-bytes-lt-FRONT_AND_REAR : goal.returns-then-bytes-lt-FRONT_AND_REAR
returns-then-bytes-lt-FRONT_AND_REAR c =
    let s = c.args.bytes.now in
    record {
      taken = 8;
      within = c.requires;
      after = rest_of s 8;
      leads =
          head_leads 8 c.args.start s _ 8 (omega arith) c.requires (search rules) (λ i. (c.type_inv.bytes i).fits)
          (same (ap (λ (x : ℕ). with_rest x s 8) (c.only_word.ensures ∙ c.first_word.ensures)));
    }

pub returns-then-bytes-lt-LONG : goal.returns-then-bytes-lt-LONG
returns-then-bytes-lt-LONG c =
    let s = c.args.bytes.now in
    record {
      taken = 512;
      within = omega arith;
      after = rest_of s 512;
      leads =
          head_leads 3 c.args.start s _ 512 (omega arith) (omega arith) (search rules)
          (λ i. (c.type_inv.bytes i).fits)
          (then c.fold_front.ensures (same (ap (λ (x : ℕ). with_rest x s 3) c.first_three.ensures)));
    }

pub returns : goal.returns
returns c =
    let s = c.args.bytes.now in
    record {
      taken = length s;
      within = omega arith;
      after = sym (drop-length s);
      leads =
          head_leads 2 c.args.start s _ (length s) (omega arith) (omega arith) (search rules)
          (λ i. (c.type_inv.bytes i).fits)
          (then (same (nothing_left s (value c.fold_long.result))) c.fold_long.ensures);
    }
