-- Laws about protection fields: a guard that is not checked does not change the judgement, and one that is not
-- generated does not change the output field.
use Rattle.std.proofs.Common.{◌≡◌, ℕ, ◌/◌, ◌%◌, ◌<◌, ◌≤◌, Bool, true, false, cond, [], ◌∷◌, arith, eq-eqb, ne_eqb}
use borrow.Author.Tests.{lt-leb}
use Rattle.field.specs.declared.Domain.{Domain}
use Rattle.field.specs.declared.ProtectionField.{ProtectionField}
use Rattle.field.specs.Tests.{bit}
use Rattle.field.specs.Fields.{bytes_of, field_of, computed_field}
use Rattle.field.specs.Judging.{escaped, checked_mask, differs, digit, mask_of, differing, first_bad, judged}
use Rattle.field.specs.Output.{merged, output_field}

pub digit_small : (b : Bool) → digit b ≤ 1
digit_small true = omega arith
digit_small false = omega arith

-- ---- a guard that is not checked or not generated

-- A mask without guard bits is at most 63.
six : (a b c d e f : Bool) → mask_of 0 (false ∷ false ∷ a ∷ b ∷ c ∷ d ∷ e ∷ f ∷ []) ≤ 63
unfolding mask_of
six a b c d e f = omega (arith, digit_small a, digit_small b, digit_small c, digit_small d, digit_small e, digit_small f)

-- The check mask m has no guard bits.
module _ (found : ProtectionField) (d : Domain) (i m : ℕ) (h : m < 64) where
  high : bit m 128 ≡ false
  high = ne_eqb (m / 128 % 2) 1 (λ e. omega arith)

  next : bit m 64 ≡ false
  next = ne_eqb (m / 64 % 2) 1 (λ e. omega arith)

  -- Under a mask without guard bits, the set of differing bytes does not depend on the guard.
  same_set : (g g' : ℕ) → differing m found (computed_field d i g) ≡ differing m found (computed_field d i g')
  unfolding differing differs bytes_of computed_field
  same_set g g' = rw (high, next)

  -- Under a mask without guard bits, no guard byte is in the set of differing bytes.
  small_set : (g : ℕ) → differing m found (computed_field d i g) ≤ 63
  unfolding differing differs bytes_of computed_field
  small_set g = rw (high, next) (six _ _ _ _ _ _)

-- If no guard byte differs, the first wrong tag does not depend on the guard.
same_bad : (found : ProtectionField) (d : Domain) (i s g g' : ℕ) → s ≤ 63 → first_bad s (computed_field d i g) found ≡ first_bad s (computed_field d i g') found
unfolding first_bad computed_field
same_bad found d i s g g' h = rw (lt-leb 64 s (omega arith))

fewer : (b : Bool) (m : ℕ) → m < 64 → cond b 0 m < 64
fewer true m h = omega arith
fewer false m h = h

-- The mask of the bytes to check has no guard bits if the check mask has none.
few_checked : (d : Domain) (m : ℕ) (found : ProtectionField) → m < 64 → checked_mask d m found < 64
unfolding checked_mask
few_checked d m found h = fewer (escaped d found) m h

-- If no guard byte is checked, the judgement does not depend on the guard.
pub unchecked : (d : Domain) (m i g g' : ℕ) (found : ProtectionField) → m < 64 → judged d m i g found ≡ judged d m i g' found
unfolding judged
unchecked d m i g g' found h =
    let n = few_checked d m found h in
    rw (same_set found d i (checked_mask d m found) n g g')
    (same_bad found d i (differing (checked_mask d m found) found (computed_field d i g')) g g' (small_set found d i (checked_mask d m found) n g'))

module _ (copied : ProtectionField) (d : Domain) (i m : ℕ) (h : m / 64 % 4 ≡ 3) where
  -- If both guard bytes are copied, the output field does not depend on the guard that would be generated.
  pub uncopied : (g g' : ℕ) → output_field m copied (computed_field d i g) ≡ output_field m copied (computed_field d i g')
  unfolding output_field merged bytes_of computed_field field_of
  uncopied g g' =
      let a : bit m 128 ≡ true = eq-eqb (m / 128 % 2) 1 (omega arith) in
      let b : bit m 64 ≡ true = eq-eqb (m / 64 % 2) 1 (omega arith) in
      rw (a, b)
