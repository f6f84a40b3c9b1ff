-- Laws about arriving bytes: before the first byte, and after each further one, the engine is where the transfer rule
-- says.
use mathlib.Core.Path.{◌≡◌, refl, sym, ap, ◌∙◌}
use mathlib.Core.Bool.{Bool, true, false, cond}
use mathlib.Core.List.{List, [], ◌∷◌, ◌++◌, append_assoc, append-nil}
use Prim.Native.Nat.{ℕ, ◌+◌, ◌-◌, ◌≤◌, ◌<◌}
use native.Mathlib.Nat.{zero-mul}
use native.Mathlib.Numerals.{add-one}
use native.Mathlib.Omega.{arith}
use lib.Dec.{ltb}
use lib.ListN.{length, take, drop, set, length-append, length-drop, length-set, drop_of_length-le}
use lib.Seq.{take_all, take-nil, drop-nil, take-append-le, drop-append-le, take-suc-set}
use borrow.Author.Tests.{ltb-true, ltb-false}
use Rattle.guard.specs.declared.RunningGuard.{RunningGuard}
use Rattle.guard.specs.Guards.{started, stepped, advanced}
use Rattle.guard.proofs.Laws.{advanced-append}
use Rattle.field.specs.declared.Domain.{Domain}
use Rattle.field.specs.Domains.{signed}
use Rattle.field.specs.Fields.{field_of}
use Rattle.slot.specs.Slots.{Slot}
use Rattle.slot.proofs.Laws.{keep_none}
use Rattle.engine.specs.declared.Rule.{Rule}
use Rattle.engine.specs.declared.Progress.{Progress}
use Rattle.engine.specs.Streams.{field_size, in_block, in_unit}
use Rattle.engine.specs.Transfers.{joined, first_error}
use Rattle.engine.specs.Feeding.{checks_guard, makes_guard, side_after, arrived, shown, begun}
use Rattle.engine.specs.Inner.Standing.{running, unit_out, Reached}

cond_same : {A : Type 0} (b : Bool) (a : A) → cond b a a ≡ a
cond_same true a = refl
cond_same false a = refl

-- Over no bytes, the running guard is the started one, whether it is computed or not.
pub running_none : (d : Domain) (works : Bool) → ◌≡◌ {A = RunningGuard} (started d.seed) (running d works [])
unfolding advanced
running_none d works = sym (cond_same works (started d.seed))

-- If the running guard is computed, one more byte advances it.
running_more : (d : Domain) (works : Bool) (xs : List ℕ) (b : ℕ)
    → cond works (stepped d.guard_type (running d works xs) b) (running d works xs) ≡ running d works (xs ++ (b ∷ []))
unfolding advanced
running_more d true xs b = sym (advanced-append d.guard_type (started d.seed) xs (b ∷ []))
running_more d false xs b = refl

-- A field has at most 8 bytes.
pub field_small : (d : Domain) → field_size d ≤ 8
unfolding field_size
field_small d = small (signed d)
  where
    small : (b : Bool) → cond b 8 0 ≤ 8
    small true = omega arith
    small false = omega arith

module _ (r : Rule) (slot : Slot) where
  -- Before the first byte, nothing has arrived and nothing is stored.
  pub reached_begun : Reached r slot [] (begun r slot) []
  unfolding joined first_error field_of
  reached_begun = record {
    past = [];
    left = [];
    split = refl;
    past_length = sym (zero-mul (in_unit r));
    under = refl;
    within = omega arith;
    index = refl;
    at = rw (take-nil {A = ℕ} (in_block r));
    in_guard = rw (take-nil {A = ℕ} (in_block r)) (running_none r.input (checks_guard r));
    out_guard = rw (take-nil {A = ℕ} (in_block r)) (running_none r.output (makes_guard r));
    eight = refl;
    held = rw (drop-nil {A = ℕ} (in_block r));
    bare = λ e. refl;
    error = sym (keep_none slot);
    shown = rw (take-nil {A = ℕ} (in_block r));
  }

  -- In these laws the byte b arrives in a unit that is not whole.
  module _ (xs : List ℕ) (p : Progress) (out : List ℕ) (b : ℕ) (R : Reached r slot xs p out) (h : p.input.at < in_unit r) where
    split' : xs ++ (b ∷ []) ≡ R.past ++ (R.left ++ (b ∷ []))
    split' = ap (λ (l : List ℕ). l ++ (b ∷ [])) R.split ∙ append_assoc R.past R.left (b ∷ [])

    under' : length (R.left ++ (b ∷ [])) ≡ p.input.at + 1
    under' = length-append R.left (b ∷ []) ∙ ap (λ (n : ℕ). n + 1) R.under

    -- The byte arrives as data of the block.
    module _ (l : p.input.at < in_block r) where
      all : take (in_block r) R.left ≡ R.left
      all = take_all (in_block r) R.left (omega (arith, R.under))

      all' : take (in_block r) (R.left ++ (b ∷ [])) ≡ R.left ++ (b ∷ [])
      all' = take_all (in_block r) (R.left ++ (b ∷ [])) (omega (arith, under'))

      none' : drop (in_block r) (R.left ++ (b ∷ [])) ≡ []
      none' = let short : length (R.left ++ (b ∷ [])) ≤ in_block r = omega (arith, under') in drop_of_length-le (R.left ++ (b ∷ [])) short

      arrived_data : Reached r slot (xs ++ (b ∷ []))
          (record {
            input = side_after r.input (checks_guard r) p.input b;
            output = side_after r.output (makes_guard r) p.output b;
            held = p.held;
            slot = p.slot;
          }) (out ++ (b ∷ []))
      arrived_data = record {
        past = R.past;
        left = R.left ++ (b ∷ []);
        split = split';
        past_length = R.past_length;
        under = under';
        within = omega arith;
        index = R.index;
        at = rw all' (omega (arith, R.at, ap length all, under', R.under));
        in_guard = rw (all', R.in_guard, all) (running_more r.input (checks_guard r) R.left b);
        out_guard = rw (all', R.out_guard, all) (running_more r.output (makes_guard r) R.left b);
        eight = R.eight;
        held = rw none';
        bare = R.bare;
        error = R.error;
        shown = rw (all', R.shown, all) (append_assoc (joined ◌++◌ [] (unit_out r R.past) 0 p.input.index) R.left (b ∷ []));
      }

    -- The byte arrives as a byte of the field.
    module _ (l : in_block r ≤ p.input.at) where
      front : take (in_block r) (R.left ++ (b ∷ [])) ≡ take (in_block r) R.left
      front = take-append-le (in_block r) R.left (b ∷ []) (omega (arith, R.under))

      back : drop (in_block r) (R.left ++ (b ∷ [])) ≡ drop (in_block r) R.left ++ (b ∷ [])
      back = drop-append-le (in_block r) R.left (b ∷ []) (omega (arith, R.under))

      before : length (drop (in_block r) R.left) ≡ p.input.at - in_block r
      before = length-drop (in_block r) R.left ∙ ap (λ (n : ℕ). n - in_block r) R.under

      held' : take (length (drop (in_block r) R.left ++ (b ∷ []))) (set p.held (p.input.at - in_block r) b) ≡ drop (in_block r) R.left ++ (b ∷ [])
      held' =
          rw (length-append (drop (in_block r) R.left) (b ∷ []), before, add-one (p.input.at - in_block r))
          (take-suc-set p.held (p.input.at - in_block r) b (omega (arith, R.eight, field_small r.input))
          ∙ ap (λ (t : List ℕ). t ++ (b ∷ [])) (rw before at R.held))

      arrived_field : Reached r slot (xs ++ (b ∷ []))
          (record {
            input = record { index = p.input.index; at = p.input.at + 1; guard = p.input.guard };
            output = p.output;
            held = set p.held (p.input.at - in_block r) b;
            slot = p.slot;
          }) (out ++ [])
      unfolding field_size
      arrived_field = record {
        past = R.past;
        left = R.left ++ (b ∷ []);
        split = split';
        past_length = R.past_length;
        under = under';
        within = omega arith;
        index = R.index;
        at = rw front R.at;
        in_guard = rw front R.in_guard;
        out_guard = rw front R.out_guard;
        eight = length-set p.held (p.input.at - in_block r) b ∙ R.eight;
        held = rw back held';
        bare = λ e. absurd (omega (arith, ap {B = ℕ} (λ (s : Bool). cond s 8 0) e));
        error = R.error;
        shown = rw (front, append-nil out) R.shown;
      }

    -- After one more byte has arrived, the engine is where the transfer rule says.
    pub reached_arrived : Reached r slot (xs ++ (b ∷ [])) (arrived r p b) (out ++ shown r p b)
    unfolding arrived
    reached_arrived = go (ltb p.input.at (in_block r)) refl
      where
        go : (t : Bool) → ltb p.input.at (in_block r) ≡ t → Reached r slot (xs ++ (b ∷ [])) (arrived r p b) (out ++ shown r p b)
        go true e = rw e (arrived_data (ltb-true _ _ e))
        go false e = rw e (arrived_field (ltb-false _ _ e))
