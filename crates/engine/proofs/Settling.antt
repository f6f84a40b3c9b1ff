-- Laws about closing a whole unit: its error and its output field are those of the transfer rule.
use mathlib.Core.Path.{◌≡◌, refl, sym, ap, ◌∙◌}
use mathlib.Core.Bool.{Bool, true, false, cond}
use mathlib.Core.List.{List, [], ◌∷◌, ◌++◌, append_assoc, append-nil}
use Prim.Native.Nat.{ℕ, zero, suc, ◌+◌, ◌*◌, ◌/◌, ◌%◌, ◌≤◌, ◌<◌}
use native.Mathlib.Nat.{suc-mul}
use native.Mathlib.Numerals.{add-one}
use native.Mathlib.Omega.{arith}
use lib.Dec.{eqb, leb}
use lib.ListN.{length, take, drop, length-append, length-drop}
use lib.Seq.{take_all, take-nil, drop-nil, drop_at}
use borrow.Author.Tests.{leb-false, eqb-true, eqb-false}
use Rattle.guard.specs.Guards.{Bytes, guard_value}
use Rattle.guard.proofs.Laws.{whole_block}
use Rattle.field.specs.declared.Domain.{Domain}
use Rattle.field.specs.declared.ProtectionField.{ProtectionField}
use Rattle.field.specs.Domains.{signed}
use Rattle.field.specs.Fields.{bytes_of, field_of, computed_field}
use Rattle.field.specs.Judging.{judged}
use Rattle.field.specs.Output.{output_field}
use Rattle.field.proofs.Laws.{unchecked, uncopied}
use Rattle.slot.specs.Slots.{Slot, keep}
use Rattle.slot.proofs.Laws.{keep-first}
use Rattle.engine.specs.declared.Rule.{Rule}
use Rattle.engine.specs.declared.Progress.{Progress}
use Rattle.engine.specs.Streams.{field_size, in_block, in_unit, input_block, input_field}
use Rattle.engine.specs.Transfers.{joined, guard_by, field_after, slot_of, error_by, error_of, first_error}
use Rattle.engine.specs.Feeding.{checks_guard, makes_guard, side_at, whole, field_made, field_due, error_due, settled, placed}
use Rattle.engine.specs.Inner.Standing.{Matched, running, unit_out, Reached}
use Rattle.engine.proofs.Windows.{window_second}
use Rattle.engine.proofs.Units.{units_first, errors_first, units_last, errors_last}
use Rattle.engine.proofs.Arriving.{running_none}

pub bytes_take : (n : ℕ) (xs : List ℕ) → Bytes xs → Bytes (take n xs)
bytes_take zero xs h i = omega arith
bytes_take (suc n) [] h i = omega arith
bytes_take (suc n) (x ∷ xs) h zero = h 0
bytes_take (suc n) (x ∷ xs) h (suc i) = bytes_take n xs (λ j. h (suc j)) i

bytes_after : (xs ys : List ℕ) → Bytes (xs ++ ys) → Bytes ys
bytes_after [] ys h = h
bytes_after (x ∷ xs) ys h = bytes_after xs ys (λ j. h (suc j))

module _ (r : Rule) (m : Matched r) where
  -- A guard that is computed is the guard of the block, and one that is not computed does not change the result.
  module _ (block : List ℕ) (h : Bytes block) (i : ℕ) (found : ProtectionField) where
    -- A guard that is computed over a whole block is the guard of the block.
    right_guard : (d : Domain) → d.seed ≤ 65535 → guard_value d.guard_type (running d true block) ≡ guard_by d block
    right_guard d s = whole_block d.guard_type d.seed block s h

    -- The judgement is that of the transfer rule, whether the input guard is computed or not.
    judged_right : signed r.input ≡ true
        → judged r.input r.check_mask i (guard_value r.input.guard_type (running r.input (checks_guard r) block)) found
        ≡ judged r.input r.check_mask i (guard_by r.input block) found
    unfolding checks_guard
    judged_right s = go (leb 64 r.check_mask) refl
      where
        go : (t : Bool) → leb 64 r.check_mask ≡ t
            → judged r.input r.check_mask i (guard_value r.input.guard_type (running r.input (checks_guard r) block)) found
            ≡ judged r.input r.check_mask i (guard_by r.input block) found
        go true e = rw (s, e, right_guard r.input (m.in_seed s))
        go false e = unchecked r.input r.check_mask i _ _ found (leb-false 64 r.check_mask e)

    -- The output field is that of the transfer rule, whether the output guard is computed or not.
    made_right : signed r.output ≡ true
        → output_field r.copy_mask found (computed_field r.output i (guard_value r.output.guard_type (running r.output (makes_guard r) block)))
        ≡ output_field r.copy_mask found (computed_field r.output i (guard_by r.output block))
    unfolding makes_guard
    made_right s = go (eqb (r.copy_mask / 64 % 4) 3) refl
      where
        go : (t : Bool) → eqb (r.copy_mask / 64 % 4) 3 ≡ t
            → output_field r.copy_mask found (computed_field r.output i (guard_value r.output.guard_type (running r.output (makes_guard r) block)))
            ≡ output_field r.copy_mask found (computed_field r.output i (guard_by r.output block))
        go true e = uncopied found r.output i r.copy_mask (eqb-true (r.copy_mask / 64 % 4) 3 e) _ _
        go false e = rw (s, e, right_guard r.output (m.out_seed s))

  -- In these laws the current unit is whole.
  module _ (slot : Slot) (xs : List ℕ) (b : Bytes xs) (p : Progress) (out : List ℕ) (R : Reached r slot xs p out) (w : p.input.at ≡ in_unit r) where
    -- The block of the current unit is its first bytes.
    block_now : input_block r (R.past ++ R.left) p.input.index ≡ take (in_block r) R.left
    unfolding input_block
    block_now = rw (drop_at R.past R.left (p.input.index * in_unit r) R.past_length)

    field_length : length (drop (in_block r) R.left) ≡ field_size r.input
    field_length = length-drop (in_block r) R.left ∙ omega (arith, R.under)

    -- The field of the current unit is its bytes after the block.
    field_now : input_field r (R.past ++ R.left) p.input.index ≡ drop (in_block r) R.left
    unfolding input_field
    field_now =
        window_second (p.input.index * in_unit r) (field_size r.input) (in_block r) R.past R.left R.past_length
        ∙ take_all (field_size r.input) (drop (in_block r) R.left) (omega (arith, field_length))

    -- If the input is signed, the held bytes are those of the field.
    held_now : signed r.input ≡ true → p.held ≡ drop (in_block r) R.left
    unfolding field_size
    held_now s =
        let eight : length (drop (in_block r) R.left) ≡ 8 = field_length ∙ ap {B = ℕ} (λ (t : Bool). cond t 8 0) s in
        sym (take_all 8 p.held (omega (arith, R.eight))) ∙ rw eight at R.held

    no_field : signed r.input ≡ false → input_field r (R.past ++ R.left) p.input.index ≡ []
    unfolding input_field field_size
    no_field s = rw s

    -- The held bytes hold the field that the transfer rule finds, whether the input is signed or not.
    found_now : field_of p.held ≡ field_of (input_field r (R.past ++ R.left) p.input.index)
    found_now = go (signed r.input) refl
      where
        go : (t : Bool) → signed r.input ≡ t → field_of p.held ≡ field_of (input_field r (R.past ++ R.left) p.input.index)
        go true s = rw (field_now) (ap field_of (held_now s))
        go false s = R.bare s ∙ ap field_of (sym (no_field s))

    block_bytes : Bytes (take (in_block r) R.left)
    block_bytes = bytes_take (in_block r) R.left (bytes_after R.past R.left (rw R.split at b))

    -- The error of the current unit is that of the transfer rule.
    error_now : error_due r p ≡ error_of r (R.past ++ R.left) p.input.index
    unfolding error_due error_by
    error_now = go (signed r.input) refl
      where
        go : (t : Bool) → signed r.input ≡ t → error_due r p ≡ error_of r (R.past ++ R.left) p.input.index
        go true s =
            rw (s, block_now, R.in_guard, ← found_now)
            (ap (slot_of _) (judged_right (take (in_block r) R.left) block_bytes p.input.index (field_of p.held) s))
        go false s = rw s

    -- The output field of the current unit is that of the transfer rule.
    due_now : field_due r p ≡ field_after r (R.past ++ R.left) p.input.index (take (in_block r) R.left)
    unfolding field_made field_after
    due_now = go (signed r.output) refl
      where
        go : (t : Bool) → signed r.output ≡ t → field_due r p ≡ field_after r (R.past ++ R.left) p.input.index (take (in_block r) R.left)
        go true s =
            rw (s, R.index, R.out_guard, ← found_now)
            (ap bytes_of (made_right (take (in_block r) R.left) block_bytes p.input.index (field_of p.held) s))
        go false s = rw s

    all_units : p.input.index * in_unit r ≤ length R.past
    all_units = omega (arith, R.past_length)

    -- At the start of the next unit, the engine is where the transfer rule says.
    reached_next : Reached r slot xs
        (record {
          input = side_at r.input (p.input.index + 1);
          output = side_at r.output (p.output.index + 1);
          held = p.held;
          slot = keep p.slot (error_due r p);
        }) (out ++ field_due r p)
    reached_next = record {
      past = R.past ++ R.left;
      left = [];
      split = R.split ∙ sym (append-nil (R.past ++ R.left));
      past_length = length-append R.past R.left ∙ rw (add-one p.input.index, suc-mul p.input.index (in_unit r)) (omega (arith, R.past_length, R.under));
      under = refl;
      within = omega arith;
      index = ap (λ (n : ℕ). n + 1) R.index;
      at = rw (take-nil {A = ℕ} (in_block r));
      in_guard = rw (take-nil {A = ℕ} (in_block r)) (running_none r.input (checks_guard r));
      out_guard = rw (take-nil {A = ℕ} (in_block r)) (running_none r.output (makes_guard r));
      eight = R.eight;
      held = rw (drop-nil {A = ℕ} (in_block r));
      bare = R.bare;
      error =
          rw (add-one p.input.index, errors_last r (R.past ++ R.left) p.input.index, errors_first r R.past R.left p.input.index all_units, ← error_now)
          (ap (λ (s : Slot). keep s (error_due r p)) R.error ∙ keep-first slot (first_error r R.past p.input.index) (error_due r p));
      shown =
          rw (add-one p.input.index, units_last r (R.past ++ R.left) p.input.index, units_first r R.past R.left p.input.index all_units)
          (rw (take-nil {A = ℕ} (in_block r), append-nil (joined ◌++◌ [] (unit_out r R.past) 0 p.input.index ++ unit_out r (R.past ++ R.left) p.input.index))
          (rw (block_now, ← due_now, R.shown) (append_assoc (joined ◌++◌ [] (unit_out r R.past) 0 p.input.index) (take (in_block r) R.left) (field_due r p))));
    }

  -- After the unit is closed if it is whole, the engine is where the transfer rule says, and the current unit is not
  -- whole.
  pub reached_settled : (slot : Slot) (xs : List ℕ) → Bytes xs → (p : Progress) (out : List ℕ) → Reached r slot xs p out
      → Reached r slot xs (settled r p) (out ++ placed r p) × ((settled r p).input.at < in_unit r)
  unfolding settled
  reached_settled slot xs b p out R = go (whole r p) refl
    where
      go : (t : Bool) → whole r p ≡ t → Reached r slot xs (settled r p) (out ++ placed r p) × ((settled r p).input.at < in_unit r)
      go true e = rw e (reached_next slot xs b p out R (eqb-true _ _ e), omega (arith, m.some))
      go false e =
          let n : p.input.at ≡ in_unit r → ⊥ = eqb-false p.input.at (in_unit r) e in
          rw (e, append-nil out) (R, omega (arith, n, R.within))
