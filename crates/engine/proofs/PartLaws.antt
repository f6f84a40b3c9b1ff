-- Laws about parts: taking a part at once is feeding its bytes one by one.
use mathlib.Core.Path.{◌≡◌, refl, sym, ap, ◌∙◌}
use mathlib.Core.Bool.{Bool, true, false, cond}
use mathlib.Core.List.{List, [], ◌∷◌, ◌++◌, append_assoc, append-nil}
use Prim.Native.Nat.{ℕ, suc, ◌+◌, ◌-◌, ◌*◌, ◌≤◌, ◌<◌}
use native.Mathlib.Nat.{suc-mul, mul-add, mul-le-mul_left}
use native.Mathlib.Numerals.{add-one}
use native.Mathlib.Omega.{arith}
use lib.Dec.{ltb}
use lib.ListN.{length}
use lib.Seq.{length-sets}
use borrow.Author.Tests.{lt-ltb, le-ltb, eq-eqb, ne_eqb, eqb-true, eqb-false}
use Rattle.guard.specs.declared.RunningGuard.{RunningGuard}
use Rattle.guard.specs.Guards.{stepped, advanced}
use Rattle.field.specs.declared.Domain.{Domain}
use Rattle.field.specs.Domains.{signed}
use Rattle.field.specs.Fields.{bytes_of}
use Rattle.layout.specs.declared.Layout.{Layout}
use Rattle.layout.specs.declared.cursor.Cursor.{Cursor}
use Rattle.layout.specs.Inner.Cursors.{InLayout, Stored}
use Rattle.layout.proofs.CursorLaws.{stored_nothing}
use Rattle.engine.specs.declared.Rule.{Rule}
use Rattle.engine.specs.declared.Side.{Side}
use Rattle.engine.specs.declared.Progress.{Progress}
use Rattle.engine.specs.Streams.{field_size, in_block, in_unit, out_unit}
use Rattle.engine.specs.Feeding.{checks_guard, makes_guard, side_after, arrived, whole, field_made, field_due, next_unit, settled, placed, shown, fed, emitted}
use Rattle.engine.specs.Positions.{taken, written}
use Rattle.engine.specs.Inner.Parts.{stream_limit, side_taken, data_taken, field_taken, InStep, Countable, Settled}
use Rattle.engine.proofs.Arriving.{field_small}

-- A guard after b and then xs is the guard after b ∷ xs.
guard_more : (t : ℕ) (computes : Bool) (g : RunningGuard) (b : ℕ) (xs : List ℕ)
    → cond computes (advanced t (cond computes (stepped t g b) g) xs) (cond computes (stepped t g b) g) ≡ cond computes (advanced t g (b ∷ xs)) g
unfolding advanced
guard_more t true g b xs = refl
guard_more t false g b xs = refl

-- A side after b and then xs is the side after b ∷ xs.
side_more : (d : Domain) (computes : Bool) (s : Side) (b : ℕ) (xs : List ℕ) → side_taken d computes (side_after d computes s b) xs ≡ side_taken d computes s (b ∷ xs)
side_more d computes s b xs =
    let e : s.at + 1 + length xs ≡ s.at + suc (length xs) = omega arith in
    λ i. record { index = s.index; at = e i; guard = guard_more d.guard_type computes s.guard b xs i }

-- Taking the data byte b and then xs is taking b ∷ xs.
data_more : (r : Rule) (p : Progress) (b : ℕ) (xs : List ℕ) → data_taken r (data_taken r p (b ∷ [])) xs ≡ data_taken r p (b ∷ xs)
unfolding advanced
data_more r p b xs = λ i. record {
  input = side_more r.input (checks_guard r) p.input b xs i;
  output = side_more r.output (makes_guard r) p.output b xs i;
  held = p.held;
  slot = p.slot;
}

-- A unit that is not whole is not closed: the progress stays as it is, and nothing is stored.
module _ (r : Rule) (p : Progress) (h : p.input.at < in_unit r) where
  unfinished : whole r p ≡ false
  unfinished = ne_eqb p.input.at (in_unit r) (λ e. omega arith)

  stays : settled r p ≡ p
  unfolding settled
  stays = rw unfinished

  shows_none : placed r p ≡ []
  shows_none = rw unfinished

-- If a byte does not complete its unit, feeding it changes the progress and the output only by its arrival.
fed_go : (r : Rule) (p : Progress) (b : ℕ) (ys : List ℕ) (q : Progress) → arrived r p b ≡ q → q.input.at < in_unit r
    → (fed r p (b ∷ ys) ≡ fed r q ys) × (emitted r p (b ∷ ys) ≡ shown r p b ++ emitted r q ys)
unfolding fed emitted
fed_go r p b ys q e h = (rw (e, stays r q h), rw (e, shows_none r q h, stays r q h, append-nil (shown r p b)))

-- In these laws all bytes of a part are taken in the same way: `take` is the progress after them, `show` is what is
-- stored of them, and `C p n` says that n more bytes are taken so.
module _ (r : Rule) (take : Progress → List ℕ → Progress) (show : List ℕ → List ℕ) (C : Progress → ℕ → Type 0)
    (one : (p : Progress) (b n : ℕ) → C p (suc n) → (arrived r p b ≡ take p (b ∷ [])) × (shown r p b ≡ show (b ∷ [])))
    (more : (p : Progress) (b : ℕ) (xs : List ℕ) (n : ℕ) → C p (suc n) → take (take p (b ∷ [])) xs ≡ take p (b ∷ xs))
    (joins : (b : ℕ) (xs : List ℕ) → show (b ∷ []) ++ show xs ≡ show (b ∷ xs))
    (next : (p : Progress) (b n : ℕ) → C p (suc n) → C (take p (b ∷ [])) n)
    (inside : (p : Progress) (n : ℕ) → C p (suc n) → p.input.at < in_unit r) where
  -- Feeding a part is taking all its bytes at once and then closing the unit if it is whole.
  alike : (p : Progress) (b : ℕ) (xs : List ℕ) → C p (suc (length xs))
      → (fed r p (b ∷ xs) ≡ settled r (take p (b ∷ xs))) × (emitted r p (b ∷ xs) ≡ show (b ∷ xs) ++ placed r (take p (b ∷ xs)))
  unfolding fed emitted
  alike p b [] h =
      (ap (settled r) (one p b 0 h).0, append-nil (shown r p b ++ placed r (arrived r p b)) ∙ rw ((one p b 0 h).0, (one p b 0 h).1))
  alike p b (x ∷ xs) h =
      let q = take p (b ∷ []) in
      let n = next p b (suc (length xs)) h in
      let go = fed_go r p b (x ∷ xs) q (one p b (suc (length xs)) h).0 (inside q (length xs) n) in
      let rest = alike q x xs n in
      let all = more p b (x ∷ xs) (suc (length xs)) h in (
        go.0 ∙ rest.0 ∙ ap (settled r) all,
        go.1 ∙ rw (rest.1, (one p b (suc (length xs)) h).1, ← joins b (x ∷ xs), ← all) (sym (append_assoc (show (b ∷ [])) (show (x ∷ xs)) (placed r (take q (x ∷ xs))))),
      )

module _ (r : Rule) where
  -- A byte that arrives before the block's end is taken as data.
  as_data : (p : Progress) (b : ℕ) → p.input.at < in_block r → arrived r p b ≡ data_taken r p (b ∷ [])
  unfolding arrived advanced
  as_data p b h = rw (lt-ltb p.input.at (in_block r) h)

  -- A byte that arrives after the block's end is taken as a field byte.
  as_field : (p : Progress) (b : ℕ) → in_block r ≤ p.input.at → arrived r p b ≡ field_taken r p (b ∷ [])
  unfolding arrived
  as_field p b h = rw (le-ltb p.input.at (in_block r) h)

  -- Taking the field byte b and then xs is taking b ∷ xs.
  field_more : (p : Progress) (b : ℕ) (xs : List ℕ) → in_block r ≤ p.input.at → field_taken r (field_taken r p (b ∷ [])) xs ≡ field_taken r p (b ∷ xs)
  field_more p b xs h =
      let e : p.input.at + 1 + length xs ≡ p.input.at + suc (length xs) = omega arith in
      let k : p.input.at + 1 - in_block r ≡ suc (p.input.at - in_block r) = omega arith in
      rw (e, k)

  -- Feeding a part of a block's data is taking it at once and then closing the unit if it is whole.
  pub data_part : (p : Progress) (b : ℕ) (xs : List ℕ) → p.input.at + suc (length xs) ≤ in_block r
      → (fed r p (b ∷ xs) ≡ settled r (data_taken r p (b ∷ xs))) × (emitted r p (b ∷ xs) ≡ (b ∷ xs) ++ placed r (data_taken r p (b ∷ xs)))
  data_part =
      alike r (data_taken r) (λ xs. xs) (λ p n. p.input.at + n ≤ in_block r)
      (λ p b n h. (as_data p b (omega arith), rw (lt-ltb p.input.at (in_block r) (omega arith))))
      (λ p b xs n h. data_more r p b xs) (λ b xs. refl) (λ p b n h. omega arith) (λ p n h. omega arith)

  -- Feeding a part of a field is taking it at once and then closing the unit if it is whole.
  pub field_part : (p : Progress) (b : ℕ) (xs : List ℕ) → (in_block r ≤ p.input.at) × (p.input.at + suc (length xs) ≤ in_unit r)
      → (fed r p (b ∷ xs) ≡ settled r (field_taken r p (b ∷ xs))) × (emitted r p (b ∷ xs) ≡ placed r (field_taken r p (b ∷ xs)))
  field_part =
      alike r (field_taken r) (λ xs. []) (λ p n. (in_block r ≤ p.input.at) × (p.input.at + n ≤ in_unit r))
      (λ p b n h. (as_field p b h.0, rw (le-ltb p.input.at (in_block r) h.0)))
      (λ p b xs n h. field_more p b xs h.0) (λ b xs. refl) (λ p b n h. omega arith) (λ p n h. omega arith)

-- ---- both sides stay in step

-- An output field has 8 bytes.
pub length_made : (r : Rule) (p : Progress) → length (field_made r p) ≡ 8
unfolding field_made bytes_of
length_made r p = refl

-- As many field bytes are stored after a block as the output's field size says.
length_due : (r : Rule) (p : Progress) → length (field_due r p) ≡ field_size r.output
unfolding field_size
length_due r p = go (signed r.output)
  where
    go : (t : Bool) → length (cond t (field_made r p) []) ≡ cond t 8 0
    go true = length_made r p
    go false = refl

module _ (r : Rule) (p : Progress) (s : InStep r p) where
  -- Taking data of one block keeps both sides in step.
  pub in_step_data : (xs : List ℕ) → p.input.at + length xs ≤ in_block r → InStep r (data_taken r p xs)
  in_step_data xs h = record {
    matched = s.matched;
    aligned = record {
      index = s.aligned.index;
      at = omega (arith, s.aligned.at);
      within = omega arith;
      eight = s.aligned.eight;
    };
  }

  -- Taking bytes of one field keeps both sides in step.
  pub in_step_field : (xs : List ℕ) → in_block r ≤ p.input.at → p.input.at + length xs ≤ in_unit r → InStep r (field_taken r p xs)
  in_step_field xs h k = record {
    matched = s.matched;
    aligned = record {
      index = s.aligned.index;
      at = omega (arith, s.aligned.at);
      within = k;
      eight = length-sets p.held (p.input.at - in_block r) xs ∙ s.aligned.eight;
    };
  }

  -- Closing the unit if it is whole keeps both sides in step, and the current unit is then not whole.
  pub in_step_settled : InStep r (settled r p) × ((settled r p).input.at < in_unit r)
  unfolding settled
  in_step_settled = go (whole r p) refl
    where
      go : (t : Bool) → whole r p ≡ t → InStep r (settled r p) × ((settled r p).input.at < in_unit r)
      go true e = rw e (record { matched = s.matched; aligned = record { index = ap (λ (n : ℕ). n + 1) s.aligned.index; at = omega arith; within = omega arith; eight = s.aligned.eight } }, omega (arith, s.matched.some))
      go false e =
          let n : p.input.at ≡ in_unit r → ⊥ = eqb-false p.input.at (in_unit r) e in
          rw e (s, omega (arith, n, s.aligned.within))

  -- Closing a unit adds the stored field bytes to the number of bytes written.
  pub written-settled : written r (settled r p) ≡ written r p + length (placed r p)
  unfolding settled
  written-settled = go (whole r p) refl
    where
      go : (t : Bool) → whole r p ≡ t → written r (settled r p) ≡ written r p + length (placed r p)
      go true e =
          let w : p.input.at ≡ in_unit r = eqb-true p.input.at (in_unit r) e in
          rw e (rw (add-one p.output.index, suc-mul p.output.index (out_unit r), length_due r p) (omega (arith, s.aligned.at, s.matched.same)))
      go false e = rw e (omega arith)

-- Closing a unit does not change the number of bytes taken.
pub taken-settled : (r : Rule) (p : Progress) → taken r (settled r p) ≡ taken r p
unfolding settled
taken-settled r p = go (whole r p) refl
  where
    go : (t : Bool) → whole r p ≡ t → taken r (settled r p) ≡ taken r p
    go true e =
        let w : p.input.at ≡ in_unit r = eqb-true p.input.at (in_unit r) e in
        rw e (rw (add-one p.input.index, suc-mul p.input.index (in_unit r)) (omega arith))
    go false e = rw e refl

-- An arriving byte adds 1 to the number of bytes taken.
pub taken-arrived : (r : Rule) (p : Progress) (b : ℕ) → taken r (arrived r p b) ≡ taken r p + 1
unfolding arrived
taken-arrived r p b = go (ltb p.input.at (in_block r)) refl
  where
    go : (t : Bool) → ltb p.input.at (in_block r) ≡ t → taken r (arrived r p b) ≡ taken r p + 1
    go true e = rw e (omega arith)
    go false e = rw e (omega arith)

-- ---- bounds

-- The number of bytes written bounds the number of units and the input offset of the current one, because an input unit
-- has at most 8 bytes more than an output unit.
pub countable : (r : Rule) (p : Progress) → InStep r p → written r p ≤ stream_limit → Countable r p
countable r p s h =
    let i = p.output.index in
    let a : i * 1 ≤ i * out_unit r = mul-le-mul_left i (omega (arith, s.matched.same, s.matched.some)) in
    let b : i * in_unit r ≤ i * (out_unit r + 8) = mul-le-mul_left i (omega (arith, s.matched.same, field_small r.input)) in
    record { input = omega (arith, s.aligned.index); output = omega arith; begins = rw (sym s.aligned.index) (omega (arith, mul-add i (out_unit r) 8)) }

-- ---- closing a unit

module _ (r : Rule) (p : Progress) (l : Layout) (c : Cursor) (before : List ℕ) where
  -- If the unit is not whole, nothing is stored, and the progress stays as it is.
  pub settled_partial : (u : ℕ) → u ≡ in_unit r → (p.input.at ≡ u → ⊥) → InLayout l c → Settled r p l c before (record { progress = p; cursor = c }) before
  unfolding settled
  settled_partial u e n s =
      let w : whole r p ≡ false = ne_eqb p.input.at (in_unit r) (λ s. n (s ∙ sym e)) in
      record { progress = rw w; stored = rw w (stored_nothing l c before s) }

  -- If the unit is whole, closing it stores its output field and starts the next unit.
  pub settled_whole : (u : ℕ) → u ≡ in_unit r → p.input.at ≡ u → (q : Progress) (d : Cursor) (after : List ℕ) → q ≡ next_unit r p
      → Stored l c before (field_due r p) d after → Settled r p l c before (record { progress = q; cursor = d }) after
  unfolding settled
  settled_whole u e n q d after eq s =
      let w : whole r p ≡ true = eq-eqb p.input.at (in_unit r) (n ∙ e) in
      record { progress = rw w eq; stored = rw w s }
