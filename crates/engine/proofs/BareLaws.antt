-- Laws about transfers without signatures: each byte is a unit, and the output bytes are the input bytes.
use mathlib.Core.Path.{◌≡◌, refl, sym, ap, ◌∙◌}
use mathlib.Core.Bool.{true}
use mathlib.Core.List.{List, [], ◌∷◌, ◌++◌}
use Prim.Native.Nat.{ℕ, suc, ◌+◌, ◌^◌, ◌≤◌}
use native.Mathlib.Omega.{arith}
use lib.Dec.{ltb}
use lib.ListN.{length}
use borrow.Author.Tests.{lt-ltb, eq-eqb}
use Rattle.slot.specs.Slots.{keep}
use Rattle.slot.proofs.Laws.{keep_none}
use Rattle.layout.specs.declared.Layout.{Layout}
use Rattle.layout.specs.declared.cursor.Cursor.{Cursor}
use Rattle.layout.specs.Inner.Cursors.{ahead, Stored}
use Rattle.layout.proofs.CursorLaws.{stored_nothing}
use Rattle.engine.specs.declared.Rule.{Rule}
use Rattle.engine.specs.declared.Progress.{Progress}
use Rattle.engine.specs.Streams.{block_size, field_size, in_block, in_unit}
use Rattle.engine.specs.Transfers.{error_by}
use Rattle.engine.specs.Feeding.{side_at, arrived, whole, error_due, settled, placed, shown, fed, emitted}
use Rattle.engine.specs.Inner.Parts.{Feedable, Feeds, Unsigned, Countable}
use Rattle.engine.proofs.PartLaws.{countable}

-- `moved r p n` is the progress n units of one byte further on.
abbrev moved : Rule → Progress → ℕ → Progress
moved r p n = record { input = side_at r.input (p.input.index + n); output = side_at r.output (p.output.index + n); held = p.held; slot = p.slot }

-- In these laws neither side is signed.
module _ (r : Rule) (b : Unsigned r) where
  one_block : in_block r ≡ 1
  unfolding block_size
  one_block = rw (b.input, b.output)

  one_unit : in_unit r ≡ 1
  unfolding field_size
  one_unit = rw (one_block, b.input)

  -- Without an input signature no error is recorded.
  no_error_lem : (p : Progress) → keep p.slot (error_due r p) ≡ p.slot
  unfolding error_due error_by
  no_error_lem p = rw b.input (keep_none p.slot)

  module _ (p : Progress) (h : p.input.at ≡ 0) (x : ℕ) where
    is_data : ltb p.input.at (in_block r) ≡ true
    is_data = lt-ltb p.input.at (in_block r) (omega (arith, one_block))

    is_whole : whole r (arrived r p x) ≡ true
    unfolding arrived
    is_whole = rw is_data (eq-eqb (p.input.at + 1) (in_unit r) (omega (arith, one_unit)))

    kept : ((arrived r p x).input.index ≡ p.input.index) × ((arrived r p x).output.index ≡ p.output.index) × ((arrived r p x).held ≡ p.held) × ((arrived r p x).slot ≡ p.slot)
    unfolding arrived
    kept = rw is_data (refl, refl, refl, refl)

    -- A byte completes its unit, and the next unit begins.
    one_byte : settled r (arrived r p x) ≡ moved r p 1
    unfolding settled
    one_byte =
        rw is_whole
        (λ i. record {
          input = side_at r.input (kept.0 i + 1);
          output = side_at r.output (kept.1 i + 1);
          held = kept.2 i;
          slot = (no_error_lem (arrived r p x) ∙ kept.3) i;
        })

    -- A byte is stored as it arrives, and no field is stored after it.
    one_shown : shown r p x ++ placed r (arrived r p x) ≡ x ∷ []
    one_shown = rw (is_data, is_whole, b.output)

  -- Feeding n bytes without signatures leads n units further on.
  pub bare_fed : (p : Progress) → p.input.at ≡ 0 → (x : ℕ) (xs : List ℕ) → fed r p (x ∷ xs) ≡ moved r p (suc (length xs))
  unfolding fed
  bare_fed p h x [] = one_byte p h x
  bare_fed p h x (y ∷ ys) =
      let e : p.input.index + 1 + suc (length ys) ≡ p.input.index + suc (suc (length ys)) = omega arith in
      let f : p.output.index + 1 + suc (length ys) ≡ p.output.index + suc (suc (length ys)) = omega arith in
      rw (one_byte p h x) (bare_fed (moved r p 1) refl y ys ∙ rw (e, f))

  -- Without signatures the output bytes are the input bytes.
  pub bare_emitted : (p : Progress) → p.input.at ≡ 0 → (xs : List ℕ) → emitted r p xs ≡ xs
  unfolding emitted
  bare_emitted p h [] = refl
  bare_emitted p h (x ∷ xs) = rw (one_shown p h x, one_byte p h x, bare_emitted (moved r p 1) refl xs)

  -- In these laws the bytes meet the precondition of feeding.
  module _ (p : Progress) (l : Layout) (c : Cursor) (before bytes : List ℕ) (f : Feedable r p l c (length before) bytes) where
    -- A unit of one byte that is not whole is at its start.
    at_start : p.input.at ≡ 0
    at_start = omega (arith, one_unit, f.begun)

    -- There is room for the bytes.
    pub bare_room : length bytes ≤ length (ahead l c)
    bare_room = omega (arith, f.room.fits, ap length (bare_emitted p at_start bytes))

    -- The bytes can be counted.
    pub bare_small : Countable r p × (length bytes ≤ 2 ^ 26)
    bare_small =
        let e = ap length (bare_emitted p at_start bytes) in
        (countable r p f.in_step (omega (arith, f.room.small)), omega (arith, f.room.fits, f.room.small))

    -- Feeding no bytes changes nothing.
    pub bare_none : length bytes ≡ 0 → Feeds r p l c before bytes (record { progress = p; cursor = c }) before
    unfolding fed emitted
    bare_none e = go bytes e
      where
        go : (ys : List ℕ) → length ys ≡ 0 → Feeds r p l c before ys (record { progress = p; cursor = c }) before
        go [] z = record { progress = refl; stored = stored_nothing l c before f.room.stands }
        go (y ∷ ys) z = absurd (omega arith)

    -- Storing the bytes and moving the progress past them is feeding them.
    pub bare_done : (length bytes ≡ 0 → ⊥) → (d : Cursor) (after : List ℕ) → Stored l c before bytes d after
        → Feeds r p l c before bytes (record { progress = moved r p (length bytes); cursor = d }) after
    bare_done n d after e = record { progress = go bytes n; stored = rw (bare_emitted p at_start bytes) e }
      where
        go : (ys : List ℕ) → (length ys ≡ 0 → ⊥) → moved r p (length ys) ≡ fed r p ys
        go [] z = absurd (z refl)
        go (y ∷ ys) z = sym (bare_fed p at_start y ys)
