-- Laws about feeding part by part: feeding a part and then the rest is feeding all bytes.
use mathlib.Core.Path.{◌≡◌, refl, sym, ap, ◌∙◌}
use mathlib.Core.List.{List, [], ◌∷◌, ◌++◌, append-nil}
use Prim.Native.Nat.{ℕ, ◌+◌, ◌-◌, ◌*◌, ◌^◌, ◌≤◌, ◌<◌, min}
use native.Mathlib.Decide.{dec_lt}
use native.Mathlib.Omega.{arith}
use lib.ListN.{length, take, drop, length-append, length-drop, take-append-drop}
use lib.Seq.{length-take-le}
use borrow.Author.Tests.{lt-ltb, le-ltb}
use Rattle.layout.specs.declared.Layout.{Layout}
use Rattle.layout.specs.declared.cursor.Cursor.{Cursor}
use Rattle.slot.specs.Slots.{Slot}
use Rattle.layout.specs.Pieces.{total}
use Rattle.layout.specs.Moves.{Placed}
use Rattle.layout.specs.Inner.Cursors.{ahead, InLayout, Walked, Stored, Storing}
use Rattle.layout.proofs.CursorLaws.{walked_left, stored_nothing, stored_append, stored_size, storing_on, storing_end}
use Rattle.engine.specs.declared.Rule.{Rule}
use Rattle.engine.specs.declared.Progress.{Progress}
use Rattle.engine.specs.declared.FeedResult.{FeedResult}
use Rattle.engine.specs.Streams.{in_block, in_unit, out_unit}
use Rattle.engine.specs.Feeding.{arrived, settled, placed, shown, fed, emitted, begun}
use Rattle.engine.specs.Inner.Standing.{Matched}
use Rattle.engine.specs.Positions.{taken, written}
use Rattle.engine.specs.Inner.Parts.{data_taken, field_taken, part_taken, part_shown, InStep, Room, Feedable, Feeds, Settled, Arrives, Holds, OnePart, Going}
use Rattle.engine.proofs.Arriving.{field_small}
use Rattle.engine.proofs.Units.{unit_within}
use Rattle.engine.proofs.PartLaws.{data_part, field_part, in_step_data, in_step_field, in_step_settled, written-settled, taken-settled, taken-arrived}
use Rattle.engine.proofs.Feeding.{fed-append, emitted-append}

-- In these laws xs is a part: its bytes all lie in one block's data or in one field.
module _ (r : Rule) (p : Progress) (xs : List ℕ) (some : 0 < length xs) (o : OnePart r p (length xs)) where
  -- Feeding a part of data is taking it as data and then closing the unit if it is whole.
  data_fed : p.input.at < in_block r → (fed r p xs ≡ settled r (data_taken r p xs)) × (emitted r p xs ≡ xs ++ placed r (data_taken r p xs))
  data_fed h = go xs some (o.block h)
    where
      go : (ys : List ℕ) → 0 < length ys → p.input.at + length ys ≤ in_block r
          → (fed r p ys ≡ settled r (data_taken r p ys)) × (emitted r p ys ≡ ys ++ placed r (data_taken r p ys))
      go [] s k = absurd (omega arith)
      go (y ∷ ys) s k = data_part r p y ys k

  -- Feeding a part of a field is holding it and then closing the unit if it is whole.
  field_fed : in_block r ≤ p.input.at → (fed r p xs ≡ settled r (field_taken r p xs)) × (emitted r p xs ≡ placed r (field_taken r p xs))
  field_fed h = go xs some o.unit
    where
      go : (ys : List ℕ) → 0 < length ys → p.input.at + length ys ≤ in_unit r
          → (fed r p ys ≡ settled r (field_taken r p ys)) × (emitted r p ys ≡ placed r (field_taken r p ys))
      go [] s k = absurd (omega arith)
      go (y ∷ ys) s k = field_part r p y ys (h, k)

  -- A part of a field meets the precondition of holding it.
  pub field_holds : in_block r ≤ p.input.at → InStep r p → Holds r p (length xs)
  field_holds h s = record { field = h; fits = omega (arith, o.unit, field_small r.input); small = s.matched.most; eight = s.aligned.eight }

  -- Feeding a part of data or of a field is taking it at once and then closing the unit if it is whole.
  part-fed : (fed r p xs ≡ settled r (part_taken r p xs)) × (emitted r p xs ≡ part_shown r p xs ++ placed r (part_taken r p xs))
  part-fed = go (dec_lt p.input.at (in_block r))
    where
      go : Dec (p.input.at < in_block r) → (fed r p xs ≡ settled r (part_taken r p xs)) × (emitted r p xs ≡ part_shown r p xs ++ placed r (part_taken r p xs))
      go (yes h) = rw (lt-ltb p.input.at (in_block r) h) (data_fed h)
      go (no h) = rw (le-ltb p.input.at (in_block r) (omega (arith, h))) (field_fed (omega (arith, h)))

  -- Taking a part keeps both sides in step, and adds the bytes stored of it to the number of bytes written.
  pub part_in_step : InStep r p → InStep r (part_taken r p xs) × (written r (part_taken r p xs) ≡ written r p + length (part_shown r p xs))
  part_in_step s = go (dec_lt p.input.at (in_block r))
    where
      go : Dec (p.input.at < in_block r) → InStep r (part_taken r p xs) × (written r (part_taken r p xs) ≡ written r p + length (part_shown r p xs))
      go (yes h) = rw (lt-ltb p.input.at (in_block r) h) (in_step_data r p s xs (o.block h), omega arith)
      go (no h) = rw (le-ltb p.input.at (in_block r) (omega (arith, h))) (in_step_field r p s xs (omega (arith, h)) o.unit, omega arith)

  -- The output of a part is what is stored of it as it arrives, and what closing its unit stores.
  shown-length : length (emitted r p xs) ≡ length (part_shown r p xs) + length (placed r (part_taken r p xs))
  shown-length = ap length part-fed.1 ∙ length-append (part_shown r p xs) (placed r (part_taken r p xs))

  -- After a part is fed, both sides are in step, the current unit is not whole, and the number of bytes written has
  -- grown by the part's output.
  pub part-after : InStep r p → InStep r (fed r p xs) × ((fed r p xs).input.at < in_unit r) × (written r (fed r p xs) ≡ written r p + length (emitted r p xs))
  part-after s =
      let t = part_in_step s in
      let e = in_step_settled r (part_taken r p xs) t.0 in
      let w = written-settled r (part_taken r p xs) t.0 in
      rw part-fed.0 (e.0, e.1, omega (arith, w, t.1, shown-length))

  module _ (l : Layout) (c : Cursor) where
    -- If there is room for the output of a part of data, there is room for the part.
    pub data_room : (m : ℕ) → p.input.at < in_block r → Room r p l c m (length (emitted r p xs)) → length xs ≤ length (ahead l c)
    data_room m h R = omega (arith, R.fits, ap length (data_fed h).1, length-append xs (placed r (data_taken r p xs)))

    -- A part that was stored and taken as data has arrived.
    pub arrives_data : p.input.at < in_block r → (before : List ℕ) (q : Progress) (d : Cursor) (after : List ℕ) → q ≡ data_taken r p xs → Stored l c before xs d after
        → Arrives r p l c before xs (record { progress = q; cursor = d }) after
    arrives_data h before q d after e s = record { progress = rw (lt-ltb p.input.at (in_block r) h) e; stored = rw (lt-ltb p.input.at (in_block r) h) s }

    -- A part that was held as field bytes has arrived, with nothing stored.
    pub arrives_field : in_block r ≤ p.input.at → (before : List ℕ) (q : Progress) → q ≡ field_taken r p xs → InLayout l c
        → Arrives r p l c before xs (record { progress = q; cursor = c }) before
    arrives_field h before q e s = record { progress = rw (le-ltb p.input.at (in_block r) h) e; stored = rw (le-ltb p.input.at (in_block r) h) (stored_nothing l c before s) }

    module _ (before : List ℕ) (a : FeedResult) (mid : List ℕ) (A : Arrives r p l c before xs a mid) where
      -- If there was room for the output of a part, then after its arrival there is room for what closing its unit
      -- stores.
      pub arrived_room : InStep r p → Room r p l c (length before) (length (emitted r p xs))
          → InStep r a.progress × Room r a.progress l a.cursor (length mid) (length (placed r a.progress))
      arrived_room s R =
          let t = part_in_step s in
          let left : length (ahead l a.cursor) ≡ length (ahead l c) - length (part_shown r p xs) = ap length A.stored.on ∙ length-drop (length (part_shown r p xs)) (ahead l c) in
          rw (A.progress, stored_size A.stored) (
            t.0,
            record {
              placed = R.placed;
              stands = A.stored.stands;
              fits = omega (arith, R.fits, left, shown-length);
              small = omega (arith, R.fits, R.small, left, shown-length, t.1);
            },
          )

      -- A part has been fed once it has arrived and its unit has been closed if it is whole.
      pub arrived_done : (f : FeedResult) (after : List ℕ) → Settled r a.progress l a.cursor mid f after → Feeds r p l c before xs f after
      arrived_done f after S =
          let T = rw A.progress at S in
          record {
            progress = T.progress ∙ sym part-fed.0;
            stored = rw part-fed.1 (stored_append l c a.cursor f.cursor before mid after (part_shown r p xs) (placed r (part_taken r p xs)) A.stored T.stored);
          }

-- There is room ahead of a cursor at layout byte x if the layout has enough bytes from there on and at most x bytes are
-- written.
pub room_at : (r : Rule) (p : Progress) (l : Layout) (x : ℕ) (c : Cursor) (memory more : ℕ) → Placed l memory → Walked l x c → written r p ≤ x → x + more ≤ total l → total l ≤ 2 ^ 26
    → Room r p l c memory more
room_at r p l x c memory more placed w h k small =
    let left = walked_left l x c w in
    record { placed = placed; stands = w.stands; fits = omega (arith, left); small = omega (arith, left) }

-- Before the first byte both sides are in step.
pub begun_in_step : (r : Rule) (slot : Slot) → Matched r → InStep r (begun r slot)
begun_in_step r slot m = record { matched = m; aligned = record { index = refl; at = omega arith; within = omega arith; eight = refl } }

-- After any bytes are fed, both sides are in step, the current unit is not whole, and the number of bytes written has
-- grown by the output of those bytes.
pub fed-after : (r : Rule) (p : Progress) → InStep r p → p.input.at < in_unit r → (xs : List ℕ)
    → InStep r (fed r p xs) × ((fed r p xs).input.at < in_unit r) × (written r (fed r p xs) ≡ written r p + length (emitted r p xs))
unfolding fed emitted
fed-after r p s h [] = (s, h, omega arith)
fed-after r p s h (x ∷ xs) =
    let o : OnePart r p 1 = record { block = λ k. omega arith; unit = omega arith } in
    let a = part-after r p (x ∷ []) (omega arith) o s in
    let b = fed-after r (settled r (arrived r p x)) a.0 a.1 xs in
    let w : written r (settled r (arrived r p x)) ≡ written r p + length (shown r p x ++ placed r (arrived r p x)) = rw (append-nil (shown r p x ++ placed r (arrived r p x))) at a.2 in
    (b.0, b.1, b.2 ∙ rw (w, length-append (shown r p x ++ placed r (arrived r p x)) (emitted r (settled r (arrived r p x)) xs)) (omega arith))

-- Feeding n bytes adds n to the number of bytes taken.
pub fed-taken : (r : Rule) (p : Progress) → InStep r p → p.input.at < in_unit r → (xs : List ℕ) → taken r (fed r p xs) ≡ taken r p + length xs
unfolding fed
fed-taken r p s h [] = omega arith
fed-taken r p s h (x ∷ xs) =
    let o : OnePart r p 1 = record { block = λ k. omega arith; unit = omega arith } in
    let a = part-after r p (x ∷ []) (omega arith) o s in
    let t = fed-taken r (settled r (arrived r p x)) a.0 a.1 xs in
    t ∙ rw (taken-settled r (arrived r p x), taken-arrived r p x) (omega arith)

-- If at most n input units have come, at most n output units are written.
pub written_within : (r : Rule) (p : Progress) → InStep r p → p.input.at < in_unit r → (n : ℕ) → taken r p ≤ n * in_unit r → written r p ≤ n * out_unit r
written_within r p s h n t = go (dec_lt p.input.index n)
  where
    go : Dec (p.input.index < n) → written r p ≤ n * out_unit r
    go (yes l) = rw (s.aligned.index, s.aligned.at) (omega (arith, unit_within p.input.index n (out_unit r) l, s.matched.same))
    go (no l) = rw (s.aligned.index, s.aligned.at) (last (dec_lt n p.input.index))
      where
        last : Dec (n < p.input.index) → p.input.index * out_unit r + min p.input.at (in_block r) ≤ n * out_unit r
        last (yes g) = absurd (omega (arith, unit_within n p.input.index (in_unit r) g))
        last (no g) =
            let e : p.input.index ≡ n = omega (arith, l, g) in
            let z : p.input.at ≡ 0 = omega (arith, ap (λ (i : ℕ). i * in_unit r) e) in
            rw (e, z) (omega arith)

module _ (r : Rule) (p : Progress) (l : Layout) (c : Cursor) (before bytes : List ℕ) where
  -- The precondition of feeding implies the loop's invariant before the first part.
  pub going_start : (m : ℕ) → m ≡ length before → Feedable r p l c m bytes → Going r p l c before bytes (record { progress = p; cursor = c }) before bytes
  going_start m e f = record {
    in_step = f.in_step;
    begun = f.begun;
    progress = refl;
    storing = record { stands = f.room.stands; room = f.room.fits; on = refl; memory = refl; size = refl };
    placed = rw e at f.room.placed;
    small = f.room.small;
  }

  module _ (q : FeedResult) (mid rest : List ℕ) (g : Going r p l c before bytes q mid rest) where
    -- In these laws the first n bytes of the rest are fed.
    module _ (n : ℕ) where
      -- Feeding the rest is feeding its first n bytes and then the bytes after them.
      whole-fed : fed r q.progress rest ≡ fed r (fed r q.progress (take n rest)) (drop n rest)
      whole-fed = ap (fed r q.progress) (sym (take-append-drop n rest)) ∙ fed-append r q.progress (take n rest) (drop n rest)

      -- The output of the rest is that of its first n bytes and then that of the bytes after them.
      whole-emitted : emitted r q.progress rest ≡ emitted r q.progress (take n rest) ++ emitted r (fed r q.progress (take n rest)) (drop n rest)
      whole-emitted = ap (emitted r q.progress) (sym (take-append-drop n rest)) ∙ emitted-append r q.progress (take n rest) (drop n rest)

      -- There is room for the output of the first n bytes of the rest.
      part_room : Room r q.progress l q.cursor (length mid) (length (emitted r q.progress (take n rest)))
      part_room = record {
        placed = g.placed;
        stands = g.storing.stands;
        fits = omega (
          arith,
          g.storing.room,
          ap length whole-emitted,
          length-append (emitted r q.progress (take n rest)) (emitted r (fed r q.progress (take n rest)) (drop n rest)),
        );
        small = g.small;
      }

      -- The first n bytes of the rest meet the precondition of feeding.
      pub part_feedable : Feedable r q.progress l q.cursor (length mid) (take n rest)
      part_feedable = record { in_step = g.in_step; begun = g.begun; room = part_room }

      -- If the first n bytes of the rest are one part, they meet the precondition of `feed_part`.
      pub part_asks : 0 < n → n ≤ length rest → OnePart r q.progress n
          → Feedable r q.progress l q.cursor (length mid) (take n rest) × ((OnePart r q.progress (length (take n rest))) × (0 < length (take n rest)))
      part_asks some most o = (part_feedable, rw (length-take-le n rest most) (o, some))

      -- Feeding the first n bytes of the rest keeps the loop's invariant.
      pub going_turn : (q' : FeedResult) (mid' : List ℕ) → Feeds r q.progress l q.cursor mid (take n rest) q' mid' → Going r p l c before bytes q' mid' (drop n rest)
      going_turn q' mid' f =
          let a = fed-after r q.progress g.in_step g.begun (take n rest) in
          let left : length (ahead l q'.cursor) ≡ length (ahead l q.cursor) - length (emitted r q.progress (take n rest)) =
          ap length f.stored.on ∙ length-drop (length (emitted r q.progress (take n rest))) (ahead l q.cursor) in
          record {
            in_step = rw f.progress a.0;
            begun = rw f.progress a.1;
            progress = rw f.progress (sym whole-fed) ∙ g.progress;
            storing =
                rw f.progress
                (storing_on l c before (emitted r p bytes) q.cursor q'.cursor mid mid' (emitted r q.progress (take n rest)) (emitted r (fed r q.progress (take n rest)) (drop n rest))
                (rw whole-emitted at g.storing) f.stored);
            placed = rw (stored_size f.stored) g.placed;
            small = rw f.progress (omega (arith, a.2, left, g.small, part_room.fits));
          }

    -- If the rest is empty, all bytes have been fed.
    pub going_end : length rest ≡ 0 → Feeds r p l c before bytes q mid
    unfolding fed emitted
    going_end e = go rest e g.progress g.storing
      where
        go : (ys : List ℕ) → length ys ≡ 0 → fed r q.progress ys ≡ fed r p bytes → Storing l c before (emitted r p bytes) q.cursor mid (emitted r q.progress ys)
            → Feeds r p l c before bytes q mid
        go [] z a b = record { progress = a; stored = storing_end l c before (emitted r p bytes) q.cursor mid [] refl b }
        go (y ∷ ys) z a b = absurd (omega arith)
