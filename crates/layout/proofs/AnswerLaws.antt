-- Laws about answers 5, 6 and 7: what the loops that search for them find, and what holds of a layout to which none of
-- them applies.
use mathlib.Core.Path.{◌≡◌, refl, ap, sym, ◌∙◌}
use mathlib.Core.Bool.{Bool, true, false, not, ◌||◌, ◌&&◌, cond}
use mathlib.Core.List.{List, [], ◌∷◌, ◌++◌, map}
use Prim.Native.Nat.{ℕ, zero, suc, ◌+◌, ◌*◌, ◌-◌, ◌/◌, ◌%◌, ◌<◌, ◌≤◌, min, max}
use native.Mathlib.Nat.{zero-add, zero-mul, suc-mul, mul_comm, mul-le-mul_right, mod-lt, div-add-mod', div-lt_iff_lt-mul}
use native.Mathlib.Numerals.{add-one}
use native.Mathlib.Omega.{arith}
use borrow.Author.Tests.{lt-ltb, ltb-true, ltb-false}
use lib.Dec.{ltb, leb, eqb}
use lib.ListN.{length, get_or, length-append, length-map, get_or-append}
use lib.Seq.{length-take-le, get_or-take, get_or-append-add}
use Rattle.std.specs.List.{list_any, list_all}
use Rattle.std.proofs.lemmas.List.Folds.{list_any-append, list_any_at, list_all_at}
use Rattle.std.proofs.lemmas.Bool.Decides.{nat_tests}
use Rattle.std.proofs.Math.Bool.{and-true}
use Rattle.std.proofs.lemmas.List.Recursion.{same_from_clauses, and_from_places, or_from_places}
use Rattle.layout.specs.declared.Entry.{Entry}
use Rattle.layout.specs.declared.Layout.{Layout}
use Rattle.std.specs.Prelude.{Result, Ok, Err}
use Rattle.layout.specs.declared.layout_rules.LayoutError.{LayoutError}
use Rattle.layout.specs.declared.layout_rules.LayoutError.TheVariants.{Malformed, Outside, Overlapping}
use Rattle.layout.specs.declared.layout_rules.Extent.{Extent}
use Rattle.layout.specs.Pieces.{Piece, piece_end, piece_of, in_use, repeats, pieces, span, total, numbers_from, places_of, places}
use Rattle.layout.specs.Moves.{Within, Placed, Distinct, Below}
use Rattle.layout.specs.Answers.{some_count_zero, counts_bad, malformed, some_beyond, share, shares_with, some_share, verdict_on, fits}
use Rattle.layout.specs.Inner.Steps.{no_entry, entry_fits, Shaped, Fits, Spans, no_piece, Apart}
use Rattle.layout.proofs.PieceLaws.{size-repeats, length_from, get_d_from}

pub or_true : (a : Bool) → a || true ≡ true
or_true true = refl
or_true false = refl

-- If a disjunction is false, both its sides are.
pub or_false : (a b : Bool) → a || b ≡ false → (a ≡ false) × (b ≡ false)
or_false true b h = cc
or_false false b h = (refl, h)

-- ---- answer 6: the search for a piece that ends beyond the memory

-- A piece of a repeat ends beyond the memory exactly if that of one of the entries does.
beyond_repeat : (n r : ℕ) (es : List Entry) → list_any (λ (e : Entry). ltb n (piece_end (piece_of r e))) es ≡ some_beyond n (map (piece_of r) es)
unfolding some_beyond
beyond_repeat n r es = same_from_clauses (λ (es : List Entry). list_any (λ (e : Entry). ltb n (piece_end (piece_of r e))) es) (λ (es : List Entry). list_any (λ (p : Piece). ltb n (piece_end p)) (map (piece_of r) es)) (λ (e : Entry) (b : Bool). ltb n (piece_end (piece_of r e)) || b) refl (λ _ _. refl) (λ _ _. refl) es

-- A later repeat of an entry ends no earlier.
pub end_later : (r k : ℕ) (e : Entry) → r ≤ k → piece_end (piece_of r e) ≤ piece_end (piece_of k e)
end_later r k e h = omega (arith, mul-le-mul_right (e.count + e.skip) h)

-- If a piece of one repeat ends beyond the memory, so does a piece of every later repeat.
pub beyond_later : (n r k : ℕ) (es : List Entry) → r ≤ k → some_beyond n (map (piece_of r) es) ≡ true → some_beyond n (map (piece_of k) es) ≡ true
unfolding some_beyond
beyond_later n r k [] h t = t
beyond_later n r k (e ∷ es) h t = go (ltb n (piece_end (piece_of r e))) refl t (λ t. beyond_later n r k es h t)
  where
    go :
        (b : Bool)
        → ltb n (piece_end (piece_of r e)) ≡ b
        → b || some_beyond n (map (piece_of r) es) ≡ true
        → (some_beyond n (map (piece_of r) es) ≡ true → some_beyond n (map (piece_of k) es) ≡ true)
        → ltb n (piece_end (piece_of k e)) || some_beyond n (map (piece_of k) es) ≡ true
    go true b t f = rw (lt-ltb n (piece_end (piece_of k e)) (omega (arith, ltb-true n (piece_end (piece_of r e)) b, end_later r k e h)))
    go false b t f = rw (f t) (or_true (ltb n (piece_end (piece_of k e))))

-- A piece ends beyond the memory.
abbrev beyond : ℕ → Piece → Bool
beyond n p = ltb n (piece_end p)

-- The last of several repeats alone decides whether one of their pieces ends beyond the memory.
pub beyond_last : (n : ℕ) (es : List Entry) (r m : ℕ) → some_beyond n (repeats es r (m + 1)) ≡ some_beyond n (map (piece_of (r + m)) es)
unfolding repeats some_beyond
beyond_last n es r m = rw add-one (go r m)
  where
    both : (a b : Bool) → (a ≡ true → b ≡ true) → a || b ≡ b
    both true b f = sym (f refl)
    both false b f = refl

    none_more : (a : Bool) → a || false ≡ a
    none_more true = refl
    none_more false = refl

    go : (r m : ℕ) → some_beyond n (repeats es r (suc m)) ≡ some_beyond n (map (piece_of (r + m)) es)
    go r zero =
        let f : r + zero ≡ r = omega arith in
        rw f (list_any-append (beyond n) (map (piece_of r) es) [] ∙ none_more (some_beyond n (map (piece_of r) es)))
    go r (suc m) =
        let f : r + suc m ≡ suc r + m = omega arith in
        rw f
        (list_any-append (beyond n) (map (piece_of r) es) (repeats es (suc r) (suc m)) ∙ ap (λ (b : Bool). some_beyond n (map (piece_of r) es) || b) (go (suc r) m)
        ∙ both (some_beyond n (map (piece_of r) es)) (some_beyond n (map (piece_of (suc r + m)) es)) (λ t. beyond_later n r (suc r + m) es (omega arith) t))

-- The last repeat of a layout alone decides whether one of its pieces ends beyond the memory.
pub beyond_pieces :
    (n : ℕ) (l : Layout) → 0 < l.repeat
    → list_any (λ (e : Entry). ltb n (piece_end (piece_of (l.repeat - 1) e))) (in_use l) ≡ some_beyond n (pieces l)
beyond_pieces n l h =
    let e : l.repeat - 1 + 1 ≡ l.repeat = omega arith in
    beyond_repeat n (l.repeat - 1) (in_use l)
    ∙ sym (ap (λ (r : ℕ). some_beyond n (map (piece_of r) (in_use l))) (zero-add (l.repeat - 1)))
    ∙ sym (beyond_last n (in_use l) 0 (l.repeat - 1))
    ∙ ap (λ (m : ℕ). some_beyond n (repeats (in_use l) 0 m)) e

-- If answer 6 does not apply, every piece ends within the memory.
pub beyond_within : (n : ℕ) (ps : List Piece) → some_beyond n ps ≡ false → Within n ps
unfolding some_beyond Within
beyond_within n [] h = tt
beyond_within n (p ∷ ps) h =
    let f = or_false (ltb n (piece_end p)) (some_beyond n ps) h in
    (ltb-false n (piece_end p) f.0, beyond_within n ps f.1)

-- ---- answer 7: the search for two pieces that share a byte

-- `Shared p q b` says that byte b lies in both pieces.
pub record Shared (p q : Piece) (b : ℕ) : Type 0 where
  pub from_first : p.start ≤ b
  pub in_first : b < piece_end p
  pub from_second : q.start ≤ b
  pub in_second : b < piece_end q

-- If the test `share` holds, some byte lies in both pieces.
pub share_byte : (p q : Piece) → share p q ≡ true → (b : ℕ) × Shared p q b
share_byte p q h =
    let lt = ltb-true (max p.start q.start) (min (piece_end p) (piece_end q)) h in
    (max p.start q.start, record { from_first = omega arith; in_first = omega arith; from_second = omega arith; in_second = omega arith })

-- If some byte lies in both pieces, the test `share` holds.
pub byte_share : (p q : Piece) (b : ℕ) → Shared p q b → share p q ≡ true
byte_share p q b s = lt-ltb (max p.start q.start) (min (piece_end p) (piece_end q)) (omega arith)

-- A list of n repeats has n pieces for each entry.
pub length-repeats : (es : List Entry) (r n : ℕ) → length (repeats es r n) ≡ n * length es
unfolding repeats
length-repeats es r zero = sym (zero-mul (length es))
length-repeats es r (suc n) =
    omega (arith, length-append (map (piece_of r) es) (repeats es (suc r) n), length-map es (piece_of r), length-repeats es (suc r) n, suc-mul n (length es))

-- In a list of repeats from r on, piece q * length es + i is that of entry i in repeat r + q.
pub piece_at :
    (es : List Entry) (r n q i : ℕ) → q < n → i < length es → get_or (repeats es r n) (q * length es + i) no_piece ≡ piece_of (r + q) (get_or es i no_entry)
unfolding repeats
piece_at es r zero q i hq hi = absurd (omega arith)
piece_at es r (suc n) zero i hq hi =
    let e : zero * length es + i ≡ i = omega (arith, zero-mul (length es)) in
    let f : r + zero ≡ r = omega arith in
    rw (e, f) (get_or-append (map (piece_of r) es) (repeats es (suc r) n) no_piece i (omega (arith, length-map es (piece_of r))) ∙ entry es i hi)
  where
    entry : (es : List Entry) (i : ℕ) → i < length es → get_or (map (piece_of r) es) i no_piece ≡ piece_of r (get_or es i no_entry)
    entry [] i h = absurd (omega arith)
    entry (x ∷ es) zero h = refl
    entry (x ∷ es) (suc i) h = entry es i (omega arith)
piece_at es r (suc n) (suc q) i hq hi =
    let e : suc q * length es + i ≡ length (map (piece_of r) es) + (q * length es + i) = omega (arith, suc-mul q (length es), length-map es (piece_of r)) in
    let f : r + suc q ≡ suc r + q = omega arith in
    rw (e, f) (get_or-append-add (map (piece_of r) es) (repeats es (suc r) n) (q * length es + i) no_piece ∙ piece_at es (suc r) n q i (omega arith) hi)

-- If all pieces end within n bytes of memory, so does the piece at each index.
pub within_at : (n : ℕ) (ps : List Piece) (k : ℕ) → Within n ps → piece_end (get_or ps k no_piece) ≤ n
unfolding Within
within_at n [] zero w = omega arith
within_at n [] (suc k) w = omega arith
within_at n (p ∷ ps) zero w = w.0
within_at n (p ∷ ps) (suc k) w = within_at n ps k w.1

-- As many entries are in use as the used count says.
pub length_in_use : (l : Layout) → length l.entries ≡ 16 → l.used ≤ 16 → length (in_use l) ≡ l.used
length_in_use l e h = length-take-le l.used l.entries (omega arith)

-- A layout has one piece for each used entry of each repeat.
pub length-pieces : (l : Layout) → length l.entries ≡ 16 → l.used ≤ 16 → length (pieces l) ≡ l.used * l.repeat
length-pieces l e h = length-repeats (in_use l) 0 l.repeat ∙ ap (λ (n : ℕ). l.repeat * n) (length_in_use l e h) ∙ mul_comm l.repeat l.used

-- Piece k is that of entry k % used in repeat k / used.
pub piece_number :
    (l : Layout) (k : ℕ)
    → length l.entries ≡ 16
    → Shaped l
    → k < l.used * l.repeat
    → get_or (pieces l) k no_piece ≡ piece_of (k / l.used) (get_or l.entries (k % l.used) no_entry)
piece_number l k e s h =
    let u = l.used in
    let len : length (in_use l) ≡ u = length_in_use l e s.used in
    let rest : k % u < u = mod-lt k s.some in
    let count : k < l.repeat * u = omega (arith, h, mul_comm u l.repeat) in
    let whole : k / u * length (in_use l) + k % u ≡ k = rw len (div-add-mod' k u) in
    sym (ap (λ (n : ℕ). get_or (pieces l) n no_piece) whole)
    ∙ piece_at (in_use l) 0 l.repeat (k / u) (k % u) ((div-lt_iff_lt-mul s.some).1 count) (omega arith)
    ∙ ap (λ (r : ℕ). piece_of r (get_or (in_use l) (k % u) no_entry)) (zero-add (k / u))
    ∙ ap (λ (x : Entry). piece_of (k / u) x) (get_or-take u l.entries (k % u) no_entry rest)

-- If all pieces end in 64 bits, so does the piece that the code computes for piece k.
pub piece_fits :
    (l : Layout) (k : ℕ)
    → length l.entries ≡ 16
    → Shaped l
    → Within 18446744073709551615 (pieces l)
    → k < l.used * l.repeat
    → piece_end (piece_of (k / l.used) (get_or l.entries (k % l.used) no_entry)) ≤ 18446744073709551615
piece_fits l k e s w h = rw (piece_number l k e s h) at (within_at 18446744073709551615 (pieces l) k w)

-- Two extents overlap exactly if their pieces share a byte.
pub meet_share :
    (l : Layout) (k j : ℕ) (p q : Extent) (b : Bool)
    → Spans l k p
    → Spans l j q
    → b ≡ ltb (max p.start.0 q.start.0) (min p.end.0 q.end.0)
    → share (get_or (pieces l) k no_piece) (get_or (pieces l) j no_piece) ≡ b
meet_share l k j p q b s t e = sym (rw (s.start, s.end, t.start, t.end) at e)

-- If a piece shares a byte with a later one, the search finds two pieces that do.
pub share_found : (ps : List Piece) (k j : ℕ) → k < j → j < length ps → share (get_or ps k no_piece) (get_or ps j no_piece) ≡ true → some_share ps ≡ true
unfolding some_share shares_with
share_found [] k j h h' e = absurd (omega arith)
share_found (p ∷ ps) k zero h h' e = absurd (omega arith)
share_found (p ∷ ps) zero (suc j) h h' e = rw (list_any_at (share p) ps j no_piece (omega arith) e)
share_found (p ∷ ps) (suc k) (suc j) h h' e = rw (share_found ps k j (omega arith) (omega arith) e) (or_true (shares_with p ps))

-- If no piece shares a byte with a later one, the search finds no two pieces that do.
pub share_none : (ps : List Piece) → ((k j : ℕ) → k < j → j < length ps → Apart ps k j) → some_share ps ≡ false
unfolding some_share shares_with
share_none [] h = refl
share_none (p ∷ ps) h =
    rw
    (or_from_places (list_any (share p)) (share p) refl (λ _ _. refl) ps no_piece (λ j k. h 0 (suc j) (omega arith) (omega arith)))
    (share_none ps (λ k j a b. h (suc k) (suc j) (omega arith) (omega arith)))

-- ---- what holds of a sound layout

positive : (n : ℕ) → eqb n 0 ≡ false → 0 < n
positive n e = grind (arith, nat_tests)

-- If the search finds no empty entry, every count is above 0.
counted : (es : List Entry) → some_count_zero es ≡ false → (i : ℕ) → i < length es → 0 < (get_or es i no_entry).count
unfolding some_count_zero
counted [] e i h = absurd (omega arith)
counted (x ∷ es) e zero h = positive x.count (or_false (eqb x.count 0) (some_count_zero es) e).0
counted (x ∷ es) e (suc i) h = counted es (or_false (eqb x.count 0) (some_count_zero es) e).1 i (omega arith)

-- If the test `counts_bad` does not hold, the numbers of entries and repeats are in range.
pub numbered : (u r : ℕ) → counts_bad u r ≡ false → (0 < u) × (u ≤ 16) × (0 < r) × (u * r ≤ 1024)
numbered u r h =
    let a = or_false (eqb u 0 || ltb 16 u || eqb r 0) (ltb 1024 (u * r)) h in
    let b = or_false (eqb u 0 || ltb 16 u) (eqb r 0) a.0 in
    let c = or_false (eqb u 0) (ltb 16 u) b.0 in
    (positive u c.0, ltb-false 16 u c.1, positive r b.1, ltb-false 1024 (u * r) a.1)

-- If answer 5 does not apply, the numbers of entries and repeats are in range, and no entry is empty.
pub shaped : (l : Layout) → malformed l ≡ false → Shaped l
unfolding malformed
shaped l h =
    let a = or_false (counts_bad l.used l.repeat) (some_count_zero (in_use l)) h in
    let n = numbered l.used l.repeat a.0 in
    record { some = n.0; used = n.1; repeat = n.2; few = n.3; counts = counted (in_use l) a.1 }

-- The verdict is Ok only if none of the three tests holds.
verdict_sound :
    (a b c : Bool)
    → ◌≡◌ {A = Result (Unit {0}) LayoutError} (cond a (Err Malformed) (cond b (Err Outside) (cond c (Err Overlapping) (Ok tt)))) (Ok tt)
    → (a ≡ false) × (b ≡ false) × (c ≡ false)
verdict_sound true b c h = cc
verdict_sound false true c h = cc
verdict_sound false false true h = cc
verdict_sound false false false h = (refl, refl, refl)

none_of_three : (a b c : Bool) → not (a || (b || c)) ≡ true → (a ≡ false) × (b ≡ false) × (c ≡ false)
none_of_three true b c h = cc
none_of_three false true c h = cc
none_of_three false false true h = cc
none_of_three false false false h = (refl, refl, refl)

-- If the test `fits` holds, answer 5 does not apply, the layout lies in the memory, and its total is no more than the
-- memory's length.
pub fits_told : (l : Layout) (n : ℕ) → fits l n ≡ true → Fits l n
unfolding fits
fits_told l n h =
    let a = none_of_three (malformed l) (some_beyond n (pieces l)) (ltb n (total l)) h in
    let s = shaped l a.0 in
    record { shaped = s; placed = record { used = s.used; within = beyond_within n (pieces l) a.1 }; small = ltb-false n (total l) a.2 }

-- ---- the test of an untrusted layout

at_most : (a b : ℕ) → not (ltb b a) ≡ leb a b
at_most a b = grind (arith, nat_tests)

-- All entries fit exactly if none is empty and none ends beyond the memory.
all_fit :
    (n r : ℕ) (es : List Entry)
    → list_all (entry_fits n r) es ≡ not (some_count_zero es || list_any (λ (e : Entry). ltb n (piece_end (piece_of r e))) es)
unfolding some_count_zero
all_fit n r [] = refl
all_fit n r (e ∷ es) = go (eqb e.count 0) (ltb n (piece_end (piece_of r e))) (some_count_zero es) _ (all_fit n r es)
  where
    go : {x : Bool} (a b c d : Bool) → x ≡ not (c || d) → not (a || b) && x ≡ not ((a || c) || (b || d))
    go true b c d h = refl
    go false true true d h = refl
    go false true false d h = refl
    go false false true d h = h
    go false false false d h = h

-- If the numbers of entries and repeats are in range, a layout fits if all entries do, in the last repeat, and its total
-- is no more than the memory's length.
pub fits_if :
    (l : Layout) (n : ℕ) → counts_bad l.used l.repeat ≡ false
    → fits l n ≡ list_all (entry_fits n (l.repeat - 1)) (in_use l) && leb (l.repeat * span (in_use l)) n
unfolding fits malformed
fits_if l n h =
    rw (all_fit n (l.repeat - 1) (in_use l), beyond_pieces n l (numbered l.used l.repeat h).2, ← size-repeats (in_use l) 0 l.repeat)
    (go (counts_bad l.used l.repeat) (some_count_zero (in_use l)) (some_beyond n (pieces l)) (total l) h)
  where
    go : (m z s : Bool) (t : ℕ) → m ≡ false → not ((m || z) || (s || ltb n t)) ≡ not (z || s) && leb t n
    go true z s t e = cc
    go false true s t e = refl
    go false false true t e = refl
    go false false false t e = at_most t n

-- If an entry does not fit, the layout does not.
pub fits_not :
    (l : Layout) (n i : ℕ) → counts_bad l.used l.repeat ≡ false → i < length (in_use l)
    → entry_fits n (l.repeat - 1) (get_or (in_use l) i no_entry) ≡ false → fits l n ≡ false
fits_not l n i h k e = fits_if l n h ∙ rw (list_all_at (entry_fits n (l.repeat - 1)) (in_use l) i no_entry k e)

-- If all entries fit, the layout does if its total is no more than the memory's length.
pub fits-total :
    (l : Layout) (n : ℕ) → counts_bad l.used l.repeat ≡ false
    → ((i : ℕ) → i < length (in_use l) → entry_fits n (l.repeat - 1) (get_or (in_use l) i no_entry) ≡ true)
    → fits l n ≡ leb (l.repeat * span (in_use l)) n
fits-total l n h e = fits_if l n h ∙ rw (and_from_places (list_all (entry_fits n (l.repeat - 1))) (entry_fits n (l.repeat - 1)) refl (λ _ _. refl) (in_use l) no_entry e)

-- A layout of one entry fits if the entry does, and its total is no more than the memory's length.
pub fits_one :
    (l : Layout) (n : ℕ) (e : Entry) → counts_bad l.used l.repeat ≡ false → in_use l ≡ e ∷ []
    → fits l n ≡ entry_fits n (l.repeat - 1) e && leb (l.repeat * e.count) n
fits_one l n e h one =
    fits_if l n h ∙ rw (one, zero-add e.count, and-true (entry_fits n (l.repeat - 1) e))

-- None of answers 5, 6 and 7 applies to a sound layout.
pub sound : (l : Layout) (n : ℕ) → verdict_on l n ≡ Ok tt → (malformed l ≡ false) × (some_beyond n (pieces l) ≡ false) × (some_share (pieces l) ≡ false)
unfolding verdict_on
sound l n h = verdict_sound (malformed l) (some_beyond n (pieces l)) (some_share (pieces l)) h

-- A sound layout has 1 to 16 entries, none of them empty, and at most 1,024 pieces.
pub sound_shaped : (l : Layout) (n : ℕ) → verdict_on l n ≡ Ok tt → Shaped l
sound_shaped l n h = shaped l (sound l n h).0

-- A sound layout lies in the memory.
pub sound_placed : (l : Layout) (n : ℕ) → verdict_on l n ≡ Ok tt → Placed l n
sound_placed l n h = record { used = (sound_shaped l n h).used; within = beyond_within n (pieces l) (sound l n h).1 }

module _ (p : Piece) (ps : List Piece) (i : ℕ) where
  -- Byte i of the first piece has the memory offset start + i.
  place_near : i < p.count → get_or (places_of (p ∷ ps)) i 0 ≡ p.start + i
  unfolding places_of
  place_near h =
      get_or-append (numbers_from p.start p.count) (places_of ps) 0 i (omega (arith, length_from p.start p.count))
      ∙ get_d_from p.start p.count i h

  -- An offset after those of the first piece is one of the later pieces.
  place_far : p.count ≤ i → get_or (places_of (p ∷ ps)) i 0 ≡ get_or (places_of ps) (i - p.count) 0
  unfolding places_of
  place_far h =
      let at : i ≡ length (numbers_from p.start p.count) + (i - p.count) = omega (arith, length_from p.start p.count) in
      ap (λ (k : ℕ). get_or (numbers_from p.start p.count ++ places_of ps) k 0) at
      ∙ get_or-append-add (numbers_from p.start p.count) (places_of ps) (i - p.count) 0

  -- An index after the first piece, less its count, is an index among the offsets of the later pieces.
  place_left : i < length (places_of (p ∷ ps)) → p.count ≤ i → i - p.count < length (places_of ps)
  unfolding places_of
  place_left h g = omega (arith, length-append (numbers_from p.start p.count) (places_of ps), length_from p.start p.count)

-- If all pieces end within n bytes of memory, all their offsets are below n.
pub within_below : (n : ℕ) (ps : List Piece) → Within n ps → Below n (places_of ps)
unfolding Within places_of
within_below n [] w i h = absurd (omega arith)
within_below n (p ∷ ps) w i h = go (ltb i p.count) refl (λ j g. within_below n ps w.1 j g)
  where
    go : (b : Bool) → ltb i p.count ≡ b → Below n (places_of ps) → get_or (places_of (p ∷ ps)) i 0 < n
    go true e f =
        let g = ltb-true i p.count e in
        omega (arith, place_near p ps i g, w.0)
    go false e f =
        let g = ltb-false i p.count e in
        omega (arith, place_far p ps i g, f (i - p.count) (place_left p ps i h g))

-- Every memory offset of a sound layout is below the memory's length.
pub sound_below : (l : Layout) (n : ℕ) → verdict_on l n ≡ Ok tt → Below n (places l)
sound_below l n h = within_below n (pieces l) (sound_placed l n h).within

-- If pieces share no byte with p, none of their offsets lies in p.
apart :
    (p : Piece) (qs : List Piece)
    → shares_with p qs ≡ false
    → (j : ℕ)
    → j < length (places_of qs)
    → p.start ≤ get_or (places_of qs) j 0
    → get_or (places_of qs) j 0 < piece_end p
    → ⊥
unfolding shares_with places_of
apart p [] s j h a b = omega arith
apart p (q ∷ qs) s j h a b =
    let f = or_false (share p q) (shares_with p qs) s in
    go (ltb j q.count) refl (ltb-false (max p.start q.start) (min (piece_end p) (piece_end q)) f.0) (λ k h a b. apart p qs f.1 k h a b)
  where
    go :
        (c : Bool)
        → ltb j q.count ≡ c
        → min (piece_end p) (piece_end q) ≤ max p.start q.start
        → ((k : ℕ) → k < length (places_of qs) → p.start ≤ get_or (places_of qs) k 0 → get_or (places_of qs) k 0 < piece_end p → ⊥)
        → ⊥
    go true e f r = omega (arith, ltb-true j q.count e, place_near q qs j (ltb-true j q.count e), a, b)
    go false e f r =
        let g = ltb-false j q.count e in
        let far = place_far q qs j g in
        r (j - q.count) (place_left q qs j h g) (omega (arith, a)) (omega (arith, b))

-- If no two pieces share a byte, no two of their offsets are the same.
pub apart_distinct : (ps : List Piece) → some_share ps ≡ false → Distinct (places_of ps)
unfolding some_share places_of
apart_distinct [] s i j h h' e = absurd (omega arith)
apart_distinct (p ∷ ps) s i j h h' e =
    let f = or_false (shares_with p ps) (some_share ps) s in
    go (ltb i p.count) (ltb j p.count) refl refl (apart p ps f.0) (λ k m g g' e. apart_distinct ps f.1 k m g g' e)
  where
    go :
        (a b : Bool)
        → ltb i p.count ≡ a
        → ltb j p.count ≡ b
        → ((k : ℕ) → k < length (places_of ps) → p.start ≤ get_or (places_of ps) k 0 → get_or (places_of ps) k 0 < piece_end p → ⊥)
        → Distinct (places_of ps)
        → i ≡ j
    go true true a b out d =
        let g = ltb-true i p.count a in
        let g' = ltb-true j p.count b in
        omega (arith, place_near p ps i g, place_near p ps j g', e)
    go true false a b out d =
        let g = ltb-true i p.count a in
        let g' = ltb-false j p.count b in
        let v : get_or (places_of ps) (j - p.count) 0 ≡ p.start + i = sym (place_far p ps j g') ∙ sym e ∙ place_near p ps i g in
        absurd (out (j - p.count) (place_left p ps j h' g') (omega arith) (omega arith))
    go false true a b out d =
        let g = ltb-false i p.count a in
        let g' = ltb-true j p.count b in
        let v : get_or (places_of ps) (i - p.count) 0 ≡ p.start + j = sym (place_far p ps i g) ∙ e ∙ place_near p ps j g' in
        absurd (out (i - p.count) (place_left p ps i h g) (omega arith) (omega arith))
    go false false a b out d =
        let g = ltb-false i p.count a in
        let g' = ltb-false j p.count b in
        let same = d (i - p.count) (j - p.count) (place_left p ps i h g) (place_left p ps j h' g') (sym (place_far p ps i g) ∙ e ∙ place_far p ps j g') in
        omega arith

-- No two bytes of a sound layout have the same memory offset.
pub sound_distinct : (l : Layout) (n : ℕ) → verdict_on l n ≡ Ok tt → Distinct (places l)
sound_distinct l n h = apart_distinct (pieces l) (sound l n h).2
