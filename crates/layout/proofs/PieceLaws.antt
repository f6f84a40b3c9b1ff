-- Laws about pieces: how many bytes they have, and at which memory offsets these bytes lie.
use mathlib.Core.Path.{◌≡◌, refl, ap, sym, ◌∙◌}
use mathlib.Core.List.{List, [], ◌∷◌, ◌++◌, map, append-nil}
use Prim.Native.Nat.{ℕ, zero, suc, ◌+◌, ◌*◌, ◌-◌, ◌<◌, ◌≤◌}
use native.Mathlib.Nat.{add-zero, sub-zero, mul-zero, zero-add, zero-mul, suc-mul}
use native.Mathlib.Omega.{arith}
use lib.ListN.{length, take, drop, get_or, length-append}
use Rattle.std.proofs.lemmas.List.Sums.{sum_by-append, sum_by-cons}
use Rattle.layout.specs.declared.Entry.{Entry}
use Rattle.layout.specs.declared.Layout.{Layout}
use Rattle.layout.specs.Pieces.{Piece, piece_of, in_use, repeats, pieces, size, span, total, numbers_from, places_of, places}
use Rattle.layout.specs.Moves.{Within, Placed}
use Rattle.layout.specs.Inner.Steps.{no_entry}

-- ---- how many bytes

pub size-append : (ps qs : List Piece) → size (ps ++ qs) ≡ size ps + size qs
unfolding size
size-append ps qs = sum_by-append (λ (p : Piece). p.count) ps qs

-- The pieces of one repeat have as many bytes as the counts of the entries add up to.
pub size_repeat : (r : ℕ) (es : List Entry) → size (map (piece_of r) es) ≡ span es
unfolding size
size_repeat r [] = refl
size_repeat r (e ∷ es) =
    omega (arith, sum_by-cons (λ (p : Piece). p.count) (piece_of r e) (map (piece_of r) es), sum_by-cons (λ (e : Entry). e.count) e es, size_repeat r es)

-- Every repeat has the same number of bytes, so n repeats have n times as many.
pub size-repeats : (es : List Entry) (r n : ℕ) → size (repeats es r n) ≡ n * span es
unfolding size repeats
size-repeats es r zero = sym (zero-mul (span es))
size-repeats es r (suc n) =
    omega (arith, size-append (map (piece_of r) es) (repeats es (suc r) n), size_repeat r es, size-repeats es (suc r) n, suc-mul n (span es))

-- If the used count is 1, only the first entry is in use.
pub one_in_use : (l : Layout) → length l.entries ≡ 16 → l.used ≡ 1 → in_use l ≡ get_or l.entries 0 no_entry ∷ []
one_in_use l n one = rw one (go l.entries (omega arith))
  where
    go : (es : List Entry) → 0 < length es → take 1 es ≡ get_or es 0 no_entry ∷ []
    go [] h = absurd (omega arith)
    go (e ∷ es) h = refl

-- ---- pieces within memory

-- Pieces that end within n bytes of memory end within every longer memory.
pub within_more : (n m : ℕ) (ps : List Piece) → n ≤ m → Within n ps → Within m ps
unfolding Within
within_more n m [] h w = tt
within_more n m (p ∷ ps) h w = (omega (arith, w.0), within_more n m ps h w.1)

-- A layout that lies in a memory also lies in every longer one.
pub placed_more : {l : Layout} {n m : ℕ} → n ≤ m → Placed l n → Placed l m
placed_more {l} {n} {m} h p = record { used = p.used; within = within_more n m (pieces l) h p.within }

-- If a repeat has no bytes, the layout has none.
pub total_none : (l : Layout) → span (in_use l) ≡ 0 → total l ≡ 0
total_none l e = size-repeats (in_use l) 0 l.repeat ∙ ap (λ (k : ℕ). l.repeat * k) e ∙ mul-zero l.repeat

-- ---- memory offsets

pub length_from : (m n : ℕ) → length (numbers_from m n) ≡ n
unfolding numbers_from
length_from m zero = refl
length_from m (suc n) = ap suc (length_from (suc m) n)

-- Dropping x of the n numbers from m on leaves the n - x numbers from m + x on.
pub drop_from : (x m n : ℕ) → x ≤ n → drop x (numbers_from m n) ≡ numbers_from (m + x) (n - x)
unfolding numbers_from
drop_from zero m n h = rw (add-zero, sub-zero)
drop_from (suc x) m zero h = absurd (omega arith)
drop_from (suc x) m (suc n) h =
    let e : m + suc x ≡ suc m + x = omega arith in
    let f : suc n - suc x ≡ n - x = omega arith in
    rw (e, f) (drop_from x (suc m) n (omega arith))

-- Element i of the numbers from m on is m + i.
pub get_d_from : (m n i : ℕ) → i < n → get_or (numbers_from m n) i 0 ≡ m + i
unfolding numbers_from
get_d_from m zero i h = absurd (omega arith)
get_d_from m (suc n) zero h = omega arith
get_d_from m (suc n) (suc i) h = omega (arith, get_d_from (suc m) n i (omega arith))

-- Pieces have one memory offset for each of their bytes.
pub length_places_of : (ps : List Piece) → length (places_of ps) ≡ size ps
unfolding places_of size
length_places_of [] = refl
length_places_of (p ∷ ps) =
    omega (arith, length-append (numbers_from p.start p.count) (places_of ps), length_from p.start p.count, length_places_of ps, sum_by-cons (λ (p : Piece). p.count) p ps)

-- A layout has one memory offset for each of its bytes.
pub length-places : (l : Layout) → length (places l) ≡ total l
length-places l = length_places_of (pieces l)

-- The first k of the n numbers from m on are the k numbers from m on.
pub take_from : (k m n : ℕ) → k ≤ n → take k (numbers_from m n) ≡ numbers_from m k
unfolding numbers_from
take_from zero m n h = refl
take_from (suc k) m zero h = absurd (omega arith)
take_from (suc k) m (suc n) h = ap (λ (l : List ℕ). m ∷ l) (take_from k (suc m) n (omega arith))

-- ---- a layout of one piece: one entry, repeat 1

module _ (l : Layout) (e : Entry) (es : List Entry) (first : l.entries ≡ e ∷ es) (one : l.used ≡ 1) (once : l.repeat ≡ 1) where
  -- A layout of one entry and repeat 1 has one piece.
  pub one_piece : pieces l ≡ record { start = e.start.0; count = e.count } ∷ []
  unfolding repeats
  one_piece =
      let z : e.start.0 + 0 * (e.count + e.skip) ≡ e.start.0 = omega arith in
      rw (once, one, first, z)

  -- A layout of one piece has as many bytes as the piece.
  pub one_total : total l ≡ e.count
  unfolding size
  one_total = ap (λ (ps : List Piece). size ps) one_piece ∙ zero-add e.count

  -- The bytes of a layout of one piece lie at consecutive memory offsets.
  pub one_places : places l ≡ numbers_from e.start.0 e.count
  unfolding places_of
  one_places = ap (λ (ps : List Piece). places_of ps) one_piece ∙ append-nil (numbers_from e.start.0 e.count)

  -- A layout of one piece lies in a memory if the piece does.
  pub one_placed : (n : ℕ) → e.start.0 + e.count ≤ n → Placed l n
  unfolding Within
  one_placed n w = record { used = omega arith; within = rw one_piece (w, tt) }
