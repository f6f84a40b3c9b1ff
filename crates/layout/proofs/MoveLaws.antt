-- Laws about gathering and scattering: what was stored is read back, and all other bytes keep their values.
use mathlib.Core.Path.{◌≡◌, refl, ap, sym, ◌∙◌}
use mathlib.Core.List.{List, [], ◌∷◌, ◌++◌, append_assoc}
use Prim.Native.Nat.{ℕ, zero, suc, ◌+◌, ◌<◌, ◌≤◌}
use native.Mathlib.Omega.{arith}
use lib.ListN.{length, take-append-drop, take, drop, get_or, set, length-drop, length-set, length-map}
use lib.Seq.{length-take-le, drop-cons, get_or-set_same, get_or-set_other, get_or-take, get_or-drop, ext_get_or, sets, sets-eq}
use Rattle.layout.specs.Pieces.{numbers_from}
use Rattle.layout.specs.Moves.{gathered, scattered, Distinct, Below}

-- ---- gathered

-- Gathering reads one byte for each offset.
pub length-gathered : (m ps : List ℕ) → length (gathered m ps) ≡ length ps
unfolding gathered
length-gathered m ps = length-map ps (λ (p : ℕ). get_or m p 0)

-- Byte i of the gathered bytes is the memory byte at offset i of the list.
pub gathered_at : (m ps : List ℕ) (i : ℕ) → i < length ps → get_or (gathered m ps) i 0 ≡ get_or m (get_or ps i 0) 0
unfolding gathered
gathered_at m [] i h = absurd (omega arith)
gathered_at m (p ∷ ps) zero h = refl
gathered_at m (p ∷ ps) (suc i) h = gathered_at m ps i (omega arith)

-- Gathering at n consecutive offsets reads n consecutive bytes of memory.
pub gathered_from : (m : List ℕ) (a n : ℕ) → a + n ≤ length m → gathered m (numbers_from a n) ≡ take n (drop a m)
unfolding gathered numbers_from
gathered_from m a zero h = refl
gathered_from m a (suc n) h =
    rw (drop-cons m a 0 (omega arith)) (ap (λ (l : List ℕ). get_or m a 0 ∷ l) (gathered_from m (suc a) n (omega arith)))

-- ---- scattered

-- Storing bytes does not change the length of the memory.
pub length-scattered : (m ps bs : List ℕ) → length (scattered m ps bs) ≡ length m
unfolding scattered
length-scattered m [] bs = refl
length-scattered m (p ∷ ps) [] = refl
length-scattered m (p ∷ ps) (b ∷ bs) = length-scattered (set m p b) ps bs ∙ length-set m p b

-- Storing no bytes leaves the memory as it is.
pub scattered_none : (m ps : List ℕ) → scattered m ps [] ≡ m
unfolding scattered
scattered_none m [] = refl
scattered_none m (p ∷ ps) = refl

-- Storing xs ++ ys is storing xs, and then ys at the offsets after those of xs.
pub scattered-append :
    (m ps xs ys : List ℕ) → scattered m ps (xs ++ ys) ≡ scattered (scattered m ps xs) (drop (length xs) ps) ys
unfolding scattered
scattered-append m [] [] ys = refl
scattered-append m [] (x ∷ xs) ys = refl
scattered-append m (p ∷ ps) [] ys = refl
scattered-append m (p ∷ ps) (x ∷ xs) ys = scattered-append (set m p x) ps xs ys

-- Only the offsets of the bytes that are stored matter.
pub scattered-take : (m ps bs : List ℕ) (n : ℕ) → length bs ≤ n → scattered m (take n ps) bs ≡ scattered m ps bs
unfolding scattered
scattered-take m [] bs zero h = refl
scattered-take m [] bs (suc n) h = refl
scattered-take m (p ∷ ps) [] zero h = refl
scattered-take m (p ∷ ps) [] (suc n) h = refl
scattered-take m (p ∷ ps) (b ∷ bs) zero h = absurd (omega arith)
scattered-take m (p ∷ ps) (b ∷ bs) (suc n) h = scattered-take (set m p b) ps bs n (omega arith)

-- Storing bytes at consecutive offsets from a on sets the memory bytes from a on.
pub scattered_from : (m bs : List ℕ) (a n : ℕ) → length bs ≤ n → scattered m (numbers_from a n) bs ≡ sets m a bs
unfolding scattered numbers_from
scattered_from m [] a zero h = refl
scattered_from m [] a (suc n) h = refl
scattered_from m (b ∷ bs) a zero h = absurd (omega arith)
scattered_from m (b ∷ bs) a (suc n) h = scattered_from (set m a b) bs (suc a) n (omega arith)

-- If the first k offsets are consecutive, the first k bytes replace k bytes of memory at once, and the rest is stored
-- at the offsets after them.
pub scattered_run :
    (m ps bs : List ℕ) (a k : ℕ)
    → take k ps ≡ numbers_from a k
    → k ≤ length bs
    → a + k ≤ length m
    → scattered m ps bs ≡ scattered (take a m ++ (take k bs ++ drop (a + k) m)) (drop k ps) (drop k bs)
scattered_run m ps bs a k e hb w =
    let len : length (take k bs) ≡ k = length-take-le k bs hb in
    let first : scattered m ps (take k bs) ≡ take a m ++ (take k bs ++ drop (a + k) m) =
    sym (scattered-take m ps (take k bs) k (omega arith))
    ∙ ap (λ (l : List ℕ). scattered m l (take k bs)) e
    ∙ scattered_from m (take k bs) a k (omega arith)
    ∙ sets-eq (take k bs) m a (omega arith)
    ∙ ap (λ (n : ℕ). take a m ++ take k bs ++ drop (a + n) m) len
    ∙ append_assoc (take a m) (take k bs) (drop (a + k) m) in
    ap (λ (l : List ℕ). scattered m ps l) (sym (take-append-drop k bs))
    ∙ scattered-append m ps (take k bs) (drop k bs)
    ∙ ap (λ (n : ℕ). scattered (scattered m ps (take k bs)) (drop n ps) (drop k bs)) len
    ∙ ap (λ (l : List ℕ). scattered l (drop k ps) (drop k bs)) first

-- A memory byte at an offset that is not stored to keeps its value.
pub scattered_other :
    (m ps bs : List ℕ) (p : ℕ)
    → ((i : ℕ) → i < length bs → i < length ps → get_or ps i 0 ≡ p → ⊥)
    → get_or (scattered m ps bs) p 0 ≡ get_or m p 0
unfolding scattered
scattered_other m [] bs p o = refl
scattered_other m (q ∷ ps) [] p o = refl
scattered_other m (q ∷ ps) (b ∷ bs) p o =
    scattered_other (set m q b) ps bs p (λ i h h' e. o (suc i) (omega arith) (omega arith) e)
    ∙ get_or-set_other m q p b 0 (λ e. o 0 (omega arith) (omega arith) (sym e))

-- If no two offsets are the same, each offset holds the byte stored at it.
pub scattered_at :
    (m ps bs : List ℕ) (i : ℕ)
    → Distinct ps
    → Below (length m) ps
    → i < length bs
    → i < length ps
    → get_or (scattered m ps bs) (get_or ps i 0) 0 ≡ get_or bs i 0
unfolding scattered
scattered_at m [] bs i d w h h' = absurd (omega arith)
scattered_at m (p ∷ ps) [] i d w h h' = absurd (omega arith)
scattered_at m (p ∷ ps) (b ∷ bs) zero d w h h' =
    scattered_other (set m p b) ps bs p (λ j g g' e. let z : suc j ≡ 0 = d (suc j) 0 (omega arith) (omega arith) e in omega arith)
    ∙ get_or-set_same m p b 0 (w 0 (omega arith))
scattered_at m (p ∷ ps) (b ∷ bs) (suc i) d w h h' =
    scattered_at (set m p b) ps bs i
    (λ j k g g' e. let z : suc j ≡ suc k = d (suc j) (suc k) (omega arith) (omega arith) e in omega arith)
    (λ j g. omega (arith, w (suc j) (omega arith), length-set m p b)) (omega arith) (omega arith)

-- If no two offsets are the same, gathering reads back what was stored.
pub gathered-scattered :
    (m ps bs : List ℕ) → Distinct ps → Below (length m) ps → length bs ≤ length ps → gathered (scattered m ps bs) (take (length bs) ps) ≡ bs
gathered-scattered m ps bs d w h =
    let len : length (take (length bs) ps) ≡ length bs = length-take-le (length bs) ps h in
    let all : length (gathered (scattered m ps bs) (take (length bs) ps)) ≡ length bs = length-gathered (scattered m ps bs) (take (length bs) ps) ∙ len in
    ext_get_or 0 (gathered (scattered m ps bs) (take (length bs) ps)) bs all
    (λ i g. gathered_at (scattered m ps bs) (take (length bs) ps) i (omega arith)
    ∙ ap (λ (p : ℕ). get_or (scattered m ps bs) p 0) (get_or-take (length bs) ps i 0 (omega arith))
    ∙ scattered_at m ps bs i d w (omega arith) (omega arith))

-- ---- the offsets from an index on

-- If no two offsets of a list are the same, no two of those from index x on are.
pub distinct_drop : (x : ℕ) (ps : List ℕ) → Distinct ps → Distinct (drop x ps)
distinct_drop x ps d i j h h' e =
    let z : x + i ≡ x + j =
    d (x + i) (x + j) (omega (arith, length-drop x ps)) (omega (arith, length-drop x ps)) (sym (get_or-drop x ps i 0) ∙ e ∙ get_or-drop x ps j 0) in
    omega arith

-- If all offsets of a list are below n, so are those from index x on.
pub below_drop : (n x : ℕ) (ps : List ℕ) → Below n ps → Below n (drop x ps)
below_drop n x ps w i h = omega (arith, w (x + i) (omega (arith, length-drop x ps)), get_or-drop x ps i 0)
