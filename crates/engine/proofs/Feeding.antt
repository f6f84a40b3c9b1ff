-- Laws about feeding: feeding bytes is the transfer rule, wherever the bytes end.
use mathlib.Core.Path.{◌≡◌, refl, sym, ap, ◌∙◌}
use mathlib.Core.List.{List, [], ◌∷◌, ◌++◌, append_assoc, append-nil}
use Prim.Native.Nat.{ℕ, zero, suc, ◌+◌, ◌*◌, ◌<◌}
use native.Mathlib.Decide.{dec_lt}
use native.Mathlib.Omega.{arith}
use lib.ListN.{length, length-append}
use lib.Seq.{take-nil}
use Rattle.guard.specs.Guards.{Bytes}
use Rattle.slot.specs.Slots.{Slot}
use Rattle.engine.specs.declared.Rule.{Rule}
use Rattle.engine.specs.declared.Progress.{Progress}
use Rattle.engine.specs.Streams.{in_block, in_unit}
use Rattle.engine.specs.Transfers.{joined}
use Rattle.engine.specs.Feeding.{arrived, settled, placed, shown, fed, emitted, begun}
use Rattle.engine.specs.Inner.Standing.{Matched, unit_out, Reached, AllFed}
use Rattle.engine.proofs.Units.{by_units, unit_within}
use Rattle.engine.proofs.Arriving.{reached_begun, reached_arrived}
use Rattle.engine.proofs.Settling.{reached_settled}

-- If all elements of two joined lists are bytes, so are those of the first list.
pub bytes_first : (ys zs : List ℕ) → Bytes (ys ++ zs) → Bytes ys
bytes_first [] zs h i = omega arith
bytes_first (y ∷ ys) zs h zero = h 0
bytes_first (y ∷ ys) zs h (suc i) = bytes_first ys zs (λ j. h (suc j)) i

-- Feeding xs and then ys is feeding xs ++ ys.
pub fed-append : (r : Rule) (p : Progress) (xs ys : List ℕ) → fed r p (xs ++ ys) ≡ fed r (fed r p xs) ys
unfolding fed
fed-append r p [] ys = refl
fed-append r p (x ∷ xs) ys = fed-append r (settled r (arrived r p x)) xs ys

-- The output bytes of xs ++ ys are those of xs and then those of ys.
pub emitted-append : (r : Rule) (p : Progress) (xs ys : List ℕ) → emitted r p (xs ++ ys) ≡ emitted r p xs ++ emitted r (fed r p xs) ys
unfolding fed emitted
emitted-append r p [] ys = refl
emitted-append r p (x ∷ xs) ys =
    rw (emitted-append r (settled r (arrived r p x)) xs ys)
    (sym (append_assoc (shown r p x ++ placed r (arrived r p x)) (emitted r (settled r (arrived r p x)) xs) (emitted r (fed r (settled r (arrived r p x)) xs) ys)))

module _ (r : Rule) (m : Matched r) (slot : Slot) where
  -- Wherever the fed bytes end, the engine is where the transfer rule says, and the current unit is not whole.
  pub reached_fed : (xs bytes : List ℕ) → Bytes (xs ++ bytes) → (p : Progress) (out : List ℕ) → Reached r slot xs p out → p.input.at < in_unit r
      → Reached r slot (xs ++ bytes) (fed r p bytes) (out ++ emitted r p bytes) × ((fed r p bytes).input.at < in_unit r)
  unfolding fed emitted
  reached_fed xs [] b p out R h = rw (append-nil xs, append-nil out) (R, h)
  reached_fed xs (x ∷ bytes) b p out R h =
      let e : xs ++ x ∷ bytes ≡ (xs ++ (x ∷ [])) ++ bytes = sym (append_assoc xs (x ∷ []) bytes) in
      let a = reached_arrived r slot xs p out x R h in
      let s = reached_settled r m slot (xs ++ (x ∷ [])) (bytes_first (xs ++ (x ∷ [])) bytes (rw e at b)) (arrived r p x) (out ++ shown r p x) a in
      let q = settled r (arrived r p x) in
      let o : out ++ ((shown r p x ++ placed r (arrived r p x)) ++ emitted r q bytes) ≡ ((out ++ shown r p x) ++ placed r (arrived r p x)) ++ emitted r q bytes =
      sym (append_assoc out (shown r p x ++ placed r (arrived r p x)) (emitted r q bytes))
      ∙ ap (λ (l : List ℕ). l ++ emitted r q bytes) (sym (append_assoc out (shown r p x) (placed r (arrived r p x)))) in
      rw (e, o) (reached_fed (xs ++ (x ∷ [])) bytes (rw e at b) q ((out ++ shown r p x) ++ placed r (arrived r p x)) s.0 s.1)

  -- Wherever bytes fed from the start end, the engine is where the transfer rule says, and the current unit is not
  -- whole.
  pub reached_after : (bytes : List ℕ) → Bytes bytes
      → Reached r slot bytes (fed r (begun r slot) bytes) (emitted r (begun r slot) bytes) × ((fed r (begun r slot) bytes).input.at < in_unit r)
  reached_after bytes b = reached_fed [] bytes b (begun r slot) [] (reached_begun r slot) (omega (arith, m.some))

-- If i units and less than one more have as many bytes as n units, i is n.
units_whole : (i n u k : ℕ) → i * u + k ≡ n * u → k < u → i ≡ n
units_whole i n u k e h = elim (dec_lt i n) [ yes l ↦ absurd (omega (arith, unit_within i n u l)) | no l ↦ elim (dec_lt n i) [ yes g ↦ absurd (omega (arith, unit_within n i u g)) | no g ↦ omega arith ] ]

-- A list of length 0 is empty.
pub nothing : (l : List ℕ) → length l ≡ 0 → l ≡ []
nothing [] e = refl
nothing (x ∷ l) e = absurd (omega arith)

-- Once a whole stream has been fed, its output and its first error are those of the transfer rule.
pub finished_fed : (r : Rule) → Matched r → (slot : Slot) (stream : List ℕ) (n : ℕ) → Bytes stream → length stream ≡ n * in_unit r
    → AllFed r slot stream n (fed r (begun r slot) stream) (emitted r (begun r slot) stream)
finished_fed r m slot stream n b e = record {
  input = whole;
  output = R.index ∙ whole;
  in_at = none;
  out_at = R.at ∙ rw (over, take-nil {A = ℕ} (in_block r));
  error = R.error ∙ rw (past, whole);
  shown = R.shown ∙ rw (over, take-nil {A = ℕ} (in_block r), append-nil (joined ◌++◌ [] (unit_out r R.past) 0 p.input.index), past, whole) (sym (by_units r stream n m.same (omega arith)));
}
  where
    p : Progress
    p = fed r (begun r slot) stream

    both : Reached r slot stream p (emitted r (begun r slot) stream) × (p.input.at < in_unit r)
    both = reached_after r m slot stream b

    R : Reached r slot stream p (emitted r (begun r slot) stream)
    R = both.0

    sum : p.input.index * in_unit r + p.input.at ≡ n * in_unit r
    sum = omega (arith, R.past_length, R.under, ap length R.split, length-append R.past R.left)

    whole : p.input.index ≡ n
    whole = units_whole p.input.index n (in_unit r) p.input.at sum both.1

    none : p.input.at ≡ 0
    none = omega (arith, sum, ap (λ (i : ℕ). i * in_unit r) whole)

    over : R.left ≡ []
    over = nothing R.left (R.under ∙ none)

    past : R.past ≡ stream
    past = sym (append-nil R.past) ∙ rw (← over) (sym R.split)
