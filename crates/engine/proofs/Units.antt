-- Laws about the transfer rule unit by unit: a unit's output and its error depend only on the bytes up to its end.
use Rattle.std.specs.Prelude.{None}
use mathlib.Core.Path.{◌≡◌, refl, ◌∙◌}
use mathlib.Core.List.{List, [], ◌++◌, append_assoc, append-nil}
use Prim.Native.Nat.{ℕ, suc, ◌+◌, ◌*◌, ◌≤◌, ◌<◌}
use native.Mathlib.Nat.{suc-mul, zero-add, mul-le-mul_right}
use native.Mathlib.Omega.{arith}
use lib.ListN.{length, drop, length-drop}
use lib.Seq.{length-take-le}
use Rattle.slot.specs.Slots.{keep}
use Rattle.slot.proofs.Laws.{keep_none, keep-first}
use Rattle.engine.specs.declared.Rule.{Rule}
use Rattle.engine.specs.Streams.{field_size, in_block, in_unit, out_block, input_block, input_field}
use Rattle.engine.specs.Transfers.{joined, data_of, output_block, field_after, output_unit, output_stream, error_of, first_error}
use Rattle.engine.specs.Inner.Standing.{unit_out}
use Rattle.engine.proofs.Windows.{window-first}
use Rattle.engine.proofs.Joined.{joined_same, joined_last, joined_block}

-- If k is below n, unit k ends where n units end, or before.
pub unit_within : (k n u : ℕ) → k < n → k * u + u ≤ n * u
unit_within k n u h = omega (arith, suc-mul k u, mul-le-mul_right u h)

module _ (r : Rule) where
  -- In these laws unit k has come with xs, so that its block, its field, its output and its error do not depend on ys.
  module _ (xs ys : List ℕ) (k : ℕ) (h : k * in_unit r + in_unit r ≤ length xs) where
    pub block_first : input_block r (xs ++ ys) k ≡ input_block r xs k
    unfolding input_block
    block_first = window-first (k * in_unit r) (in_block r) xs ys (omega arith)

    pub field_first : input_field r (xs ++ ys) k ≡ input_field r xs k
    unfolding input_field
    field_first = window-first (k * in_unit r + in_block r) (field_size r.input) xs ys (omega arith)

    pub unit-first : unit_out r (xs ++ ys) k ≡ unit_out r xs k
    unfolding field_after
    unit-first = rw (block_first, field_first)

    pub error_first : error_of r (xs ++ ys) k ≡ error_of r xs k
    error_first = rw (block_first, field_first)

  -- The output of n units that have come does not depend on the bytes after them.
  pub units_first : (xs ys : List ℕ) (n : ℕ) → n * in_unit r ≤ length xs
      → joined ◌++◌ [] (unit_out r (xs ++ ys)) 0 n ≡ joined ◌++◌ [] (unit_out r xs) 0 n
  units_first xs ys n h =
      joined_same ◌++◌ [] (unit_out r (xs ++ ys)) (unit_out r xs) 0 n
      (λ k a b. unit-first xs ys k (omega (arith, unit_within k n (in_unit r) (omega arith))))

  -- The first error of n units that have come does not depend on the bytes after them.
  pub errors_first : (xs ys : List ℕ) (n : ℕ) → n * in_unit r ≤ length xs → first_error r (xs ++ ys) n ≡ first_error r xs n
  unfolding first_error
  errors_first xs ys n h =
      joined_same keep None (error_of r (xs ++ ys)) (error_of r xs) 0 n
      (λ k a b. error_first xs ys k (omega (arith, unit_within k n (in_unit r) (omega arith))))

  -- The output of n + 1 units is that of the first n units, and then that of unit n.
  pub units_last : (xs : List ℕ) (n : ℕ) → joined ◌++◌ [] (unit_out r xs) 0 (suc n) ≡ joined ◌++◌ [] (unit_out r xs) 0 n ++ unit_out r xs n
  units_last xs n = joined_last ◌++◌ [] (λ a. refl) append-nil append_assoc (unit_out r xs) 0 n ∙ rw (zero-add n)

  -- The first error of n + 1 units is that of the first n units or, if they have none, that of unit n.
  pub errors_last : (xs : List ℕ) (n : ℕ) → first_error r xs (suc n) ≡ keep (first_error r xs n) (error_of r xs n)
  unfolding first_error
  errors_last xs n = joined_last keep None (λ a. refl) keep_none keep-first (error_of r xs) 0 n ∙ rw (zero-add n)

  module _ (stream : List ℕ) (n : ℕ) (same : out_block r ≡ in_block r) (h : n * in_unit r ≤ length stream) where
    -- Each of n units that have come has a whole block.
    pub block_length : (k : ℕ) → k < n → length (input_block r stream k) ≡ in_block r
    unfolding input_block
    block_length k l =
        length-take-le (in_block r) (drop (k * in_unit r) stream)
        (rw (length-drop (k * in_unit r) stream) (omega (arith, unit_within k n (in_unit r) l)))

    -- If both sides have one block size, output block k is input block k.
    block_same : (k : ℕ) → k < n → output_block r stream n k ≡ input_block r stream k
    unfolding output_block data_of
    block_same k l = rw same (joined_block (input_block r stream) (in_block r) 0 n (λ j b. block_length j (omega arith)) k l ∙ rw (zero-add k))

    -- If both sides have one block size, the output stream is the output of its units, joined.
    pub by_units : output_stream r stream n n ≡ joined ◌++◌ [] (unit_out r stream) 0 n
    unfolding output_stream
    by_units = joined_same ◌++◌ [] (output_unit r stream n) (unit_out r stream) 0 n (λ k a b. rw (block_same k (omega arith)))
