-- Laws about `joined`: equal elements join to the same result, a further element is joined at the end, and the blocks
-- of joined blocks are the blocks.
use mathlib.Core.Path.{◌≡◌, refl, sym, ◌∙◌}
use mathlib.Core.List.{List, [], ◌++◌}
use Prim.Native.Nat.{ℕ, zero, suc, ◌+◌, ◌*◌, ◌≤◌, ◌<◌}
use native.Mathlib.Nat.{add-zero, suc-mul, zero-mul}
use native.Mathlib.Omega.{arith}
use lib.ListN.{length, take, drop}
use lib.Seq.{drop-drop, drop_at, take_at}
use Rattle.engine.specs.Transfers.{joined}

module _ {A : Type 0} (op : A → A → A) (none : A) where
  -- Elements that are equal one by one join to the same result.
  pub joined_same : (f g : ℕ → A) (i n : ℕ) → ((k : ℕ) → i ≤ k → k < i + n → f k ≡ g k) → joined op none f i n ≡ joined op none g i n
  unfolding joined
  joined_same f g i zero h = refl
  joined_same f g i (suc n) h =
      rw (h i (omega arith) (omega arith), joined_same f g (suc i) n (λ k a b. h k (omega arith) (omega arith)))

  -- If `op` is associative and `none` is neutral, a further element may be joined at the end.
  pub joined_last : ((a : A) → op none a ≡ a) → ((a : A) → op a none ≡ a) → ((a b c : A) → op (op a b) c ≡ op a (op b c))
      → (f : ℕ → A) (i n : ℕ) → joined op none f i (suc n) ≡ op (joined op none f i n) (f (i + n))
  unfolding joined
  joined_last left right assoc f i zero = right (f i) ∙ rw (add-zero i) (sym (left (f i)))
  joined_last left right assoc f i (suc n) =
      let e : suc i + n ≡ i + suc n = omega arith in
      rw (joined_last left right assoc f (suc i) n, e) (sym (assoc (f i) (joined op none f (suc i) n) (f (i + suc n))))

-- Block j of joined blocks of one size is the block with index j.
pub joined_block : (f : ℕ → List ℕ) (size i n : ℕ) → ((k : ℕ) → k < i + n → length (f k) ≡ size) → (j : ℕ) → j < n
    → take size (drop (j * size) (joined ◌++◌ [] f i n)) ≡ f (i + j)
unfolding joined
joined_block f size i zero h j l = absurd (omega arith)
joined_block f size i (suc n) h zero l = rw (zero-mul size, add-zero i) (take_at (f i) (joined ◌++◌ [] f (suc i) n) size (h i (omega arith)))
joined_block f size i (suc n) h (suc j) l =
    let e : suc j * size ≡ size + j * size = suc-mul j size ∙ omega arith in
    let k : i + suc j ≡ suc i + j = omega arith in
    rw (e, ← drop-drop (j * size) size (f i ++ joined ◌++◌ [] f (suc i) n), drop_at (f i) (joined ◌++◌ [] f (suc i) n) size (h i (omega arith)), k)
    (joined_block f size (suc i) n (λ m b. h m (omega arith)) j (omega arith))
