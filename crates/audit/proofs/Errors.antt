-- These laws prove demand 2 for errors: the transfer rule's first error is that of the first bad block and of its first
-- bad tag.
use Rattle.field.specs.declared.Mismatch.{Mismatch}
use Rattle.std.specs.Prelude.{Option, Some, None}
use mathlib.Core.Path.{◌≡◌, refl, sym, ap, ◌∙◌}
use mathlib.Core.Bool.{Bool, true, false, ◌&&◌, ◌||◌, not, cond}
use mathlib.Core.List.{List, [], ◌∷◌}
use mathlib.Core.Logic.{◌↔◌}
use Prim.Native.Nat.{ℕ, zero, suc, ◌+◌, ◌*◌, ◌/◌, ◌%◌, ◌≤◌, ◌<◌}
use native.Mathlib.Omega.{arith}
use lib.Dec.{eqb, ltb, leb}
use lib.ListN.{get_or}
use borrow.Author.Tests.{le-leb, lt-leb, leb-true, ltb-true, not-true, not-false, eq-eqb, ne_eqb, eqb-true, eqb-false, lt-ltb}
use Rattle.field.specs.declared.ProtectionField.{ProtectionField}
use Rattle.field.specs.declared.Tag.{Tag}
use Rattle.field.specs.declared.Tag.TheVariants.{Guard, Application, Reference}
use Rattle.field.specs.Tests.{bit}
use Rattle.field.specs.Domains.{signed}
use Rattle.field.specs.Fields.{bytes_of, bytes_in}
use Rattle.field.specs.Judging.{escaped, checked_mask, differs, digit, mask_of, differing, bits_of, mismatch, first_bad, judged}
use Rattle.field.proofs.Laws.{digit_small}
use Rattle.slot.specs.declared.Error.{Error}
use Rattle.key.specs.declared.Key.{Key}
use Rattle.slot.specs.Slots.{Slot, keep}
use Rattle.engine.specs.declared.Rule.{Rule}
use Rattle.engine.specs.Streams.{in_unit, input_block}
use Rattle.engine.specs.Transfers.{joined, guard_by, slot_of, error_by, error_of, first_error}
use Rattle.engine.proofs.Units.{errors_last}
use Rattle.transfer.specs.Transferring.{send_result, receive_result}
use Rattle.cstructs.proofs.Laws.{both}
use Rattle.audit.proofs.Ranges.{none_below, next_below, two_below}
use Rattle.audit.proofs.FieldBytes.{eight_at}
use Rattle.audit.specs.Errors.{InMask, found, computed, GoodByte, BadByte, GoodBlock, first, after, FirstBadTag, BadBytesOf, ErrorOfBlock, FirstBadBlock, HoldsFirstError, SendFindsFirstError, ReceiveFindsFirstError}

-- ---- a set of eight bytes as a mask: which tags have a byte in it

-- A number whose first two binary digits are a and b, and whose other digits are less than n, is at least n if and only
-- if a or b is set.
above : (n : ℕ) (a b : Bool) (rest : ℕ) → rest < n → leb n (digit a * (2 * n) + digit b * n + rest) ≡ a || b
above n true b rest h = le-leb n (digit true * (2 * n) + digit b * n + rest) (omega arith)
above n false true rest h = le-leb n (digit false * (2 * n) + digit true * n + rest) (omega arith)
above n false false rest h = lt-leb n (digit false * (2 * n) + digit false * n + rest) (omega arith)

module _ (a b c d e f g h : Bool) where
  -- The number `set` is the mask of the bytes whose flags are a to h.
  set : ℕ
  unfolding mask_of
  set = mask_of 0 (a ∷ b ∷ c ∷ d ∷ e ∷ f ∷ g ∷ h ∷ [])

  -- The number `low` is the value of the four bits of the reference tag.
  low : ℕ
  low = digit e * 8 + digit f * 4 + (digit g * 2 + digit h)

  -- The number `middle` is the value of the bits of the application tag and the reference tag.
  middle : ℕ
  middle = digit c * 32 + digit d * 16 + low

  low_small : low < 16
  unfolding low
  low_small = omega (arith, digit_small e, digit_small f, digit_small g, digit_small h)

  middle_small : middle < 64
  unfolding middle
  middle_small = omega (arith, low_small, digit_small c, digit_small d)

  set_is : set ≡ digit a * 128 + digit b * 64 + middle
  unfolding set middle low
  set_is = omega arith

  -- The mask is at least 64 if and only if the set contains a guard byte.
  guard_set : leb 64 set ≡ a || b
  guard_set = rw set_is (above 64 a b middle middle_small)

  -- The mask without its guard bits is at least 16 if and only if the set contains a byte of the application tag.
  application_set : leb 16 (set % 64) ≡ c || d
  unfolding middle
  application_set =
      let m : set % 64 ≡ middle = omega (arith, set_is, middle_small) in
      rw m (above 16 c d low low_small)

  -- The low four bits of the mask are those of the reference tag.
  low_left : set % 16 ≡ low
  unfolding middle
  low_left = omega (arith, set_is, low_small)

  -- The low four bits of the mask are not 0 if and only if the set contains a byte of the reference tag.
  reference_set : ltb 0 (set % 16) ≡ (e || f) || (g || h)
  unfolding low
  reference_set = rw low_left (go e f g h)
    where
      go : (e f g h : Bool) → ltb 0 (digit e * 8 + digit f * 4 + (digit g * 2 + digit h)) ≡ (e || f) || (g || h)
      go true f g h = lt-ltb 0 (digit true * 8 + digit f * 4 + (digit g * 2 + digit h)) (omega arith)
      go false true g h = lt-ltb 0 (digit false * 8 + digit true * 4 + (digit g * 2 + digit h)) (omega arith)
      go false false true h = lt-ltb 0 (digit false * 8 + digit false * 4 + (digit true * 2 + digit h)) (omega arith)
      go false false false true = refl
      go false false false false = refl

-- ---- a set of eight bytes as a mask: the bits of each tag

-- A bit of a number is set if and only if its binary digit is 1.
digit-bit : (m n : ℕ) (b : Bool) → m / n % 2 ≡ digit b → bit m n ≡ b
digit-bit m n true e = eq-eqb (m / n % 2) 1 e
digit-bit m n false e = ne_eqb (m / n % 2) 1 (λ one. omega arith)

module _ (a b c d e f g h : Bool) where
  -- The digits of the flags are at most 1. A law about the mask reads these facts.
  abbrev Small : Type 0
  Small = (digit a ≤ 1) × (digit b ≤ 1) × (digit c ≤ 1) × (digit d ≤ 1) × (digit e ≤ 1) × (digit f ≤ 1) × (digit g ≤ 1) × (digit h ≤ 1)

  small : Small
  small = (digit_small a, digit_small b, digit_small c, digit_small d, digit_small e, digit_small f, digit_small g, digit_small h)

  -- A mask of eight flags has eight bits.
  set_small : set a b c d e f g h < 256
  unfolding set
  set_small = omega (arith, small)

  -- The bytes in a mask are those whose flags are set.
  bytes_in_set : bytes_in (set a b c d e f g h) ≡ a ∷ b ∷ c ∷ d ∷ e ∷ f ∷ g ∷ h ∷ []
  unfolding set
  bytes_in_set =
      let at = digit-bit (set a b c d e f g h) in
      rw (
        at 128 a (omega (arith, small)),
        at 64 b (omega (arith, small)),
        at 32 c (omega (arith, small)),
        at 16 d (omega (arith, small)),
        at 8 e (omega (arith, small)),
        at 4 f (omega (arith, small)),
        at 2 g (omega (arith, small)),
        at 1 h (omega (arith, small)),
      ) refl

  -- The bits of each tag are the mask of the same set without the bytes of the other tags.
  guard_bits_lem : set a b c d e f g h / 64 * 64 ≡ set a b false false false false false false
  unfolding set
  guard_bits_lem = omega (arith, small)

  application_bits_lem : set a b c d e f g h % 64 / 16 * 16 ≡ set false false c d false false false false
  unfolding set
  application_bits_lem = omega (arith, small)

  reference_bits_lem : set a b c d e f g h % 16 ≡ set false false false false e f g h
  unfolding set
  reference_bits_lem = omega (arith, small)

-- The number `set_by` is the mask of the bytes of which a test is true.
abbrev set_by : (ℕ → Bool) → ℕ
set_by bad = set (bad 0) (bad 1) (bad 2) (bad 3) (bad 4) (bad 5) (bad 6) (bad 7)

-- The test `own p k` is true if byte k is one of the tag's.
abbrev own : Tag → ℕ → Bool
own p k = leb (first p) k && ltb k (after p)

module _ (bad : ℕ → Bool) where
  -- The test of a byte, which is false for the bytes of other tags.
  abbrev own_bad : Tag → ℕ → Bool
  own_bad p k = own p k && bad k

  -- The bits of a tag are the mask of its own bytes of which the test is true.
  tag_set : (p : Tag) → bits_of p (set_by bad) ≡ set_by (own_bad p)
  tag_set Guard = guard_bits_lem (bad 0) (bad 1) (bad 2) (bad 3) (bad 4) (bad 5) (bad 6) (bad 7)
  tag_set Application = application_bits_lem (bad 0) (bad 1) (bad 2) (bad 3) (bad 4) (bad 5) (bad 6) (bad 7)
  tag_set Reference = reference_bits_lem (bad 0) (bad 1) (bad 2) (bad 3) (bad 4) (bad 5) (bad 6) (bad 7)

  -- The bits of a tag are less than 256.
  tag_small : (p : Tag) → bits_of p (set_by bad) < 256
  tag_small p = rw (tag_set p) (set_small _ _ _ _ _ _ _ _)

  -- Byte k is in the bits of a tag if and only if it is the tag's and the test is true of it.
  in_tag : (p : Tag) (k : ℕ) → k < 8 → InMask (bits_of p (set_by bad)) k ↔ ((first p ≤ k) × (k < after p) × (bad k ≡ true))
  in_tag p k h = ((λ m. to (sym flag ∙ m)), (λ t. flag ∙ from t))
    where
      flag : get_or (bytes_in (bits_of p (set_by bad))) k false ≡ own_bad p k
      flag =
          ap (λ (m : ℕ). get_or (bytes_in m) k false) (tag_set p)
          ∙ ap (λ (l : List Bool). get_or l k false) (bytes_in_set _ _ _ _ _ _ _ _)
          ∙ eight_at (own_bad p) false k h

      to : own_bad p k ≡ true → (first p ≤ k) × (k < after p) × (bad k ≡ true)
      to t =
          let u = both (own p k) (bad k) t in
          let v = both (leb (first p) k) (ltb k (after p)) u.0 in
          (leb-true (first p) k v.0, ltb-true k (after p) v.1, u.1)

      from : (first p ≤ k) × (k < after p) × (bad k ≡ true) → own_bad p k ≡ true
      from (f, l, b) = rw (le-leb (first p) k f, lt-ltb k (after p) l, b) refl

-- ---- the first bad tag, by a test for each byte

-- A judgement fits a test of each byte if it is none and no byte is bad, or if it names the first tag with a bad byte.
data Told (bad : ℕ → Bool) (rule seen : ProtectionField) : Option Mismatch → Type 0 where
  all_good : ((k : ℕ) → k < 8 → bad k ≡ false) → Told bad rule seen None
  tag_bad : (p : Tag) (k : ℕ) → first p ≤ k → k < after p → bad k ≡ true → ((j : ℕ) → j < first p → bad j ≡ false) → Told bad rule seen (Some (mismatch p (set_by bad) rule seen))

module _ (bad : ℕ → Bool) where
  -- The property `NotBad k` says that the test of byte k is false.
  abbrev NotBad : ℕ → Type 0
  NotBad k = bad k ≡ false

  four : NotBad 0 → NotBad 1 → NotBad 2 → NotBad 3 → (k : ℕ) → k < 4 → NotBad k
  four p q r s = next_below NotBad 3 (next_below NotBad 2 (two_below NotBad p q) r) s

  module _ (rule seen : ProtectionField) where
    -- The judgement that is chosen by the tests of the eight bytes fits them.
    by_bytes : (a b c d e f g h : Bool) → bad 0 ≡ a → bad 1 ≡ b → bad 2 ≡ c → bad 3 ≡ d → bad 4 ≡ e → bad 5 ≡ f → bad 6 ≡ g → bad 7 ≡ h
        → Told bad rule seen
        (cond (a || b) (Some (mismatch Guard (set_by bad) rule seen))
        (cond (c || d) (Some (mismatch Application (set_by bad) rule seen))
        (cond ((e || f) || (g || h)) (Some (mismatch Reference (set_by bad) rule seen)) None)))
    by_bytes true b c d e f g h i j k l m n o p = tag_bad Guard 0 (omega arith) (omega arith) i (none_below NotBad)
    by_bytes false true c d e f g h i j k l m n o p = tag_bad Guard 1 (omega arith) (omega arith) j (none_below NotBad)
    by_bytes false false true d e f g h i j k l m n o p = tag_bad Application 2 (omega arith) (omega arith) k (two_below NotBad i j)
    by_bytes false false false true e f g h i j k l m n o p = tag_bad Application 3 (omega arith) (omega arith) l (two_below NotBad i j)
    by_bytes false false false false true f g h i j k l m n o p = tag_bad Reference 4 (omega arith) (omega arith) m (four i j k l)
    by_bytes false false false false false true g h i j k l m n o p = tag_bad Reference 5 (omega arith) (omega arith) n (four i j k l)
    by_bytes false false false false false false true h i j k l m n o p = tag_bad Reference 6 (omega arith) (omega arith) o (four i j k l)
    by_bytes false false false false false false false true i j k l m n o p = tag_bad Reference 7 (omega arith) (omega arith) p (four i j k l)
    by_bytes false false false false false false false false i j k l m n o p =
        all_good (next_below NotBad 7 (next_below NotBad 6 (next_below NotBad 5 (next_below NotBad 4 (four i j k l) m) n) o) p)

    -- The judgement `first_bad` of the set of bad bytes fits the test of each byte.
    told : Told bad rule seen (first_bad (mask_of 0 (bad 0 ∷ bad 1 ∷ bad 2 ∷ bad 3 ∷ bad 4 ∷ bad 5 ∷ bad 6 ∷ bad 7 ∷ [])) rule seen)
    unfolding first_bad set
    told =
        rw (guard_set (bad 0) (bad 1) (bad 2) (bad 3) (bad 4) (bad 5) (bad 6) (bad 7), application_set (bad 0) (bad 1) (bad 2) (bad 3) (bad 4) (bad 5) (bad 6) (bad 7), reference_set (bad 0) (bad 1) (bad 2) (bad 3) (bad 4) (bad 5) (bad 6) (bad 7))
        (by_bytes _ _ _ _ _ _ _ _ refl refl refl refl refl refl refl refl)

-- ---- the field of a block

-- The checked bytes are those of the check mask, and none in an escaped block.
checked_bytes : (e : Bool) (m : ℕ) → bytes_in (cond e 0 m)
    ≡ (not e && bit m 128) ∷ (not e && bit m 64) ∷ (not e && bit m 32) ∷ (not e && bit m 16)
    ∷ (not e && bit m 8) ∷ (not e && bit m 4) ∷ (not e && bit m 2) ∷ (not e && bit m 1) ∷ []
checked_bytes false m = refl
checked_bytes true m = refl

pub apart : ◌≡◌ {A = Bool} false true → ⊥
apart h = let z : ◌≡◌ {A = ℕ} 0 1 = cc in omega arith

-- A byte that is checked and that the test does not find bad is right.
not_bad : (e m : Bool) (x y : ℕ) → (not e && m) && not (eqb x y) ≡ false → m ≡ true → e ≡ false → x ≡ y
not_bad e m x y h p q = eqb-true x y (not-false (eqb x y) (rw (p, q) at h))

-- A byte that the test finds bad is checked and wrong.
bad_is : (e m : Bool) (x y : ℕ) → (not e && m) && not (eqb x y) ≡ true → (m ≡ true) × (e ≡ false) × (x ≡ y → ⊥)
bad_is false true x y h = (refl, refl, eqb-false x y (not-true (eqb x y) h))
bad_is false false x y h = absurd (apart h)
bad_is true m x y h = absurd (apart h)

module _ (r : Rule) (stream : List ℕ) (i : ℕ) where
  -- The test `bad_byte k` is true if byte k is checked and wrong.
  bad_byte : ℕ → Bool
  bad_byte k =
      (not (escaped r.input (found r stream i)) && get_or (bytes_in r.check_mask) k false) &&
      not (eqb (get_or (bytes_of (found r stream i)) k 0) (get_or (bytes_of (computed r stream i)) k 0))

  -- The checked bytes that differ are the bad bytes.
  judged_bytes : differs (bytes_in (checked_mask r.input r.check_mask (found r stream i))) (bytes_of (found r stream i)) (bytes_of (computed r stream i))
      ≡ bad_byte 0 ∷ bad_byte 1 ∷ bad_byte 2 ∷ bad_byte 3 ∷ bad_byte 4 ∷ bad_byte 5 ∷ bad_byte 6 ∷ bad_byte 7 ∷ []
  unfolding differs bad_byte checked_mask bytes_of
  judged_bytes =
      ap (λ (l : List Bool). differs l (bytes_of (found r stream i)) (bytes_of (computed r stream i))) (checked_bytes (escaped r.input (found r stream i)) r.check_mask)

  -- The rule's judgement of a block fits the test of each byte.
  judgement_told : Told bad_byte (computed r stream i) (found r stream i) (judged r.input r.check_mask i (guard_by r.input (input_block r stream i)) (found r stream i))
  unfolding judged differing
  judgement_told = rw judged_bytes (told bad_byte (computed r stream i) (found r stream i))

  -- A byte for which `bad_byte` is false is a `GoodByte`.
  good_byte : (k : ℕ) → bad_byte k ≡ false → GoodByte r stream i k
  unfolding bad_byte
  good_byte k h c = not_bad (escaped r.input (found r stream i)) (get_or (bytes_in r.check_mask) k false) _ _ h c.masked c.unescaped

  -- A byte for which `bad_byte` is true is a `BadByte`.
  bad_byte_lem : (k : ℕ) → bad_byte k ≡ true → BadByte r stream i k
  unfolding bad_byte
  bad_byte_lem k h =
      let b = bad_is (escaped r.input (found r stream i)) (get_or (bytes_in r.check_mask) k false) _ _ h in
      record { checked = record { masked = b.0; unescaped = b.1 }; wrong = b.2 }

  -- The test `bad_byte` is true of a `BadByte`.
  bad_told : (k : ℕ) → BadByte r stream i k → bad_byte k ≡ true
  unfolding bad_byte
  bad_told k b = rw (b.checked.unescaped, b.checked.masked, ne_eqb _ _ b.wrong) refl

  -- The bits of a tag in the mask of the bad bytes stand for its bad bytes.
  bad_bytes : (p : Tag) → BadBytesOf r stream i p (bits_of p (set_by bad_byte))
  bad_bytes p = record {
    eight_bits = tag_small bad_byte p;
    bits = λ k h. let t = in_tag bad_byte p k h in (
      (λ m. ((t.0 m).0, omega (arith, h, (t.0 m).1), bad_byte_lem k (t.0 m).2)),
      (λ b. t.1 (b.0, b.1, bad_told k b.2)),
    );
  }

  -- ---- the slot after a block

  -- An empty slot says that the block is good, and a slot that holds an error that it is the block's.
  abbrev Says : Slot → Type 0
  Says None = signed r.input ≡ true → GoodBlock r stream i
  Says (Some e) = (signed r.input ≡ true) × ErrorOfBlock r stream i e

  -- What the slot of a block says is true.
  error_says : Says (error_of r stream i)
  unfolding error_by slot_of
  error_says = go (signed r.input) refl
    where
      judgement_says : signed r.input ≡ true → {j : Option Mismatch} → Told bad_byte (computed r stream i) (found r stream i) j → Says (slot_of (i * in_unit r) j)
      judgement_says s (all_good h) = λ t k l. good_byte k (h k l)
      judgement_says s (tag_bad p k from to h before) = (
        s,
        record {
          tag = record { byte = k; from = from; to = to; bad = bad_byte_lem k h; before = λ j l. good_byte j (before j l) };
          actual = refl;
          expected = refl;
          offset = refl;
          differing = bad_bytes p;
        },
      )

      go : (t : Bool) → signed r.input ≡ t → Says (cond t (slot_of (i * in_unit r) (judged r.input r.check_mask i (guard_by r.input (input_block r stream i)) (found r stream i))) None)
      go true s = judgement_says s judgement_told
      go false s = λ t. absurd (apart (sym s ∙ t))

-- ---- the slot after n blocks

module _ (r : Rule) (stream : List ℕ) where
  -- An empty slot says that the first n blocks are good, and a slot that holds an error says which is the first bad
  -- one.
  abbrev SaysAll : ℕ → Slot → Type 0
  SaysAll n None = signed r.input ≡ true → (i : ℕ) → i < n → GoodBlock r stream i
  SaysAll n (Some e) = (signed r.input ≡ true) × FirstBadBlock r stream n e

  -- What the slot of the first n blocks says is true.
  first_says : (n : ℕ) → SaysAll n (first_error r stream n)
  first_says zero = unfold first_error joined in (λ s i h. absurd (omega arith))
  first_says (suc n) = rw (errors_last r stream n) (go (first_error r stream n) (error_of r stream n) (first_says n) (error_says r stream n))
    where
      go : (a b : Slot) → SaysAll n a → Says r stream n b → SaysAll (suc n) (keep a b)
      go (Some e) b (s, f) h = (s, record { block = f.block; among = omega (arith, f.among); before = f.before; error = f.error })
      go None (Some e) all (s, own) = (s, record { block = n; among = omega arith; before = all s; error = own })
      go None None all h = λ s. next_below (GoodBlock r stream) n (all s) (h s)

  -- A block with a bad tag is not good.
  pub bad_not_good : (i : ℕ) (p : Tag) → FirstBadTag r stream i p → GoodBlock r stream i → ⊥
  bad_not_good i p f good = f.bad.wrong (good f.byte (within p f.byte f.to) f.bad.checked)
    where
      within : (p : Tag) (k : ℕ) → k < after p → k < 8
      within Guard k h = omega arith
      within Application k h = omega arith
      within Reference k h = h

  -- Demand 2 holds for errors: the transfer rule's first error is that of the first bad block.
  pub errors_recorded : (n : ℕ) → HoldsFirstError r stream n (first_error r stream n)
  errors_recorded n = go (first_error r stream n) (first_says n)
    where
      -- If one of n blocks is bad, not all of them are good.
      never : (e : Error) → FirstBadBlock r stream n e → ((i : ℕ) → i < n → GoodBlock r stream i) → ⊥
      never e f all = bad_not_good f.block e.mismatch.tag f.error.tag (all f.block f.among)

      go : (a : Slot) → SaysAll n a → HoldsFirstError r stream n a
      go None h = record { unsigned = λ s. refl; none = λ s. ((λ q. h s), (λ q. refl)); some = λ s e q. let z : ◌≡◌ {A = ℕ} 0 1 = cc in absurd (omega arith) }
      go (Some e) (s, f) = record {
        unsigned = λ t. absurd (apart (sym t ∙ s));
        none = λ t. ((λ q. let z : ◌≡◌ {A = ℕ} 0 1 = cc in absurd (omega arith)), (λ all. absurd (never e f all)));
        some = λ t e' q. let same : e ≡ e' = cc in rw same at f;
      }

-- ---- accepted transfers from an empty slot

-- An accepted send from an empty slot records the first error.
pub send_records : (k : Key) (memory wire : List ℕ) (offset data_length : ℕ) → SendFindsFirstError k memory wire offset data_length
unfolding send_result
send_records k memory wire offset data_length s e = rw (e, s) (errors_recorded _ _ _)

-- An accepted receive from an empty slot records the first error.
pub receive_records : (k : Key) (memory wire : List ℕ) (offset data_length : ℕ) → ReceiveFindsFirstError k memory wire offset data_length
unfolding receive_result
receive_records k memory wire offset data_length s e = rw (e, s) (errors_recorded _ _ _)
