-- These laws prove request 9: a CRC guard finds every burst of at most 16 bits, and not every one of 17.
use Rattle.std.specs.Prelude.{Some, None}
use mathlib.Core.Path.{◌≡◌, refl, sym, ap, ◌∙◌}
use mathlib.Core.Bool.{Bool, true, false, ◌&&◌, ◌||◌}
use mathlib.Core.List.{List}
use Prim.Native.Nat.{ℕ, ◌+◌, ◌*◌, ◌/◌, ◌^◌, ◌≤◌, ◌<◌}
use native.Mathlib.Nat.{zero-mul}
use native.Mathlib.Decide.{ℕ_discrete, dec_le, dec_lt}
use native.Mathlib.Omega.{arith}
use lib.Dec.{eqb, ltb, leb}
use lib.ListN.{length, drop, get_or}
use borrow.Author.Tests.{eqb-true, eqb-false, ltb-true, leb-true}
use Rattle.crc.specs.Crc.{crc}
use Rattle.crc.specs.Division.{followed}
use Rattle.crc.proofs.Xor.{xor_cancel}
use Rattle.crc.proofs.Bursts.{short_difference}
use Rattle.guard.specs.Guards.{Bytes, guard_of}
use Rattle.field.specs.declared.ProtectionField.{ProtectionField}
use Rattle.field.specs.declared.Tag.{Tag}
use Rattle.field.specs.declared.Tag.TheVariants.{Guard}
use Rattle.field.specs.Domains.{signed}
use Rattle.field.specs.Fields.{bytes_of, bytes_in, field_of, computed_field}
use Rattle.field.specs.Judging.{escaped}
use Rattle.slot.specs.Slots.{Slot}
use Rattle.key.specs.declared.Key.{Key}
use Rattle.key.proofs.Laws.{came_valid, admitted, transfer_admitted}
use Rattle.key.specs.Streams.{stream_length}
use Rattle.engine.specs.declared.Rule.{Rule}
use Rattle.engine.specs.Streams.{in_block, in_unit, input_block}
use Rattle.engine.proofs.Settling.{bytes_take}
use Rattle.transfer.specs.Rules.{receive_rule}
use Rattle.transfer.specs.Transferring.{wire_stream}
use Rattle.cstructs.proofs.Laws.{both}
use Rattle.audit.specs.Errors.{found, computed, RightByte, FirstBadTag, FirstBadBlock, HoldsFirstError}
use Rattle.audit.specs.Bursts.{bit_at, Differ, Burst, Guarded, Damaged, sure_bits, FindsBursts, RecordedUpTo}
use Rattle.audit.specs.Bursts.{ReceiveFindsBurst, rule_a, wire_seventeen, BurstExamples}
use Rattle.audit.specs.Cases.{wire, field_a}
use Rattle.audit.proofs.FieldBytes.{bytes_drop}
use Rattle.audit.proofs.Ranges.{two_below}
use Rattle.audit.proofs.Errors.{bad_not_good, receive_records}
use Rattle.audit.proofs.BlockBits.{same_after_end, same_bits, burst_short}
use Rattle.audit.proofs.Computing.{opened, small, small_bytes, all_below, below_true}

-- ---- the CRCs of two blocks

-- Two blocks that differ by a burst of at most 16 bits have different CRCs.
crc-differs : (seed : ℕ) (xs ys : List ℕ) → seed < 2 ^ 16 → Bytes xs → Bytes ys → Burst sure_bits xs ys
    → crc seed xs ≡ crc seed ys → ⊥
crc-differs seed xs ys h bx by b e =
    let d = burst_short sure_bits xs ys bx by b in
    let none : d.factor ≡ 0 =
    short_difference seed d.power d.factor xs ys h bx by (sym b.lengths) d.sum d.short e in
    let same : followed 8 0 xs ≡ followed 8 0 ys =
    xor_cancel (followed 8 0 xs) (followed 8 0 ys)
    (d.sum ∙ ap (λ (x : ℕ). x * 2 ^ d.power) none ∙ zero-mul (2 ^ d.power)) in
    b.differs (same_bits xs ys bx by b.lengths same b.changed)

-- ---- the guard of a unit

-- Two fields with the same first two bytes have the same guard.
same_guard : (f g : ProtectionField) → get_or (bytes_of f) 0 0 ≡ get_or (bytes_of g) 0 0
    → get_or (bytes_of f) 1 0 ≡ get_or (bytes_of g) 1 0 → f.guard ≡ g.guard
unfolding bytes_of
same_guard f g high low = omega (arith, high, low)

-- A CRC guard that is right is the CRC of the block's data.
guard_is_crc : (r : Rule) (stream : List ℕ) (i : ℕ) → r.input.guard_type ≡ 0
    → RightByte r stream i 0 → RightByte r stream i 1
    → (found r stream i).guard ≡ crc r.input.seed (input_block r stream i)
unfolding guard_of computed_field
guard_is_crc r stream i t high low =
    same_guard (found r stream i) (computed r stream i) high low
    ∙ ap (λ (t : ℕ). guard_of t r.input.seed (input_block r stream i)) t

-- A block of a stream of bytes is a list of bytes.
block_bytes : (r : Rule) (stream : List ℕ) (i : ℕ) → Bytes stream → Bytes (input_block r stream i)
unfolding input_block
block_bytes r stream i b = bytes_take (in_block r) (drop (i * in_unit r) stream) (bytes_drop (i * in_unit r) stream b)

-- A CRC guard finds every burst of at most 16 bits.
pub finds_bursts : FindsBursts sure_bits
finds_bursts r intact damaged i bi bd s g d = go (ℕ_discrete _ _)
  where
    same_field : found r damaged i ≡ found r intact i
    same_field = ap field_of d.field

    not_both : RightByte r damaged i 0 → RightByte r damaged i 1 → ⊥
    not_both high low =
        crc-differs r.input.seed (input_block r intact i) (input_block r damaged i) s
        (block_bytes r intact i bi) (block_bytes r damaged i bd) d.block
        (sym (guard_is_crc r intact i g.crc (g.right 0 (omega arith)) (g.right 1 (omega arith)))
        ∙ sym (ap (λ (f : ProtectionField). f.guard) same_field)
        ∙ guard_is_crc r damaged i g.crc high low)

    bad : (k : ℕ) → k < 2 → (RightByte r damaged i k → ⊥) → FirstBadTag r damaged i Guard
    bad k h wrong = record {
      byte = k;
      from = omega arith;
      to = h;
      bad = record {
        checked = record {
          masked = g.masked k h;
          unescaped = ap (escaped r.input) same_field ∙ g.unescaped;
        };
        wrong = wrong;
      };
      before = λ j l. absurd (omega arith);
    }

    go : Dec (RightByte r damaged i 0) → FirstBadTag r damaged i Guard
    go (yes high) = bad 1 (omega arith) (not_both high)
    go (no wrong) = bad 0 (omega arith) wrong

-- ---- an accepted receive

-- If block i is bad, the first error of n blocks is that of block i or of one before it.
recorded_up_to : (r : Rule) (stream : List ℕ) (n i : ℕ) (tag : Tag) (slot : Slot) → signed r.input ≡ true → i < n
    → FirstBadTag r stream i tag → HoldsFirstError r stream n slot → RecordedUpTo r stream n i slot
recorded_up_to r stream n i tag None s h bad holds =
    absurd (bad_not_good r stream i tag bad ((holds.none s).0 refl i h))
recorded_up_to r stream n i tag (Some e) s h bad holds =
    record { error = e; holds = refl; first_bad = first; up_to = go (dec_le first.block i) }
  where
    first : FirstBadBlock r stream n e
    first = holds.some s e refl

    go : Dec (first.block ≤ i) → first.block ≤ i
    go (yes l) = l
    go (no l) = absurd (bad_not_good r stream i tag bad (first.before i (omega (arith, l))))

-- An accepted receive finds the burst, and if its slot was empty, it records this error or one before it.
pub receive_finds_burst : (k : Key) (memory intact damaged : List ℕ) (offset data_length i : ℕ)
    → ReceiveFindsBurst k memory intact damaged offset data_length i
receive_finds_burst k memory intact damaged offset data_length i c done h bi bd g d = (
  bad,
  λ empty. recorded_up_to r (wire_stream k damaged data_length) (data_length / in_block r) i Guard _ g.kind h bad
      (receive_records k memory damaged offset data_length empty done),
)
  where
    r : Rule
    r = receive_rule k.signature

    n : ℕ
    n = stream_length k.signature.wire data_length

    seed : k.signature.wire.seed ≤ 65535
    seed =
        let accepted = (transfer_admitted k (length memory) offset data_length (length damaged) done).0 in
        ((admitted k (length memory) offset data_length (came_valid k c) accepted).wire g.kind).good.seed

    bad : FirstBadTag r (wire_stream k damaged data_length) i Guard
    bad =
        finds_bursts r (wire_stream k intact data_length) (wire_stream k damaged data_length) i (bytes_take n intact bi)
        (bytes_take n damaged bd) (omega (arith, seed)) g d

-- ---- the examples

-- The test `near` is true if bit n is the same in both blocks or is one of the `width` bits from `start` on.
near : (start width : ℕ) (xs ys : List ℕ) (n : ℕ) → Bool
near start width xs ys n = eqb (bit_at xs n) (bit_at ys n) || (leb start n && ltb n (start + width))

-- Two blocks of one length differ by a burst if they differ in bit `start` and pass the test `near` at every bit.
burst_by_test : (start width : ℕ) (xs ys : List ℕ) → length ys ≡ length xs
    → eqb (bit_at xs start) (bit_at ys start) ≡ false → all_below (near start width xs ys) (8 * length xs) ≡ true
    → Burst width xs ys
unfolding near
burst_by_test start width xs ys l f e = record {
  lengths = l;
  changed = start;
  differs = eqb-false (bit_at xs start) (bit_at ys start) f;
  start = start;
  within = λ n d. go n d (dec_lt n (8 * length xs));
}
  where
    one_of_these : (a b c : Bool) → a || (b && c) ≡ true → (a ≡ true → ⊥) → (b ≡ true) × (c ≡ true)
    one_of_these true b c t no-a = absurd (no-a refl)
    one_of_these false b c t no-a = both b c t

    go : (n : ℕ) → Differ xs ys n → Dec (n < 8 * length xs) → (start ≤ n) × (n < start + width)
    go n d (yes h) =
        let true-of-n = below_true (near start width xs ys) (8 * length xs) e n h in
        let t = one_of_these _ _ _ true-of-n (λ a. d (eqb-true _ _ a)) in
        (leb-true start n t.0, ltb-true n (start + width) t.1)
    go n d (no h) = absurd (d (same_after_end xs ys l n (omega (arith, h))))

-- The burst of 16 bits is found. The one of 17 bits is not: the guard of the damaged block is right.
pub burst_examples : BurstExamples
unfolding opened all_below near small
burst_examples = record {
  guarded = guarded;
  sixteen = record { block = burst_by_test 28 16 _ _ refl refl refl; field = refl };
  sixteen_found = refl;
  seventeen = seventeen;
  seventeen_missed = refl;
  sharp = λ finds.
      not_found
      (finds rule_a (wire field_a 0) wire_seventeen 0 (small_bytes (wire field_a 0) refl)
      (small_bytes wire_seventeen refl) (omega arith) guarded seventeen);
}
  where
    guarded : Guarded rule_a (wire field_a 0) 0
    guarded = record {
      kind = refl;
      crc = refl;
      right = two_below (RightByte rule_a (wire field_a 0) 0) refl refl;
      masked = two_below (λ (k : ℕ). get_or (bytes_in rule_a.check_mask) k false ≡ true) refl refl;
      unescaped = refl;
    }

    seventeen : Damaged (sure_bits + 1) rule_a (wire field_a 0) wire_seventeen 0
    seventeen = record { block = burst_by_test 39 17 _ _ refl refl refl; field = refl }

    not_found : FirstBadTag rule_a wire_seventeen 0 Guard → ⊥
    not_found f = f.bad.wrong (two_below (RightByte rule_a wire_seventeen 0) refl refl f.byte f.to)
