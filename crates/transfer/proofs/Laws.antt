-- These laws lead from an accepted transfer to the engine: they state the lengths of its streams and the result of
-- feeding the whole input stream.
use Rattle.std.specs.Prelude.{None, Ok}
use mathlib.Core.Path.{◌≡◌, refl, sym, ap, ◌∙◌}
use mathlib.Core.Bool.{Bool, true, false}
use mathlib.Core.List.{List}
use Prim.Native.Nat.{ℕ, ◌+◌, ◌-◌, ◌*◌, ◌/◌, ◌%◌, ◌^◌, ◌≤◌, ◌<◌}
use native.Mathlib.Nat.{div-add-mod', mul-add, zero-mul}
use native.Mathlib.Omega.{arith}
use lib.ListN.{length}
use lib.Seq.{length-take-le}
use Rattle.guard.specs.Guards.{Bytes}
use Rattle.layout.specs.declared.cursor.Cursor.{Cursor}
use Rattle.layout.specs.Pieces.{total}
use Rattle.layout.specs.Moves.{Placed}
use Rattle.layout.specs.Inner.Cursors.{Walked}
use Rattle.layout.proofs.PieceLaws.{placed_more}
use Rattle.field.specs.declared.Domain.{Domain}
use Rattle.field.specs.Domains.{signed}
use Rattle.slot.specs.Slots.{Slot, keep}
use Rattle.key.specs.Streams.{stream_length}
use Rattle.key.specs.Inner.Admission.{Measured}
use Rattle.key.specs.declared.Key.{Key}
use Rattle.key.specs.Keys.{with_slot, KeyValid}
use Rattle.key.specs.Admitting.{transfer_answer}
use Rattle.key.specs.Inner.Admission.{Blocks, Admitted}
use Rattle.key.proofs.Laws.{admitted, transfer_admitted}
use Rattle.engine.specs.declared.Rule.{Rule}
use Rattle.engine.specs.Streams.{block_size, field_size, unit_size, in_block, in_unit, out_block, out_unit}
use Rattle.engine.specs.Feeding.{fed, emitted, begun}
use Rattle.engine.specs.Inner.Standing.{Matched}
use Rattle.engine.specs.declared.Progress.{Progress}
use Rattle.engine.specs.declared.FeedResult.{FeedResult}
use Rattle.engine.specs.Inner.Parts.{InStep, Feedable, Feeds}
use Rattle.engine.proofs.Settling.{bytes_take}
use Rattle.engine.proofs.Feeding.{finished_fed}
use Rattle.engine.proofs.FeedLaws.{room_at, begun_in_step, fed-after}
use Rattle.transfer.specs.Rules.{receive_rule, output_of, error_in}
use Rattle.transfer.specs.Transferring.{wire_stream, TransferResult, transfer_result_by, answer_of, receive_result, memory_after_receive}

-- Two domains agree on a data length if answer 1 refuses neither, the data is whole blocks of each signed one, and two
-- signed ones have one block size. An accepted transfer implies this of its domains.
pub record Agree (a b : Domain) (data_length : ℕ) : Type 0 where
  pub first : signed a ≡ true → Blocks a data_length
  pub second : signed b ≡ true → Blocks b data_length
  pub alike : signed a ≡ true → signed b ≡ true → a.block_size ≡ b.block_size

-- Agreement does not depend on the order of the domains.
pub agree_back : {a b : Domain} {data_length : ℕ} → Agree a b data_length → Agree b a data_length
agree_back g = record { first = g.second; second = g.first; alike = λ x y. sym (g.alike y x) }

-- If b divides n, then n bytes are n / b blocks of b bytes.
whole-blocks : (n b : ℕ) → n % b ≡ 0 → n / b * b ≡ n
whole-blocks n b h = omega (arith, div-add-mod' n b)

module _ (a b : Domain) (data_length : ℕ) (g : Agree a b data_length) where
  -- The block size of a domain is its own if it is signed, else that of the other domain if that is signed, else 1.
  data Size (n : ℕ) : Type 0 where
    own : signed a ≡ true → n ≡ a.block_size → Size n
    its : signed a ≡ false → signed b ≡ true → n ≡ b.block_size → Size n
    one : signed a ≡ false → signed b ≡ false → n ≡ 1 → Size n

  size : Size (block_size a b)
  unfolding block_size
  size = go (signed a) (signed b) refl refl
    where
      go : (s t : Bool) → signed a ≡ s → signed b ≡ t → Size (block_size a b)
      go true t e f = own e (rw e)
      go false true e f = its e f (rw (e, f))
      go false false e f = one e f (rw (e, f))

  -- A block size is between 1 and 4,160 and divides the data length.
  bounds : (1 ≤ block_size a b) × (block_size a b ≤ 4160) × (data_length % block_size a b ≡ 0)
  bounds = go (block_size a b) size
    where
      go : (n : ℕ) → Size n → (1 ≤ n) × (n ≤ 4160) × (data_length % n ≡ 0)
      go n (own e q) = rw q (omega (arith, (g.first e).good.least), (g.first e).good.most, (g.first e).whole)
      go n (its e f q) = rw q (omega (arith, (g.second f).good.least), (g.second f).good.most, (g.second f).whole)
      go n (one e f q) = rw q (omega arith, omega arith, omega arith)

  -- Both domains have the same block size.
  pub same_size : block_size b a ≡ block_size a b
  unfolding block_size
  same_size = go (signed a) (signed b) refl refl
    where
      go : (s t : Bool) → signed a ≡ s → signed b ≡ t → block_size b a ≡ block_size a b
      go true true e f = rw (e, f) (sym (g.alike e f))
      go true false e f = rw (e, f)
      go false true e f = rw (e, f)
      go false false e f = rw (e, f)

  -- A domain's stream has one unit for each block of data.
  pub stream_units : stream_length a data_length ≡ data_length / block_size a b * unit_size a b
  unfolding stream_length field_size
  stream_units = go (signed a) refl
    where
      blocks : data_length / block_size a b * block_size a b ≡ data_length
      blocks = whole-blocks data_length (block_size a b) bounds.2

      own_size : signed a ≡ true → block_size a b ≡ a.block_size
      own_size e = unfold block_size in rw e

      go : (s : Bool) → signed a ≡ s → stream_length a data_length ≡ data_length / block_size a b * unit_size a b
      go true e =
          let s : stream_length a data_length ≡ data_length + data_length / block_size a b * 8 = (rw e) ∙ ap (λ (n : ℕ). data_length + data_length / n * 8) (sym (own_size e)) in
          let u : field_size a ≡ 8 = rw e in
          s ∙ rw u (omega (arith, blocks, mul-add (data_length / block_size a b) (block_size a b) 8))
      go false e = rw e (omega (arith, blocks, mul-add (data_length / block_size a b) (block_size a b) 0))

-- A rule is ready for a transfer if its sides match, and its input stream of i bytes and its output stream of o bytes
-- have one unit for each block of data.
pub record Ready (r : Rule) (data_length i o : ℕ) : Type 0 where
  pub matched : Matched r
  pub input : i ≡ data_length / in_block r * in_unit r
  pub output : o ≡ data_length / in_block r * out_unit r
  pub blocks : data_length / out_block r ≡ data_length / in_block r

-- A rule is ready for a transfer if its domains agree on the data length.
pub ready : (r : Rule) (data_length : ℕ) → Agree r.input r.output data_length
    → Ready r data_length (stream_length r.input data_length) (stream_length r.output data_length)
ready r data_length g =
    let a = r.input in
    let b = r.output in
    let same = same_size a b data_length g in
    record {
      matched = record { same = same; some = (bounds a b data_length g).0; most = (bounds a b data_length g).1; in_seed = λ e. (g.first e).good.seed; out_seed = λ e. (g.second e).good.seed };
      input = stream_units a b data_length g;
      output = stream_units b a data_length (agree_back g) ∙ rw same;
      blocks = rw same;
    }

-- Feeding a whole input stream emits the transfer rule's output stream, and finds the transfer rule's first error.
pub record Whole (r : Rule) (stream : List ℕ) (data_length output : ℕ) : Type 0 where
  pub in_step : InStep r (begun r None)
  pub some : 0 < in_unit r
  pub shown : emitted r (begun r None) stream ≡ output_of r stream data_length
  pub size : length (emitted r (begun r None) stream) ≡ output
  pub error : (fed r (begun r None) stream).slot ≡ error_in r stream data_length

-- If a rule is ready, feeding it a whole input stream produces the transfer rule's output and first error.
pub whole : (r : Rule) (data_length input output : ℕ) → Ready r data_length input output → (stream : List ℕ) → Bytes stream → length stream ≡ input → Whole r stream data_length output
whole r data_length input output R stream b e =
    let s = begun_in_step r None R.matched in
    let n : 0 < in_unit r = omega (arith, R.matched.some) in
    let f = finished_fed r R.matched None stream (data_length / in_block r) b (e ∙ R.input) in
    let w = (fed-after r (begun r None) s n stream).2 in
    record {
      in_step = s;
      some = n;
      shown = f.shown ∙ rw R.blocks;
      size = omega (arith, w, f.out_at, ap (λ (i : ℕ). i * out_unit r) f.output, R.output, zero-mul (out_unit r));
      error = f.error;
    }

-- ---- an accepted transfer

-- An accepted transfer on a memory of n bytes and a wire buffer of w bytes implies these facts.
pub record Accepted (k : Key) (n offset data_length w : ℕ) : Type 0 where
  pub admitted : Admitted k n offset data_length
  pub wire : stream_length k.signature.wire data_length ≤ w
  pub agree : Agree k.signature.memory k.signature.wire data_length
  pub measured : Measured k.signature.memory data_length × Measured k.signature.wire data_length

-- If the answer of a transfer on a valid key is Ok, the facts of `Accepted` hold.
pub accept : (k : Key) (n offset data_length w : ℕ) → KeyValid k → transfer_answer k n offset data_length w ≡ Ok tt → Accepted k n offset data_length w
accept k n offset data_length w c e =
    let t = transfer_admitted k n offset data_length w e in
    let a = admitted k n offset data_length c t.0 in
    record {
      admitted = a;
      wire = t.1;
      agree = record { first = a.memory; second = a.wire; alike = a.alike };
      measured = (record { sized = λ s. (a.memory s).good.least; short = omega (arith, a.short) }, record { sized = λ s. (a.wire s).good.least; short = omega (arith, a.short) });
    }

-- Walking to the offset of an admitted transfer meets the precondition of `walk`.
pub walkable : {k : Key} {n offset data_length : ℕ} → Admitted k n offset data_length → Placed k.layout (2 ^ 64 - 1) × (offset ≤ total k.layout)
walkable {k} {n} {offset} {data_length} a = (placed_more {n = n} (omega (arith, a.limit)) a.placed, omega (arith, a.inside))

-- ---- receive

module _ (k : Key) (memory wire : List ℕ) (offset data_length : ℕ) (c : KeyValid k) (e : answer_of k memory wire offset data_length ≡ Ok tt) (b : Bytes wire) where
  receive_accepted : Accepted k (length memory) offset data_length (length wire)
  receive_accepted = accept k (length memory) offset data_length (length wire) c e

  -- Feeding the wire stream of an accepted receive produces the transfer rule's output and first error.
  receive_whole : Whole (receive_rule k.signature) (wire_stream k wire data_length) data_length (stream_length k.signature.memory data_length)
  receive_whole =
      whole (receive_rule k.signature) data_length _ _ (ready (receive_rule k.signature) data_length (agree_back receive_accepted.agree))
      (wire_stream k wire data_length) (bytes_take (stream_length k.signature.wire data_length) wire b) (length-take-le (stream_length k.signature.wire data_length) wire receive_accepted.wire)

  -- Feeding the wire stream of an accepted receive meets the precondition of `feed`.
  pub receive_asks : (at : Cursor) → Walked k.layout offset at
      → Feedable (receive_rule k.signature) (begun (receive_rule k.signature) None) k.layout at (length memory) (wire_stream k wire data_length)
  receive_asks at w =
      let a = receive_accepted.admitted in
      let z = zero-mul (out_unit (receive_rule k.signature)) in
      record {
        in_step = receive_whole.in_step;
        begun = receive_whole.some;
        room = room_at _ _ _ offset at _ _ a.placed w (omega arith) (omega (arith, receive_whole.size, a.inside)) (omega (arith, a.bounded.small));
      }

  -- After the wire stream is fed, receive returns `receive_result` and memory is `memory_after_receive`.
  pub receive_gives : (at : Cursor) → Walked k.layout offset at → (f : FeedResult) (after : List ℕ)
      → Feeds (receive_rule k.signature) (begun (receive_rule k.signature) None) k.layout at memory (wire_stream k wire data_length) f after
      → (◌≡◌ {A = TransferResult} (record {
        outcome = Ok tt;
        taken = stream_length k.signature.wire data_length;
        written = stream_length k.signature.memory data_length;
        key = with_slot k (keep k.slot f.progress.slot);
      }) (receive_result k memory wire offset data_length)
      × (after ≡ memory_after_receive k memory wire offset data_length)
      )
  unfolding receive_result memory_after_receive
  receive_gives at w f after g =
      let s : f.progress.slot ≡ error_in (receive_rule k.signature) (wire_stream k wire data_length) data_length = ap (λ (p : Progress). p.slot) g.progress ∙ receive_whole.error in
      rw e (ap (λ (s : Slot). transfer_result_by (Ok tt) k (stream_length k.signature.wire data_length) (stream_length k.signature.memory data_length) s) s, g.stored.memory ∙ rw (w.on, receive_whole.shown))
