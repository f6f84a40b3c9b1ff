-- These laws are about send: it feeds the memory stream piece by piece, and stores the output in the wire's first
-- bytes.
use Rattle.std.specs.Prelude.{None, Ok}
use mathlib.Core.Path.{◌≡◌, refl, sym, ap, ◌∙◌}
use mathlib.Core.Bool.{Bool, true, false}
use mathlib.Core.List.{List, [], ◌∷◌, ◌++◌}
use Prim.Native.Nat.{ℕ, zero, suc, ◌+◌, ◌-◌, ◌^◌, ◌≤◌, ◌<◌, min}
use native.Mathlib.Nat.{zero-mul, zero-add}
use native.Mathlib.Omega.{arith}
use lib.ListN.{length, take, drop, get_or, length-take, length-drop}
use lib.Seq.{take-take, drop-drop, length-take-le, sets-eq}
use Rattle.layout.specs.declared.Layout.{Layout}
use Rattle.layout.specs.declared.cursor.Cursor.{Cursor}
use Rattle.layout.specs.Pieces.{places}
use Rattle.layout.specs.Moves.{gathered}
use Rattle.layout.specs.Inner.Cursors.{ahead, forward, Walked, Readied}
use Rattle.layout.proofs.PieceLaws.{length-places, one_places, one_total, one_placed}
use Rattle.layout.proofs.CursorLaws.{run_gathered, run_length, forward_stands, forward-ahead, walked_left}
use Rattle.layout.proofs.MoveLaws.{length-gathered, scattered_from}
use Rattle.guard.specs.Guards.{Bytes}
use Rattle.field.specs.declared.Domain.{Domain}
use Rattle.field.specs.Domains.{signed}
use Rattle.key.specs.declared.Key.{Key}
use Rattle.slot.specs.Slots.{keep, Slot}
use Rattle.key.specs.Keys.{with_slot, KeyValid}
use Rattle.key.specs.Streams.{stream_length}
use Rattle.key.specs.Inner.Admission.{Sized}
use Rattle.key.proofs.Laws.{fields_short, data_in_stream}
use Rattle.engine.specs.declared.Rule.{Rule}
use Rattle.engine.specs.declared.Progress.{Progress}
use Rattle.engine.specs.Streams.{out_unit}
use Rattle.engine.specs.Feeding.{begun}
use Rattle.engine.specs.declared.FeedResult.{FeedResult}
use Rattle.engine.specs.Inner.Parts.{Feedable, Feeds}
use Rattle.engine.proofs.FeedLaws.{room_at, going_start, going_turn, going_end, part_feedable}
use Rattle.transfer.specs.Rules.{send_rule, output_of}
use Rattle.transfer.specs.Transferring.{memory_stream, TransferResult, transfer_result_by, answer_of, send_result, wire_after_send}
use Rattle.transfer.proofs.Laws.{Accepted, accept, Whole, whole, ready}
use Rattle.transfer.specs.Inner.SendStream.{prefix_layout, bytes_at, StreamReady, StreamPartly, StreamSent}

-- ---- bytes of a piece

gathered-take : (n : ℕ) (m ps : List ℕ) → take n (gathered m ps) ≡ gathered m (take n ps)
unfolding gathered
gathered-take zero m ps = refl
gathered-take (suc n) m [] = refl
gathered-take (suc n) m (p ∷ ps) = ap (λ (l : List ℕ). get_or m p 0 ∷ l) (gathered-take n m ps)

gathered-drop : (n : ℕ) (m ps : List ℕ) → drop n (gathered m ps) ≡ gathered m (drop n ps)
unfolding gathered
gathered-drop zero m ps = refl
gathered-drop (suc n) m [] = refl
gathered-drop (suc n) m (p ∷ ps) = gathered-drop n m ps

-- The k elements after the first d are the same in a list and in its first n elements, if n is at least d + k.
part_of : (n d k : ℕ) (ps : List ℕ) → d + k ≤ n → take k (drop d (take n ps)) ≡ take k (drop d ps)
part_of n zero k ps h = take-take k n ps (omega arith)
part_of zero (suc d) k ps h = absurd (omega arith)
part_of (suc n) (suc d) k [] h = refl
part_of (suc n) (suc d) k (p ∷ ps) h = part_of n d k ps (omega arith)

-- The first k bytes of a piece that begins after d bytes of the stream are the next k bytes of the stream.
run_part : (memory ps : List ℕ) (n d left k : ℕ) → k ≤ left → d + k ≤ n → take k (gathered memory (take left (drop d ps))) ≡ take k (drop d (bytes_at memory ps n))
run_part memory ps n d left k a b =
    gathered-take k memory _ ∙ ap (gathered memory) (take-take k left (drop d ps) a ∙ sym (part_of n d k ps b))
    ∙ sym (ap (take k) (gathered-drop d memory (take n ps)) ∙ gathered-take k memory (drop d (take n ps)))

-- ---- the loop of send_stream

module _ (r : Rule) (l : Layout) (memory : List ℕ) (offset n : ℕ) (to : Layout) (before : List ℕ) (D : StreamReady r l memory offset n to (length before))
    (first : Cursor) (F : Walked to 0 first) (start : Cursor) (S : Walked l offset start) where
  -- The invariant of the loop in `send_stream` holds before any byte is fed.
  pub stream_start : (q : Progress) → q ≡ begun r None → StreamPartly r l memory start n to first before (record { progress = q; cursor = first }) start 0 before
  stream_start q e =
      let z = zero-mul (out_unit r) in
      record {
        most = omega arith;
        going =
            rw e
            (going_start r (begun r None) to first before (bytes_at memory (ahead l start) n) (length before) refl
            (record { in_step = D.in_step; begun = D.some; room = room_at _ _ _ 0 first _ _ D.target F (omega arith) (rw S.on (omega (arith, D.room))) D.small }));
        stands = S.stands;
        on = refl;
      }

  module _ (q : FeedResult) (c : Cursor) (d : ℕ) (mid : List ℕ) (h : d < n) (g : StreamPartly r l memory start n to first before q c d mid) where
    -- While fewer than n bytes are fed, there are bytes ahead of the cursor.
    pub stream_more : 0 < length (ahead l c)
    stream_more = omega (arith, ap length g.on, length-drop d (ahead l start), walked_left l offset start S, D.inside)

    -- Cursor c' is at the position of c and has bytes left in its piece; `run` is those bytes, and the first k of them
    -- are fed.
    module _ (c' : Cursor) (R : Readied l c c') (k : ℕ) (run : List ℕ) (e : run ≡ take c'.left (drop c'.place.0 memory)) (m : k ≡ min (length run) (n - d)) where
      size : length run ≡ c'.left
      size = ap length e ∙ run_length l c' memory R.stands D.placed

      same : take k run ≡ take k (drop d (bytes_at memory (ahead l start) n))
      same =
          ap (take k) (e ∙ run_gathered l c' memory R.stands D.placed ∙ ap (λ (ps : List ℕ). gathered memory (take c'.left ps)) (R.same ∙ g.on))
          ∙ run_part memory (ahead l start) n d c'.left k (omega (arith, size)) (omega arith)

      -- At least one byte is fed in a turn of the loop, at most what is left of the piece, and at most n in all turns.
      pub stream_some : (0 < k) × (k ≤ c'.left) × (d + k ≤ n)
      stream_some = (omega (arith, size, R.some), omega (arith, size), omega arith)

      -- Feeding the next k bytes of the piece meets the precondition of `feed`.
      pub stream_ready : Feedable r q.progress to q.cursor (length mid) (take k run)
      stream_ready = rw same (part_feedable r (begun r None) to first before (bytes_at memory (ahead l start) n) q mid (drop d (bytes_at memory (ahead l start) n)) g.going k)

      -- A turn of the loop keeps the invariant.
      pub stream_turn : (q' : FeedResult) (mid' : List ℕ) → Feeds r q.progress to q.cursor mid (take k run) q' mid' → StreamPartly r l memory start n to first before q' (forward c' k) (d + k) mid'
      stream_turn q' mid' f = record {
        most = stream_some.2;
        going =
            rw (← drop-drop k d (bytes_at memory (ahead l start) n))
            (going_turn r (begun r None) to first before (bytes_at memory (ahead l start) n) q mid (drop d (bytes_at memory (ahead l start) n)) g.going k q' mid' (rw same at f));
        stands = forward_stands l c' R.stands k stream_some.1;
        on = forward-ahead l c' R.stands k stream_some.1 ∙ ap (drop k) (R.same ∙ g.on) ∙ drop-drop k d (ahead l start);
      }

  -- Once all n bytes are fed, the invariant implies what `send_stream` ensures.
  pub stream_sent : (q : FeedResult) (c : Cursor) (d : ℕ) (after : List ℕ) → d ≡ n → StreamPartly r l memory start n to first before q c d after → StreamSent r l memory offset n to before q.progress.slot after
  stream_sent q c d after e g =
      let all : length (drop d (bytes_at memory (ahead l start) n)) ≡ 0 =
      length-drop d (bytes_at memory (ahead l start) n) ∙ rw (length-gathered memory (take n (ahead l start)), length-take n (ahead l start)) (omega (arith, e)) in
      let f = rw S.on at (going_end r (begun r None) to first before (bytes_at memory (ahead l start) n) q after (drop d (bytes_at memory (ahead l start) n)) g.going all) in
      record { error = ap (λ (p : Progress). p.slot) f.progress; wire = f.stored.memory ∙ rw F.on }

-- ---- an accepted send

-- The elements gathered from a list of bytes are bytes.
pub bytes_gathered : (m ps : List ℕ) → Bytes m → Bytes (gathered m ps)
unfolding gathered
bytes_gathered m [] h i = omega arith
bytes_gathered m (p ∷ ps) h zero = h p
bytes_gathered m (p ∷ ps) h (suc i) = bytes_gathered m ps h i

-- A stream is at most twice as long as its data, since a field is no longer than a block.
pub stream_double : (d : Domain) (n : ℕ) → Sized d → stream_length d n ≤ n + n
unfolding stream_length
stream_double d n s = go (signed d) refl
  where
    go : (t : Bool) → signed d ≡ t → stream_length d n ≤ n + n
    go true e = rw e (omega (arith, fields_short n d.block_size (s e)))
    go false e = rw e (omega arith)

module _ (k : Key) (memory wire : List ℕ) (offset data_length : ℕ) (c : KeyValid k) (e : answer_of k memory wire offset data_length ≡ Ok tt) (b : Bytes memory) where
  send_accepted : Accepted k (length memory) offset data_length (length wire)
  send_accepted = accept k (length memory) offset data_length (length wire) c e

  -- The memory stream of an accepted send is as long as the memory domain's stream.
  stream_length_lem : length (memory_stream k memory offset data_length) ≡ stream_length k.signature.memory data_length
  stream_length_lem =
      length-gathered memory _ ∙ length-take-le (stream_length k.signature.memory data_length) (drop offset (places k.layout))
      (rw (length-drop offset (places k.layout), length-places k.layout) (omega (arith, send_accepted.admitted.inside)))

  -- Feeding the memory stream of an accepted send produces the transfer rule's output and first error.
  send_whole : Whole (send_rule k.signature) (memory_stream k memory offset data_length) data_length (stream_length k.signature.wire data_length)
  send_whole =
      whole (send_rule k.signature) data_length _ _ (ready (send_rule k.signature) data_length send_accepted.agree)
      (memory_stream k memory offset data_length) (bytes_gathered memory _ b) stream_length_lem

  -- The wire stream of an accepted send has at most 2^26 bytes.
  pub send_small : stream_length k.signature.wire data_length ≤ 2 ^ 26
  send_small =
      let a = send_accepted.admitted in
      omega (arith, stream_double k.signature.wire data_length send_accepted.measured.1.sized, data_in_stream k.signature.memory data_length, a.inside, a.bounded.small)

  -- An accepted send meets the precondition of `send_stream`.
  pub send_asks : StreamReady (send_rule k.signature) k.layout memory offset (stream_length k.signature.memory data_length) (prefix_layout (stream_length k.signature.wire data_length)) (length wire)
  send_asks =
      let o = prefix_layout (stream_length k.signature.wire data_length) in
      let t = one_total o _ _ refl refl refl in
      record {
        placed = send_accepted.admitted.placed;
        inside = send_accepted.admitted.inside;
        in_step = send_whole.in_step;
        some = send_whole.some;
        target = one_placed o _ _ refl refl refl (length wire) (omega (arith, send_accepted.wire));
        near = one_placed o _ _ refl refl refl (2 ^ 64 - 1) (omega (arith, send_small));
        room = omega (arith, t, send_whole.size);
        small = omega (arith, t, send_small);
      }

  -- After `send_stream` has returned, send returns `send_result` and the wire is `wire_after_send`.
  pub send_gives : (error : Slot) (after : List ℕ)
      → StreamSent (send_rule k.signature) k.layout memory offset (stream_length k.signature.memory data_length) (prefix_layout (stream_length k.signature.wire data_length)) wire error after
      → (◌≡◌ {A = TransferResult} (record {
        outcome = Ok tt;
        taken = stream_length k.signature.memory data_length;
        written = stream_length k.signature.wire data_length;
        key = with_slot k (keep k.slot error);
      }) (send_result k memory wire offset data_length)
      × (after ≡ wire_after_send k memory wire offset data_length)
      )
  unfolding send_result wire_after_send
  send_gives error after d =
      let out = output_of (send_rule k.signature) (memory_stream k memory offset data_length) data_length in
      let n : length out ≡ stream_length k.signature.wire data_length = ap length (sym send_whole.shown) ∙ send_whole.size in
      let w : after ≡ out ++ drop (stream_length k.signature.wire data_length) wire =
      d.wire ∙ rw (send_whole.shown, one_places (prefix_layout (stream_length k.signature.wire data_length)) _ _ refl refl refl)
      (scattered_from wire out 0 (stream_length k.signature.wire data_length) (omega (arith, n)) ∙ sets-eq out wire 0 (omega (arith, n, send_accepted.wire)) ∙ rw (zero-add (length out), n)) in
      rw e (ap (λ (s : Slot). transfer_result_by (Ok tt) k (stream_length k.signature.memory data_length) (stream_length k.signature.wire data_length) s) (d.error ∙ send_whole.error), w)
