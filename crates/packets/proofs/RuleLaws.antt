-- These laws show that memory, recorded error and totals of a session are those of 01's packet rule, whatever bytes are
-- still to come.
use Rattle.std.specs.Prelude.{None, Ok}
use mathlib.Core.Path.{◌≡◌, refl, sym, ap, ◌∙◌}
use mathlib.Core.List.{List, [], ◌++◌, append_assoc, append-nil}
use Prim.Native.Nat.{ℕ, ◌+◌, ◌*◌, ◌/◌, ◌%◌, ◌≤◌, ◌<◌}
use native.Mathlib.Nat.{div-add-mod', mod-lt, zero-mul}
use native.Mathlib.Decide.{dec_lt}
use native.Mathlib.Omega.{arith}
use lib.ListN.{length, take, drop, length-take}
use lib.Seq.{take_at, take_all}
use borrow.Author.Tests.{le-ltb}
use Rattle.guard.specs.Guards.{Bytes}
use Rattle.layout.specs.declared.offset.LayoutOffset.{LayoutOffset}
use Rattle.layout.specs.Pieces.{places}
use Rattle.layout.specs.Moves.{scattered}
use Rattle.key.specs.declared.Key.{Key}
use Rattle.slot.specs.Slots.{Slot, keep}
use Rattle.key.specs.Keys.{with_slot, CameFromCalls}
use Rattle.key.specs.Streams.{stream_length}
use Rattle.key.specs.Admitting.{open_answer, transfer_answer}
use Rattle.key.proofs.Laws.{came_valid, admitted}
use Rattle.engine.specs.Streams.{in_block, in_unit, out_unit}
use Rattle.engine.specs.Transfers.{first_error}
use Rattle.engine.specs.Feeding.{begun, fed, emitted}
use Rattle.engine.specs.Inner.Standing.{Reached}
use Rattle.engine.specs.Positions.{written}
use Rattle.engine.proofs.Units.{unit_within, errors_first}
use Rattle.engine.proofs.Feeding.{emitted-append, reached_after}
use Rattle.engine.proofs.FeedLaws.{fed-after}
use Rattle.transfer.specs.Rules.{receive_rule, output_of}
use Rattle.transfer.specs.Transferring.{receive_result, memory_after_receive}
use Rattle.transfer.proofs.Laws.{Whole, whole}
use Rattle.packets.specs.Sessions.{session_after, SessionFromCalls}
use Rattle.packets.specs.PacketRule.{shown_after, Stands}
use Rattle.packets.proofs.PacketLaws.{engine_ready, session_begun, some_unit, taken-all, bytes_append}

-- A number is a multiple of u and a remainder below u in only one way.
one_way : (i j u a b : ℕ) → i * u + a ≡ j * u + b → a < u → b < u → i ≡ j
one_way i j u a b e h k =
    elim (dec_lt i j) [ yes l ↦ absurd (omega (arith, unit_within i j u l)) | no l ↦ elim (dec_lt j i) [ yes g ↦ absurd (omega (arith, unit_within j i u g)) | no g ↦ omega arith ] ]

module _ (k : Key) (at_open : List ℕ) (offset : LayoutOffset) (data_length : ℕ) (c : CameFromCalls k) (o : open_answer k (length at_open) offset.0 data_length ≡ Ok tt) where
  -- The memory lent to an accepted open has the length that the key was configured with.
  pub lent_length : length at_open ≡ k.memory_length
  lent_length = (admitted k (length at_open) offset.0 data_length (came_valid k c) o).lent

  -- Open accepts a memory of the length that the key was configured with.
  pub opened_so : open_answer k k.memory_length offset.0 data_length ≡ Ok tt
  opened_so = rw lent_length at o

  module _ (came : List ℕ) (b : Bytes came) (h : length came ≤ stream_length k.signature.wire data_length) where
    -- The session after bytes of the wire stream came from these calls.
    pub session_at : SessionFromCalls (session_after k offset data_length came)
    session_at = record { key = c; opened = opened_so; came = came; bytes = b; fits = h; progress = refl }

    -- The engine has reached the progress that the transfer rule states for the bytes `came`.
    R : Reached (receive_rule k.signature) None came (session_after k offset data_length came).progress (emitted (receive_rule k.signature) (begun (receive_rule k.signature) None) came)
    R = (reached_after (receive_rule k.signature) (engine_ready (session_after k offset data_length came) (came_valid k c) opened_so).matched None came b).0

    -- The current unit is not whole.
    begun-unit : (session_after k offset data_length came).progress.input.at < in_unit (receive_rule k.signature)
    begun-unit = (reached_after (receive_rule k.signature) (engine_ready (session_after k offset data_length came) (came_valid k c) opened_so).matched None came b).1

    -- The whole units and the bytes of the current unit are the bytes that came.
    counted : (session_after k offset data_length came).progress.input.index * in_unit (receive_rule k.signature) + (session_after k offset data_length came).progress.input.at ≡ length came
    counted = taken-all (session_after k offset data_length came) (came_valid k c) opened_so came

    -- The number of whole units is the quotient of the bytes that came by the unit size.
    units : (session_after k offset data_length came).progress.input.index ≡ length came / in_unit (receive_rule k.signature)
    units =
        one_way _ _ (in_unit (receive_rule k.signature)) _ (length came % in_unit (receive_rule k.signature))
        (counted ∙ sym (div-add-mod' (length came) (in_unit (receive_rule k.signature)))) begun-unit (mod-lt (length came) (some_unit (session_after k offset data_length came) (came_valid k c) opened_so))

    -- The bytes of the current unit are the remainder of the bytes that came by the unit size.
    over : (session_after k offset data_length came).progress.input.at ≡ length came % in_unit (receive_rule k.signature)
    over = omega (arith, counted, div-add-mod' (length came) (in_unit (receive_rule k.signature)), ap (λ (i : ℕ). i * in_unit (receive_rule k.signature)) units)

    -- As many bytes are written as 01's packet rule says.
    pub written_is : written (receive_rule k.signature) (session_after k offset data_length came).progress ≡ shown_after (receive_rule k.signature) (length came)
    written_is =
        let r = receive_rule k.signature in
        rw (R.index, units, R.at, length-take (in_block r) R.left) (omega (arith, over, R.under))

    -- As many bytes are emitted as 01's packet rule says.
    shown-length : length (emitted (receive_rule k.signature) (begun (receive_rule k.signature) None) came) ≡ shown_after (receive_rule k.signature) (length came)
    shown-length =
        let r = receive_rule k.signature in
        let w = (fed-after r (begun r None) (session_begun (session_after k offset data_length came) (came_valid k c) opened_so) (some_unit (session_after k offset data_length came) (came_valid k c) opened_so) came).2 in
        omega (arith, w, written_is, zero-mul (out_unit r))

    -- Feeding the bytes that came and the rest of the wire stream produces the transfer rule's output and first error.
    all : (rest : List ℕ) → Bytes rest → length (came ++ rest) ≡ stream_length k.signature.wire data_length
        → Whole (receive_rule k.signature) (came ++ rest) data_length (stream_length k.signature.memory data_length)
    all rest d e = whole (receive_rule k.signature) data_length _ _ (engine_ready (session_after k offset data_length came) (came_valid k c) opened_so) (came ++ rest) (bytes_append came rest b d) e

    -- The bytes emitted so far are the first of the transfer rule's output, whatever bytes are still to come.
    shown_is : (rest : List ℕ) → Bytes rest → length (came ++ rest) ≡ stream_length k.signature.wire data_length
        → emitted (receive_rule k.signature) (begun (receive_rule k.signature) None) came
        ≡ take (shown_after (receive_rule k.signature) (length came)) (output_of (receive_rule k.signature) (came ++ rest) data_length)
    shown_is rest d e =
        let r = receive_rule k.signature in
        rw (← (all rest d e).shown, emitted-append r (begun r None) came rest)
        (sym (take_at (emitted r (begun r None) came) (emitted r (fed r (begun r None) came) rest) (shown_after r (length came)) shown-length))

    -- The session's slot holds the transfer rule's first error of the whole units, whatever bytes are still to come.
    error_is : (rest : List ℕ) → (session_after k offset data_length came).progress.slot ≡ first_error (receive_rule k.signature) (came ++ rest) (length came / in_unit (receive_rule k.signature))
    error_is rest =
        let r = receive_rule k.signature in
        let parts : came ++ rest ≡ R.past ++ (R.left ++ rest) = ap (λ (l : List ℕ). l ++ rest) R.split ∙ append_assoc R.past R.left rest in
        R.error ∙ rw (parts, ← units) (sym (errors_first r R.past (R.left ++ rest) (session_after k offset data_length came).progress.input.index (omega (arith, R.past_length))))

    -- One receive of the bytes that came is accepted if they are the whole wire stream.
    answer_done : stream_length k.signature.wire data_length ≤ length came → transfer_answer k (length at_open) offset.0 data_length (length came) ≡ Ok tt
    unfolding transfer_answer
    answer_done l = rw (o, le-ltb (length came) (stream_length k.signature.wire data_length) l)

    -- Memory and recorded error are those of 01's packet rule, whatever bytes are still to come.
    pub stands_at : Stands k at_open offset.0 data_length came (scattered at_open (drop offset.0 (places k.layout)) (emitted (receive_rule k.signature) (begun (receive_rule k.signature) None) came))
        (keep k.slot (session_after k offset data_length came).progress.slot)
    unfolding memory_after_receive receive_result
    stands_at = record {
      fits = h;
      memory = λ rest d e. ap (scattered at_open (drop offset.0 (places k.layout))) (shown_is rest d e);
      error = λ rest d e. ap (keep k.slot) (error_is rest);
      whole = λ e.
          let w : Whole (receive_rule k.signature) came data_length (stream_length k.signature.memory data_length) = rw (append-nil came) at (all [] (λ i. omega arith) (ap length (append-nil came) ∙ e)) in
          let t : take (stream_length k.signature.wire data_length) came ≡ came = take_all (stream_length k.signature.wire data_length) came (omega arith) in
          rw (answer_done (omega arith), t) (refl, ap (scattered at_open (drop offset.0 (places k.layout))) w.shown, ap (λ (s : Slot). with_slot k (keep k.slot s)) w.error);
    }

    -- Once all bytes have come, the totals are those of one receive.
    pub totals_at : length came ≡ stream_length k.signature.wire data_length
        → (length came ≡ (receive_result k at_open came offset.0 data_length).taken) × (shown_after (receive_rule k.signature) (length came) ≡ (receive_result k at_open came offset.0 data_length).written)
    unfolding receive_result
    totals_at e =
        let w = all [] (λ i. omega arith) (ap length (append-nil came) ∙ e) in
        rw (answer_done (omega arith)) (e, sym shown-length ∙ rw (append-nil came) at w.size)
