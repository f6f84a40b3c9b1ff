-- These laws are about a session in progress: where its engine is, the room for a packet, the test of an untrusted
-- session, what packet and finish answer, and that "came from these calls" is kept.
use Rattle.std.specs.Prelude.{None, Ok, Err}
use mathlib.Core.Path.{◌≡◌, refl, sym, ◌∙◌}
use mathlib.Core.Bool.{Bool, true, false, ◌&&◌, not}
use mathlib.Core.List.{List, [], ◌∷◌, ◌++◌}
use Prim.Native.Nat.{ℕ, zero, suc, ◌+◌, ◌-◌, ◌/◌, ◌^◌, ◌≤◌, ◌<◌, min}
use native.Mathlib.Nat.{zero-mul, mul-le-mul, mul-le-mul_left}
use native.Mathlib.Omega.{arith}
use lib.Dec.{eqb, ltb, leb}
use lib.ListN.{length, length-append}
use borrow.Author.Tests.{eq-eqb, lt-ltb, le-ltb, le-leb, lt-leb, eqb-true, ltb-true, ltb-false, leb-true}
use Rattle.guard.specs.Guards.{Bytes}
use Rattle.layout.specs.declared.offset.LayoutOffset.{LayoutOffset}
use Rattle.layout.specs.declared.cursor.Cursor.{Cursor}
use Rattle.layout.specs.Pieces.{total}
use Rattle.layout.specs.Moves.{Placed}
use Rattle.layout.specs.Inner.Cursors.{Walked}
use Rattle.key.specs.declared.Key.{Key}
use Rattle.key.specs.Numbers.{Outcome, refuse}
use Rattle.key.specs.declared.refusal.Refusal.TheVariants.{MemoryLength, LongPacket}
use Rattle.key.specs.Streams.{stream_length}
use Rattle.key.specs.Inner.Admission.{Measured}
use Rattle.key.specs.Admitting.{open_answer}
use Rattle.key.specs.Inner.Admission.{Admitted}
use Rattle.key.specs.Keys.{accepts, CameFromCalls, KeyValid}
use Rattle.key.proofs.Laws.{came_valid, admitted, data_in_stream, came_with_error}
use Rattle.engine.specs.declared.Rule.{Rule}
use Rattle.engine.specs.declared.Progress.{Progress}
use Rattle.engine.specs.Streams.{in_block, in_unit}
use Rattle.engine.specs.Feeding.{begun, fed, emitted}
use Rattle.engine.specs.Positions.{in_step, taken, written}
use Rattle.engine.specs.Inner.Parts.{count_limit, InStep, Feedable}
use Rattle.engine.proofs.Arriving.{field_small}
use Rattle.engine.proofs.Feeding.{fed-append}
use Rattle.engine.proofs.FeedLaws.{room_at, begun_in_step, fed-after, fed-taken, written_within}
use Rattle.transfer.proofs.Laws.{Ready, ready, walkable}
use Rattle.transfer.proofs.SendLaws.{stream_double}
use Rattle.packets.specs.declared.Session.{Session}
use Rattle.packets.specs.Sessions.{FinishResult}
use Rattle.packets.specs.Sessions.{rule_of, taken_by, wire_length, SessionFromCalls, SessionValid, session_valid, ended_key, packet_answer, packet_result, finish_answer, finish_result, open_result}

pub bytes_append : (xs ys : List ℕ) → Bytes xs → Bytes ys → Bytes (xs ++ ys)
bytes_append [] ys a b i = b i
bytes_append (x ∷ xs) ys a b zero = a 0
bytes_append (x ∷ xs) ys a b (suc i) = bytes_append xs ys (λ j. a (suc j)) b i

-- The laws of this module follow from an accepted open of a valid key.
module _ (s : Session) (u : KeyValid s.key) (o : open_answer s.key s.key.memory_length s.offset.0 s.data_length ≡ Ok tt) where
  open_told : Admitted s.key s.key.memory_length s.offset.0 s.data_length
  open_told = admitted s.key s.key.memory_length s.offset.0 s.data_length u o

  pub engine_ready : Ready (rule_of s) s.data_length (wire_length s) (stream_length s.key.signature.memory s.data_length)
  engine_ready = ready (rule_of s) s.data_length (record { first = open_told.wire; second = open_told.memory; alike = λ a b. sym (open_told.alike b a) })

  -- Before the first byte both sides are in step.
  pub session_begun : InStep (rule_of s) (begun (rule_of s) None)
  session_begun = begun_in_step (rule_of s) None engine_ready.matched

  -- An input unit has at least one byte.
  pub some_unit : 0 < in_unit (rule_of s)
  some_unit = omega (arith, engine_ready.matched.some)

  -- The wire domain and the data length meet the precondition of `stream_length`.
  pub wire_measured : Measured s.key.signature.wire s.data_length
  wire_measured = record { sized = λ t. (open_told.wire t).good.least; short = omega (arith, open_told.short) }

  -- The wire stream has at most 2^26 bytes, since it is at most twice as long as its data.
  pub wire_short : wire_length s ≤ 2 ^ 26
  wire_short =
      omega (
        arith,
        stream_double s.key.signature.wire s.data_length wire_measured.sized,
        data_in_stream s.key.signature.memory s.data_length,
        open_told.inside,
        open_told.bounded.small,
      )

  -- The number of bytes taken is the length of the bytes fed since open.
  pub taken-all : (xs : List ℕ) → taken (rule_of s) (fed (rule_of s) (begun (rule_of s) None) xs) ≡ length xs
  taken-all xs = fed-taken (rule_of s) (begun (rule_of s) None) session_begun some_unit xs ∙ omega (arith, zero-mul (in_unit (rule_of s)))

-- Every session from these calls is valid.
pub came_session_valid : (s : Session) → SessionFromCalls s → SessionValid s
came_session_valid s f =
    let u = came_valid s.key f.key in
    let a = fed-after (rule_of s) (begun (rule_of s) None) (session_begun s u f.opened) (some_unit s u f.opened) f.came in
    record {
      key = u;
      opened = f.opened;
      aligned = rw f.progress a.0.aligned;
      begun = rw f.progress a.1;
      fits = rw (f.progress, taken-all s u f.opened f.came) f.fits;
    }

module _ (s : Session) (u : SessionValid s) where
  told : Admitted s.key s.key.memory_length s.offset.0 s.data_length
  told = open_told s u.key u.opened

  -- In a valid session both sides are in step, and the current unit is not whole.
  pub session_in_step : InStep (rule_of s) s.progress × (s.progress.input.at < in_unit (rule_of s))
  session_in_step = (
    record { matched = (engine_ready s u.key u.opened).matched; aligned = u.aligned },
    u.begun,
  )

  -- ---- an accepted packet

  module _ (bytes : List ℕ) (h : taken_by s + length bytes ≤ wire_length s) where
    -- After an accepted packet both sides are in step, the current unit is not whole, and the bytes emitted are counted
    -- as written.
    after : InStep (rule_of s) (fed (rule_of s) s.progress bytes) × ((fed (rule_of s) s.progress bytes).input.at < in_unit (rule_of s))
        × (written (rule_of s) (fed (rule_of s) s.progress bytes) ≡ written (rule_of s) s.progress + length (emitted (rule_of s) s.progress bytes))
    after = fed-after (rule_of s) s.progress session_in_step.0 session_in_step.1 bytes

    -- After an accepted packet no more bytes are taken than the wire stream has.
    all-taken : taken (rule_of s) (fed (rule_of s) s.progress bytes) ≤ wire_length s
    all-taken = omega (arith, fed-taken (rule_of s) s.progress session_in_step.0 session_in_step.1 bytes)

    -- After an accepted packet no more bytes are written than the memory stream has.
    written-fits : written (rule_of s) (fed (rule_of s) s.progress bytes) ≤ stream_length s.key.signature.memory s.data_length
    written-fits =
        let R = engine_ready s u.key u.opened in
        rw R.output (written_within (rule_of s) (fed (rule_of s) s.progress bytes) after.0 after.1 (s.data_length / in_block (rule_of s)) (omega (arith, all-taken, R.input)))

    -- After an accepted packet the bytes taken are within the count limit.
    pub packet_taken : taken (rule_of s) (fed (rule_of s) s.progress bytes) ≤ count_limit
    packet_taken = omega (arith, all-taken, wire_short s u.key u.opened)

    -- After an accepted packet the bytes written are within the count limit.
    pub packet_written : written (rule_of s) (fed (rule_of s) s.progress bytes) ≤ count_limit
    packet_written = omega (arith, written-fits, told.inside, told.bounded.small)

    -- The next output byte lies in the layout or at its end, so the preconditions of `written`, `ahead` and `walk` are
    -- met.
    pub packet_at : (written (rule_of s) s.progress ≤ count_limit) × (s.offset.0 + written (rule_of s) s.progress < 2 ^ 64) × (Placed s.key.layout (2 ^ 64 - 1))
        × (s.offset.0 + written (rule_of s) s.progress ≤ total s.key.layout)
    packet_at =
        let w : s.offset.0 + written (rule_of s) s.progress ≤ total s.key.layout = omega (arith, after.2, written-fits, told.inside) in
        (omega (arith, told.bounded.small), omega (arith, told.bounded.small), (walkable told).0, w)

    -- Feeding an accepted packet meets the precondition of `feed`.
    pub packet_feeds : (memory : ℕ) → memory ≡ s.key.memory_length → (at : Cursor) → Walked s.key.layout (s.offset.0 + written (rule_of s) s.progress) at
        → Feedable (rule_of s) s.progress s.key.layout at memory bytes
    packet_feeds memory e at w = record {
      in_step = session_in_step.0;
      begun = session_in_step.1;
      room =
          room_at (rule_of s) s.progress s.key.layout (s.offset.0 + written (rule_of s) s.progress) at memory _ (rw e told.placed) w (omega arith)
          (omega (arith, after.2, written-fits, told.inside)) (omega (arith, told.bounded.small));
    }

-- ---- an untrusted session

-- If the test `in_step` is true, both sides are in the same block at matching offsets, and the current unit is not
-- whole.
in_step_told : (r : Rule) (p : Progress) → in_step r p ≡ true
    → (p.output.index ≡ p.input.index) × (p.output.at ≡ min p.input.at (in_block r)) × (p.input.at < in_unit r)
unfolding in_step
in_step_told r p h = go (eqb p.output.index p.input.index) (eqb p.output.at (min p.input.at (in_block r))) (ltb p.input.at (in_unit r)) refl refl refl h
  where
    go : (a b c : Bool) → eqb p.output.index p.input.index ≡ a → eqb p.output.at (min p.input.at (in_block r)) ≡ b → ltb p.input.at (in_unit r) ≡ c → a && (b && c) ≡ true
        → (p.output.index ≡ p.input.index) × (p.output.at ≡ min p.input.at (in_block r)) × (p.input.at < in_unit r)
    go true true true x y z t = (eqb-true p.output.index p.input.index x, eqb-true p.output.at (min p.input.at (in_block r)) y, ltb-true p.input.at (in_unit r) z)
    go true true false x y z t = let n : ◌≡◌ {A = ℕ} 0 1 = cc in absurd (omega arith)
    go true false c x y z t = let n : ◌≡◌ {A = ℕ} 0 1 = cc in absurd (omega arith)
    go false b c x y z t = let n : ◌≡◌ {A = ℕ} 0 1 = cc in absurd (omega arith)

module _ (s : Session) (u : KeyValid s.key) where
  -- If the test `session_valid` is true and eight bytes are held, the session is valid.
  pub valid_told : session_valid s ≡ true → length s.progress.held ≡ 8 → SessionValid s
  unfolding session_valid
  valid_told h e = go (open_answer s.key s.key.memory_length s.offset.0 s.data_length) (in_step (rule_of s) s.progress) (leb (taken_by s) (wire_length s)) refl refl refl h
    where
      go : (o : Outcome) (b c : Bool) → open_answer s.key s.key.memory_length s.offset.0 s.data_length ≡ o → in_step (rule_of s) s.progress ≡ b → leb (taken_by s) (wire_length s) ≡ c
          → accepts o && (b && c) ≡ true → SessionValid s
      go (Ok tt) true true x y z t =
          let i = in_step_told (rule_of s) s.progress y in
          record { key = u; opened = x; aligned = record { index = i.0; at = i.1; within = omega (arith, i.2); eight = e }; begun = i.2; fits = leb-true (taken_by s) (wire_length s) z }
      go (Ok tt) true false x y z t = let n : ◌≡◌ {A = ℕ} 0 1 = cc in absurd (omega arith)
      go (Ok tt) false c x y z t = let n : ◌≡◌ {A = ℕ} 0 1 = cc in absurd (omega arith)
      go (Err r) b c x y z t = let n : ◌≡◌ {A = ℕ} 0 1 = cc in absurd (omega arith)

  module _ (o : open_answer s.key s.key.memory_length s.offset.0 s.data_length ≡ Ok tt) (h : in_step (rule_of s) s.progress ≡ true) (w : ℕ) (l : w ≡ wire_length s) where
    some : 1 ≤ in_unit (rule_of s)
    some = some_unit s u o

    -- The test is false if more units have come than the wire has bytes.
    pub too_far : w < s.progress.input.index → false ≡ session_valid s
    unfolding session_valid
    too_far n = rw (o, h, lt-leb (taken_by s) (wire_length s) (omega (arith, l, mul-le-mul_left s.progress.input.index some))) refl

    -- If no more units have come than the wire has bytes, the bytes taken are within the count limit.
    pub countable : s.progress.input.index ≤ w → taken (rule_of s) s.progress ≤ count_limit
    countable n =
        let i = in_step_told (rule_of s) s.progress h in
        let R = (engine_ready s u o).matched in
        let m : in_unit (rule_of s) ≤ 4168 = omega (arith, R.most, field_small (rule_of s).input) in
        let q : s.progress.input.index ≤ 2 ^ 27 = omega (arith, n, l, wire_short s u o) in
        omega (arith, i.2, m, mul-le-mul {n₁ = s.progress.input.index} {m₁ = in_unit (rule_of s)} {n₂ = 2 ^ 27} {m₂ = 4168} q m)

-- What the calls below require of a valid session.
pub valid_configured : (s : Session) → SessionValid s → s.key.configured ≡ true
valid_configured s v = (open_told s v.key v.opened).configured

pub valid_countable : (s : Session) → SessionValid s → taken (rule_of s) s.progress ≤ count_limit
valid_countable s v = omega (arith, v.fits, wire_short s v.key v.opened)

-- The test `session_valid` is true for every valid session.
pub valid_passes : (s : Session) → SessionValid s → session_valid s ≡ true
unfolding session_valid in_step
valid_passes s f =
    rw (f.opened, eq-eqb _ _ f.aligned.index, eq-eqb _ _ f.aligned.at, lt-ltb _ _ f.begun, le-leb _ _ f.fits) refl

-- ---- the answers of packet and finish

module _ (s : Session) (m n : ℕ) where
  module _ (same : m ≡ s.key.memory_length) (t w : ℕ) (et : t ≡ taken_by s) (ew : w ≡ wire_length s) (h : t ≤ w) where
    -- Packet accepts at most the bytes still to come, if it is lent a memory of the right length.
    pub answer_0 : n ≤ w - t → Ok tt ≡ packet_answer s m n
    unfolding packet_answer
    answer_0 k = rw (eq-eqb m s.key.memory_length same, le-ltb (wire_length s) (taken_by s + n) (omega (arith, et, ew)))

module _ (s : Session) (t w : ℕ) (et : t ≡ taken_by s) (ew : w ≡ wire_length s) where
  -- Finish accepts once all bytes have come, and returns the key with the recorded error.
  pub finish_done : w ≤ t → (k : Key) → k ≡ ended_key s → ◌≡◌ {A = FinishResult} (record { outcome = Ok tt; key = k; session = s }) (finish_result s)
  unfolding finish_answer
  finish_done h k e = rw (le-ltb (taken_by s) (wire_length s) (omega (arith, et, ew)), e)

-- An accepted packet was lent a memory of the right length, and is no longer than the bytes still to come.
pub packet_told : (s : Session) (m n : ℕ) → packet_answer s m n ≡ Ok tt → (m ≡ s.key.memory_length) × (taken_by s + n ≤ wire_length s)
unfolding packet_answer
packet_told s m n e = go (eqb m s.key.memory_length) (ltb (wire_length s) (taken_by s + n)) refl refl e
  where
    go : (a b : Bool) → eqb m s.key.memory_length ≡ a → ltb (wire_length s) (taken_by s + n) ≡ b → refuse (not a) MemoryLength (refuse b LongPacket (Ok tt)) ≡ Ok tt
        → (m ≡ s.key.memory_length) × (taken_by s + n ≤ wire_length s)
    go true false p q z = (eqb-true m _ p, ltb-false (wire_length s) (taken_by s + n) q)
    go true true p q z = let c : ◌≡◌ {A = ℕ} 0 1 = cc in absurd (omega arith)
    go false b p q z = let c : ◌≡◌ {A = ℕ} 0 1 = cc in absurd (omega arith)

-- ---- "came from these calls" is kept

-- The session of an accepted open came from these calls.
pub came_opened : (k : Key) (n : ℕ) (offset : LayoutOffset) (data_length : ℕ) → CameFromCalls k → open_answer k n offset.0 data_length ≡ Ok tt
    → SessionFromCalls (open_result k n offset data_length).session
unfolding fed
came_opened k n offset data_length c o = record {
  key = c;
  opened = rw (admitted k n offset.0 data_length (came_valid k c) o).lent at o;
  came = [];
  bytes = λ i. omega arith;
  fits = omega arith;
  progress = refl;
}

-- The session that packet returns, accepted or refused, came from these calls.
pub came_packet : (s : Session) → SessionFromCalls s → (m : ℕ) (bytes : List ℕ) → Bytes bytes → SessionFromCalls (packet_result s m bytes).session
unfolding packet_result
came_packet s f m bytes b = go (packet_answer s m (length bytes)) refl
  where
    go : (o : Outcome) → packet_answer s m (length bytes) ≡ o → SessionFromCalls (packet_result s m bytes).session
    go (Ok tt) e =
        let t : taken_by s ≡ length f.came = rw f.progress (taken-all s (came_valid s.key f.key) f.opened f.came) in
        rw e (record {
          key = f.key;
          opened = f.opened;
          came = f.came ++ bytes;
          bytes = bytes_append f.came bytes f.bytes b;
          fits = rw (length-append f.came bytes) (omega (arith, t, (packet_told s m (length bytes) e).1));
          progress = rw f.progress (sym (fed-append (rule_of s) (begun (rule_of s) None) f.came bytes));
        })
    go (Err r) e = rw e f

-- The key that an accepted finish or an abandon returns came from these calls.
pub came_ended : (s : Session) → SessionFromCalls s → CameFromCalls (ended_key s)
came_ended s f = came_with_error s.key _ f.key (open_told s (came_valid s.key f.key) f.opened).configured
