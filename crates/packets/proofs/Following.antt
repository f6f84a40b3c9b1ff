-- These laws prove demand 3: every list of calls on a session follows the packet rule.
use Rattle.std.specs.Prelude.{None, Ok, Err}
use mathlib.Core.Path.{◌≡◌, refl, sym, ap, ◌∙◌}
use mathlib.Core.List.{List, [], ◌∷◌, ◌++◌, map}
use Prim.Native.Nat.{ℕ, suc, ◌+◌, ◌≤◌}
use native.Mathlib.Nat.{zero-mul}
use native.Mathlib.Omega.{arith}
use lib.Dec.{ltb}
use lib.ListN.{length, drop, length-append}
use lib.Seq.{drop-drop}
use borrow.Author.Tests.{ltb-false}
use Rattle.guard.specs.Guards.{Bytes}
use Rattle.layout.specs.declared.offset.LayoutOffset.{LayoutOffset}
use Rattle.layout.specs.Pieces.{places}
use Rattle.layout.specs.Moves.{scattered}
use Rattle.layout.proofs.MoveLaws.{scattered-append, scattered_none}
use Rattle.key.specs.declared.Key.{Key}
use Rattle.key.specs.Numbers.{Outcome}
use Rattle.key.specs.declared.refusal.Refusal.{Refusal}
use Rattle.key.specs.declared.refusal.Refusal.TheVariants.{BytesToCome}
use Rattle.key.specs.Keys.{CameFromCalls}
use Rattle.key.specs.Streams.{stream_length}
use Rattle.key.specs.Admitting.{open_answer}
use Rattle.key.proofs.Laws.{refuse_done, came_valid, admitted, came_with_error}
use Rattle.engine.specs.declared.Progress.{Progress}
use Rattle.engine.specs.Streams.{out_unit}
use Rattle.engine.specs.Feeding.{begun, fed, emitted}
use Rattle.engine.specs.Positions.{taken, written}
use Rattle.engine.proofs.Feeding.{fed-append, emitted-append}
use Rattle.engine.proofs.FeedLaws.{fed-after}
use Rattle.transfer.specs.Rules.{receive_rule}
use Rattle.packets.specs.declared.Session.{Session}
use Rattle.packets.specs.Sessions.{OpenResult, PacketResult, FinishResult, AbandonResult}
use Rattle.packets.specs.Sessions.{session_after, rule_of, recorded, ended_key, SessionFromCalls, packet_answer, with_progress, packet_result_by, packet_result, memory_after_packet, finish_answer, finish_result_by, finish_result, key_of, abandon_result}
use Rattle.packets.specs.PacketRule.{Call, packet_rule, finish_rule, Stands, Accepted, HandedBack, Kept, Early, Ended, Follows}
use Rattle.packets.specs.PacketRule.Call.{packet, finish}
use Rattle.packets.specs.Lists.{Made, Request, unless_done, played, request_of, EveryListIsMade, EveryMadeListIsPlayed}
use Rattle.packets.specs.Demand3.{Demand3}
use Rattle.transfer.specs.Transferring.{becomes, receive_result}
use Rattle.packets.proofs.PacketLaws.{answer_0, finish_done, taken-all, bytes_append, packet_told, session_begun, some_unit}
use Rattle.packets.proofs.RuleLaws.{opened_so, session_at, written_is, stands_at, totals_at}

-- ---- the result of a call, by its outcome

-- The outcome that packet returns is `packet_answer`.
packet_result_outcome : (s : Session) (m : ℕ) (bytes : List ℕ) → (packet_result s m bytes).outcome ≡ packet_answer s m (length bytes)
unfolding packet_result
packet_result_outcome s m bytes = go (packet_answer s m (length bytes))
  where
    go : (o : Outcome) → (packet_result_by o s (fed (rule_of s) s.progress bytes)).outcome ≡ o
    go (Ok tt) = refl
    go (Err r) = refl

-- An accepted packet returns the totals and the session after its bytes.
packet_result_done : (s : Session) (m : ℕ) (bytes : List ℕ) → packet_answer s m (length bytes) ≡ Ok tt
    → ◌≡◌ {A = PacketResult} (packet_result s m bytes) (record {
      outcome = Ok tt;
      taken = taken (rule_of s) (fed (rule_of s) s.progress bytes);
      written = written (rule_of s) (fed (rule_of s) s.progress bytes);
      session = with_progress s (fed (rule_of s) s.progress bytes);
    })
unfolding packet_result
packet_result_done s m bytes e = rw e

-- A refused packet returns two zeros and the session as it was.
packet_result_refused : (s : Session) (m : ℕ) (bytes : List ℕ) (r : Refusal) → packet_answer s m (length bytes) ≡ Err r
    → ◌≡◌ {A = PacketResult} (packet_result s m bytes) (record { outcome = Err r; taken = 0; written = 0; session = s })
unfolding packet_result
packet_result_refused s m bytes r e = rw e

-- An accepted packet stores the emitted bytes at the layout's next places.
memory_done : (s : Session) (now bytes : List ℕ) → packet_answer s (length now) (length bytes) ≡ Ok tt
    → memory_after_packet s now bytes ≡ scattered now (drop (s.offset.0 + written (rule_of s) s.progress) (places s.key.layout)) (emitted (rule_of s) s.progress bytes)
unfolding memory_after_packet
memory_done s now bytes e = rw e

-- A refused packet leaves the lent memory as it was.
memory_refused : (s : Session) (lent bytes : List ℕ) (r : Refusal) → packet_answer s (length lent) (length bytes) ≡ Err r → memory_after_packet s lent bytes ≡ lent
unfolding memory_after_packet
memory_refused s lent bytes r e = rw e

-- The outcome that finish returns is `finish_answer`.
finishing_outcome : (s : Session) → (finish_result s).outcome ≡ finish_answer s
finishing_outcome s = go (finish_answer s)
  where
    go : (o : Outcome) → (finish_result_by o s).outcome ≡ o
    go (Ok tt) = refl
    go (Err r) = refl

-- ---- along a list

module _ (k : Key) (at_open : List ℕ) (offset : LayoutOffset) (data_length : ℕ) (c : CameFromCalls k) (o : open_answer k (length at_open) offset.0 data_length ≡ Ok tt) where
  -- The session `at came` is the one after the bytes `came`.
  at : List ℕ → Session
  at came = session_after k offset data_length came

  -- The bytes `shown came` are memory after the bytes `came`.
  shown : List ℕ → List ℕ
  shown came = scattered at_open (drop offset.0 (places k.layout)) (emitted (receive_rule k.signature) (begun (receive_rule k.signature) None) came)

  -- If the packet rule accepts a finish, all bytes have come.
  finish_whole : (came : List ℕ) → finish_rule k at_open offset.0 data_length came ≡ Ok tt → length came ≤ stream_length k.signature.wire data_length
      → length came ≡ stream_length k.signature.wire data_length
  finish_whole came e h =
      let w = stream_length k.signature.wire data_length in
      omega (arith, h, ltb-false (length came) w (refuse_done (ltb (length came) w) BytesToCome (Ok tt) e).0)

  module _ (came : List ℕ) (b : Bytes came) (h : length came ≤ stream_length k.signature.wire data_length) where
    from_calls : SessionFromCalls (at came)
    unfolding at
    from_calls = session_at k at_open offset data_length c o came b h

    -- Packet's answer is the one that the packet rule requires.
    packet_ruled : (m n : ℕ) → packet_answer (at came) m n ≡ packet_rule k at_open offset.0 data_length came m n
    unfolding packet_answer at
    packet_ruled m n = rw (taken-all (at came) (came_valid k c) (opened_so k at_open offset data_length c o) came)

    -- Finish's answer is the one that the packet rule requires.
    finish_ruled : finish_answer (at came) ≡ finish_rule k at_open offset.0 data_length came
    unfolding finish_answer at
    finish_ruled = rw (taken-all (at came) (came_valid k c) (opened_so k at_open offset data_length c o) came)

    -- Memory and recorded error are those of the packet rule, whatever bytes are still to come.
    stands : Stands k at_open offset.0 data_length came (shown came) (recorded (at came))
    unfolding at shown
    stands = stands_at k at_open offset data_length c o came b h

    -- The key that finish or abandon returns is the one that the packet rule requires.
    ended : Ended k at_open offset.0 data_length came (shown came) (Ok tt) (ended_key (at came))
    unfolding at
    ended = record { done = refl; key = refl; stands = stands; calls = came_with_error k _ c (admitted k (length at_open) offset.0 data_length (came_valid k c) o).configured }

    -- An accepted packet leads to the session after the earlier bytes and the packet's.
    session_next : (bytes : List ℕ) → with_progress (at came) (fed (rule_of (at came)) (at came).progress bytes) ≡ at (came ++ bytes)
    unfolding at
    session_next bytes =
        ap (λ (p : Progress). record { key = k; offset = offset; data_length = data_length; progress = p }) (sym (fed-append (receive_rule k.signature) (begun (receive_rule k.signature) None) came bytes))

    -- An accepted packet leads to the memory after the earlier bytes and the packet's.
    memory_next : (bytes : List ℕ) → scattered (shown came) (drop (offset.0 + written (rule_of (at came)) (at came).progress) (places k.layout)) (emitted (rule_of (at came)) (at came).progress bytes) ≡ shown (came ++ bytes)
    unfolding at shown
    memory_next bytes =
        let r = receive_rule k.signature in
        let w = (fed-after r (begun r None) (session_begun (at came) (came_valid k c) (opened_so k at_open offset data_length c o)) (some_unit (at came) (came_valid k c) (opened_so k at_open offset data_length c o)) came).2 in
        let e : offset.0 + written r (fed r (begun r None) came) ≡ offset.0 + length (emitted r (begun r None) came) = omega (arith, w, zero-mul (out_unit r)) in
        rw (e, emitted-append r (begun r None) came bytes)
        (sym (scattered-append at_open (drop offset.0 (places k.layout)) (emitted r (begun r None) came) (emitted r (fed r (begun r None) came) bytes) ∙ rw (drop-drop (length (emitted r (begun r None) came)) offset.0 (places k.layout))))

    module _ (bytes : List ℕ) (d : Bytes bytes) (l : length came + length bytes ≤ stream_length k.signature.wire data_length) where
      more_bytes : Bytes (came ++ bytes)
      more_bytes = bytes_append came bytes b d

      more_length : length (came ++ bytes) ≤ stream_length k.signature.wire data_length
      more_length = rw (length-append came bytes) l

      -- The result of an accepted packet is the one that the packet rule requires.
      accepted_next : Accepted k at_open offset.0 data_length (came ++ bytes)
          (record {
            outcome = Ok tt;
            taken = taken (receive_rule k.signature) (fed (receive_rule k.signature) (begun (receive_rule k.signature) None) (came ++ bytes));
            written = written (receive_rule k.signature) (fed (receive_rule k.signature) (begun (receive_rule k.signature) None) (came ++ bytes));
            session = at (came ++ bytes);
          }) (shown (came ++ bytes))
      unfolding at shown
      accepted_next =
          let t = taken-all (at came) (came_valid k c) (opened_so k at_open offset data_length c o) (came ++ bytes) in
          let w = written_is k at_open offset data_length c o (came ++ bytes) more_bytes more_length in
          record {
            outcome = refl;
            taken = t;
            written = w;
            stands = stands_at k at_open offset data_length c o (came ++ bytes) more_bytes more_length;
            session = refl;
            calls = session_at k at_open offset data_length c o (came ++ bytes) more_bytes more_length;
            whole = λ e. let z = totals_at k at_open offset data_length c o (came ++ bytes) more_bytes more_length e in (t ∙ z.0, w ∙ z.1);
          }

    -- An accepted packet has these consequences: the packet rule accepts it, and result, session and memory are those
    -- of the rule.
    record Next (bytes : List ℕ) (answer : PacketResult) (after : List ℕ) : Type 0 where
      ruled : packet_rule k at_open offset.0 data_length came (length (shown came)) (length bytes) ≡ Ok tt
      fits : length (came ++ bytes) ≤ stream_length k.signature.wire data_length
      bytes_now : Bytes (came ++ bytes)
      accepted : Accepted k at_open offset.0 data_length (came ++ bytes) answer after
      session : answer.session ≡ at (came ++ bytes)
      memory : after ≡ shown (came ++ bytes)

    -- Every accepted packet has the consequences that `Next` lists.
    packet_next : (bytes : List ℕ) (answer : PacketResult) (after : List ℕ) → Bytes bytes → answer ≡ packet_result (at came) (length (shown came)) bytes
        → after ≡ memory_after_packet (at came) (shown came) bytes → answer.outcome ≡ Ok tt → Next bytes answer after
    unfolding at
    packet_next bytes answer after d ea em eo =
        let e : packet_answer (at came) (length (shown came)) (length bytes) ≡ (Ok tt) = sym (packet_result_outcome (at came) (length (shown came)) bytes) ∙ (ap (λ (p : PacketResult). p.outcome) (sym ea) ∙ eo) in
        let told = packet_told (at came) (length (shown came)) (length bytes) e in
        let l : length came + length bytes ≤ stream_length k.signature.wire data_length = omega (arith, told.1, taken-all (at came) (came_valid k c) (opened_so k at_open offset data_length c o) came) in
        let f : fed (receive_rule k.signature) (fed (receive_rule k.signature) (begun (receive_rule k.signature) None) came) bytes ≡ fed (receive_rule k.signature) (begun (receive_rule k.signature) None) (came ++ bytes) =
        sym (fed-append (receive_rule k.signature) (begun (receive_rule k.signature) None) came bytes) in
        let a = ea ∙ packet_result_done (at came) (length (shown came)) bytes e in
        let m = em ∙ (memory_done (at came) (shown came) bytes e ∙ memory_next bytes) in
        record {
          ruled = sym (packet_ruled (length (shown came)) (length bytes)) ∙ e;
          fits = more_length bytes d l;
          bytes_now = more_bytes bytes d l;
          accepted = rw (a, m, f) (accepted_next bytes d l);
          session = ap (λ (p : PacketResult). p.session) a ∙ session_next bytes;
          memory = m;
        }

    module _ {s : Session} {now : List ℕ} (es : s ≡ at came) (en : now ≡ shown came) where
      -- An accepted packet of a list follows the packet rule.
      accepted_call : (bytes : List ℕ) (answer : PacketResult) (after : List ℕ) → Bytes bytes → answer ≡ packet_result s (length now) bytes → after ≡ memory_after_packet s now bytes → answer.outcome ≡ Ok tt
          → (packet_rule k at_open offset.0 data_length came (length now) (length bytes) ≡ Ok tt) × Next bytes answer after
      accepted_call bytes answer after d ea em eo =
          let n = packet_next bytes answer after d (rw (es, en) at ea) (rw (es, en) at em) eo in
          (rw en n.ruled, n)

      -- A refused call hands back the session that it was given.
      handed_back : (returned : Session) → returned ≡ at came → HandedBack k at_open offset.0 data_length came s returned
      unfolding at
      handed_back returned e = record { same = e ∙ sym es; session = e; calls = rw e from_calls }

      -- A refused packet of a list follows the packet rule, and returns the session as it was.
      refused_call : (lent bytes : List ℕ) (answer : PacketResult) (after : List ℕ) (r : Refusal) → answer ≡ packet_result s (length lent) bytes → after ≡ memory_after_packet s lent bytes → answer.outcome ≡ Err r
          → (packet_rule k at_open offset.0 data_length came (length lent) (length bytes) ≡ Err r) × Kept k at_open offset.0 data_length came now s r lent answer after × (answer.session ≡ at came)
      refused_call lent bytes answer after r ea em eo =
          let ea' = rw es at ea in
          let e : packet_answer (at came) (length lent) (length bytes) ≡ Err r = sym (packet_result_outcome (at came) (length lent) bytes) ∙ (ap (λ (p : PacketResult). p.outcome) (sym ea') ∙ eo) in
          let a = ea' ∙ packet_result_refused (at came) (length lent) bytes r e in (
            sym (packet_ruled (length lent) (length bytes)) ∙ e,
            record {
              outcome = eo;
              taken = ap (λ (p : PacketResult). p.taken) a;
              written = ap (λ (p : PacketResult). p.written) a;
              untouched = em ∙ (rw es (memory_refused (at came) lent bytes r e));
              stands = rw (a, en) stands;
              back = handed_back answer.session (ap (λ (p : PacketResult). p.session) a);
            },
            ap (λ (p : PacketResult). p.session) a,
          )

      -- The outcome of a finish of a list is the one that the packet rule requires.
      finish_told : (answer : FinishResult) → answer ≡ finish_result s → (answer ≡ finish_result (at came)) × (answer.outcome ≡ finish_rule k at_open offset.0 data_length came)
      finish_told answer ea =
          let a = rw es at ea in
          (a, ap (λ (p : FinishResult). p.outcome) a ∙ (finishing_outcome (at came) ∙ finish_ruled))

      -- An early finish of a list follows the packet rule, and returns the session as it was.
      early_call : (answer : FinishResult) (r : Refusal) → answer ≡ finish_result s → answer.outcome ≡ Err r
          → (finish_rule k at_open offset.0 data_length came ≡ Err r) × Early k at_open offset.0 data_length came now s r answer × (answer.session ≡ at came)
      early_call answer r ea eo =
          let t = finish_told answer ea in
          let e : finish_rule k at_open offset.0 data_length came ≡ Err r = sym t.1 ∙ eo in
          let a : answer ≡ record { outcome = Err r; key = (at came).key; session = at came } = t.0 ∙ rw (finish_ruled ∙ e) in
          let back = ap (λ (p : FinishResult). p.session) a in
          (e, record { outcome = eo; stands = rw (a, en) stands; back = handed_back answer.session back }, back)

      -- An accepted finish ends a list as the packet rule requires.
      finished_call : (answer : FinishResult) → answer ≡ finish_result s → answer.outcome ≡ Ok tt
          → (finish_rule k at_open offset.0 data_length came ≡ Ok tt) × (length came ≡ stream_length k.signature.wire data_length) × Ended k at_open offset.0 data_length came now answer.outcome answer.key
      finished_call answer ea eo =
          let t = finish_told answer ea in
          let e : finish_rule k at_open offset.0 data_length came ≡ (Ok tt) = sym t.1 ∙ eo in
          let a : answer ≡ record { outcome = Ok tt; key = ended_key (at came); session = at came } = t.0 ∙ rw (finish_ruled ∙ e) in
          (e, finish_whole came e h, rw (a, en) ended)

      -- An abandon ends a list as the packet rule requires.
      abandoned_call : (answer : AbandonResult) → answer ≡ abandon_result s → Ended k at_open offset.0 data_length came now answer.outcome answer.key
      abandoned_call answer ea = rw (ea, es, en) ended

  -- Every list of calls that is made after the bytes `came` follows the packet rule.
  follow : (came : List ℕ) → Bytes came → length came ≤ stream_length k.signature.wire data_length → {s : Session} {now : List ℕ} {calls : List Call} → s ≡ at came → now ≡ shown came
      → Made s now calls → Follows k at_open offset.0 data_length came now s calls
  follow came b h es en Made.stops = Follows.none h
  follow came b h es en (Made.accepted bytes answer after d ea em eo rest) =
      let n = accepted_call came b h es en bytes answer after d ea em eo in
      Follows.accepted n.0 n.1.accepted (follow (came ++ bytes) n.1.bytes_now n.1.fits n.1.session n.1.memory rest)
  follow came b h es en (Made.refused lent bytes answer after r ea em eo rest) =
      let n = refused_call came b h es en lent bytes answer after r ea em eo in
      Follows.refused r n.0 n.1 (follow came b h n.2 en rest)
  follow came b h es en (Made.early answer r ea eo rest) =
      let n = early_call came b h es en answer r ea eo in
      Follows.early r n.0 n.1 (follow came b h n.2 en rest)
  follow came b h es en (Made.finished answer ea eo) =
      let n = finished_call came b h es en answer ea eo in
      Follows.finished n.0 n.1 n.2
  follow came b h es en (Made.abandoned answer ea) = Follows.abandoned (abandoned_call came b h es en answer ea)

-- Demand 3 holds.
pub packets_follow_the_rule : Demand3
unfolding at shown fed emitted
packets_follow_the_rule k memory offset data_length c answer e d calls m =
    let o : open_answer k (length memory) offset.0 data_length ≡ (Ok tt) = ap (λ (a : OpenResult). a.outcome) (sym e) ∙ d in
    follow k memory offset data_length c o [] (λ i. omega arith) (omega arith) (ap (λ (a : OpenResult). a.session) e) (sym (scattered_none memory (drop offset.0 (places k.layout)))) m

-- ---- lists that can be made

module _ (s : Session) (now bytes : List ℕ) (b : Bytes bytes) (calls : List Call) where
  -- A list can begin with any packet of bytes that is lent the transfer's memory, accepted or refused.
  made_packet : (o : Outcome) → (packet_result s (length now) bytes).outcome ≡ o
      → Made (packet_result s (length now) bytes).session (becomes o now (memory_after_packet s now bytes)) calls
      → Made s now (packet now bytes (packet_result s (length now) bytes) (memory_after_packet s now bytes) ∷ calls)
  made_packet (Ok tt) e m = Made.accepted bytes _ _ b refl refl e m
  made_packet (Err r) e m = Made.refused now bytes _ _ r refl refl e m

  -- A list can begin with a packet that is lent any memory if it is refused, and else the transfer's.
  made_lent : (lent : List ℕ) (o : Outcome) → packet_answer s (length lent) (length bytes) ≡ o
      → (let memory = becomes o lent now in let answer = packet_result s (length memory) bytes in let after = memory_after_packet s memory bytes in
      Made answer.session (becomes answer.outcome now after) calls → Made s now (packet memory bytes answer after ∷ calls))
  made_lent lent (Ok tt) e m = made_packet (packet_result s (length now) bytes).outcome refl m
  made_lent lent (Err r) e m =
      let eo = packet_result_outcome s (length lent) bytes ∙ e in
      Made.refused lent bytes _ _ r refl refl eo (rw eo at m)

-- A list can go on after a finish that is refused, and ends with one that is accepted.
made_finish : (s : Session) (now : List ℕ) (calls : List Call) (o : Outcome) → (finish_result s).outcome ≡ o → Made (finish_result s).session now calls
    → Made s now (finish (finish_result s) ∷ unless_done o calls)
made_finish s now calls (Ok tt) e m = Made.finished (finish_result s) refl e
made_finish s now calls (Err r) e m = Made.early (finish_result s) r refl e m

-- Every list of requests leads to a list of calls that can be made.
pub played_made : EveryListIsMade
unfolding played
played_made s now [] b = Made.stops
played_made s now (Request.packet lent bytes ∷ more) b =
    made_lent s now bytes (b 0) _ lent (packet_answer s (length lent) (length bytes)) refl (played_made _ _ more (λ i. b (suc i)))
played_made s now (Request.finish ∷ more) b = made_finish s now _ (finish_result s).outcome refl (played_made (finish_result s).session now more (λ i. b (suc i)))
played_made s now (Request.abandon ∷ more) b = Made.abandoned (abandon_result s) refl

-- Bytes that become themselves stay as they are.
becomes_same : (o : Outcome) (xs : List ℕ) → becomes o xs xs ≡ xs
becomes_same (Ok tt) xs = refl
becomes_same (Err r) xs = refl

-- What the calls of a list asked for leads to that list.
pub made_played : EveryMadeListIsPlayed
unfolding played
made_played s now calls Made.stops = refl
made_played s now calls (Made.accepted bytes answer after {calls = more} b ea em eo rest) =
    let next : played answer.session (becomes answer.outcome now after) (map request_of more) ≡ more = rw eo (made_played answer.session after more rest) in
    rw (becomes_same (packet_answer s (length now) (length bytes)) now, ← ea, ← em) (ap (λ (l : List Call). packet now bytes answer after ∷ l) next)
made_played s now calls (Made.refused lent bytes answer after r {calls = more} ea em eo rest) =
    let e : packet_answer s (length lent) (length bytes) ≡ Err r = sym (packet_result_outcome s (length lent) bytes) ∙ (ap (λ (p : PacketResult). p.outcome) (sym ea) ∙ eo) in
    let next : played answer.session (becomes answer.outcome now after) (map request_of more) ≡ more = rw eo (made_played answer.session now more rest) in
    rw (e, ← ea, ← em) (ap (λ (l : List Call). packet lent bytes answer after ∷ l) next)
made_played s now calls (Made.early answer r {calls = more} ea eo rest) =
    let next : unless_done answer.outcome (played answer.session now (map request_of more)) ≡ more = rw eo (made_played answer.session now more rest) in
    rw (← ea) (ap (λ (l : List Call). finish answer ∷ l) next)
made_played s now calls (Made.finished answer ea eo) = rw (← ea, eo) refl
made_played s now calls (Made.abandoned answer ea) = rw ea refl

-- ---- a caller that passes a whole stream in packets

module _ (k : Key) (at_open : List ℕ) (offset : LayoutOffset) (data_length : ℕ) (c : CameFromCalls k) (o : open_answer k (length at_open) offset.0 data_length ≡ Ok tt)
    (came : List ℕ) (b : Bytes came) (h : length came ≤ stream_length k.signature.wire data_length) where
  -- A packet within the wire stream that was lent a memory of the right length is accepted.
  pub next_answer : (m : ℕ) → m ≡ k.memory_length → (bytes : List ℕ) → length came + length bytes ≤ stream_length k.signature.wire data_length
      → packet_answer (session_after k offset data_length came) m (length bytes) ≡ Ok tt
  next_answer m e bytes l =
      let s = session_after k offset data_length came in
      let t = taken-all s (came_valid k c) (opened_so k at_open offset data_length c o) came in
      sym (answer_0 s m (length bytes) e (length came) (stream_length k.signature.wire data_length) (sym t) refl h (omega arith))

  -- It returns the session after all bytes so far.
  pub next_session : (m : ℕ) → m ≡ k.memory_length → (bytes : List ℕ) → length came + length bytes ≤ stream_length k.signature.wire data_length
      → (packet_result (session_after k offset data_length came) m bytes).session ≡ session_after k offset data_length (came ++ bytes)
  unfolding at
  next_session m e bytes l =
      let s = session_after k offset data_length came in
      ap (λ (p : PacketResult). p.session) (packet_result_done s m bytes (next_answer m e bytes l)) ∙ session_next k at_open offset data_length c o came b h bytes

  -- After a packet within the wire stream that was lent the current memory, memory is that after all bytes so far.
  pub next_memory : (now : List ℕ) → now ≡ scattered at_open (drop offset.0 (places k.layout)) (emitted (receive_rule k.signature) (begun (receive_rule k.signature) None) came)
      → length now ≡ k.memory_length → (bytes : List ℕ) → length came + length bytes ≤ stream_length k.signature.wire data_length
      → memory_after_packet (session_after k offset data_length came) now bytes
      ≡ scattered at_open (drop offset.0 (places k.layout)) (emitted (receive_rule k.signature) (begun (receive_rule k.signature) None) (came ++ bytes))
  unfolding at shown
  next_memory now en e bytes l =
      let s = session_after k offset data_length came in
      memory_done s now bytes (next_answer (length now) e bytes l) ∙ rw en (memory_next k at_open offset data_length c o came b h bytes)

  -- Once all bytes have come, finish is accepted, and returns the same key as one receive.
  pub finish_key : length came ≡ stream_length k.signature.wire data_length
      → key_of (finish_result (session_after k offset data_length came)) ≡ Ok (receive_result k at_open came offset.0 data_length).key
  finish_key e =
      let s = session_after k offset data_length came in
      let t = taken-all s (came_valid k c) (opened_so k at_open offset data_length c o) came in
      ap (λ (f : FinishResult). key_of f) (sym (finish_done s (length came) (stream_length k.signature.wire data_length) (sym t) refl (omega arith) (ended_key s) refl))
      ∙ ap (λ (x : Key). Ok x) ((stands_at k at_open offset data_length c o came b h).whole e).2
