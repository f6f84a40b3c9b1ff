-- These laws are about the calls of the C API: they keep "came from the calls", and a refused one changes nothing. Both
-- follow from the laws of the crates below.
use Rattle.std.specs.Prelude.{Ok, Err}
use mathlib.Core.Path.{◌≡◌, refl, ap, sym, ◌∙◌}
use mathlib.Core.Bool.{Bool, true, false}
use mathlib.Core.List.{List}
use Prim.Native.Nat.{ℕ}
use native.Mathlib.Omega.{arith}
use lib.ListN.{length}
use Rattle.key.specs.declared.Key.{Key}
use Rattle.key.specs.declared.Configuration.{Configuration}
use Rattle.slot.specs.Slots.{Slot}
use Rattle.key.specs.Numbers.{Outcome, number, refusal_number}
use Rattle.key.specs.declared.refusal.Refusal.{Refusal}
use Rattle.key.specs.declared.refusal.Refusal.TheVariants.{BadDomain, EscapeTag, CopyMask, BlockSizes, MalformedLayout, OutsideMemory, Overlap, MemoryLength, PartialBlock, PastLayout, ShortWire, LongPacket, BytesToCome, NotConfigured, Edition}
use Rattle.key.specs.Admitting.{open_answer}
use Rattle.key.specs.Configuring.{configure_answer}
use Rattle.key.specs.Keys.{fresh_key, configure_result, configure_result_by, check_result, CameFromCalls}
use Rattle.engine.specs.declared.Progress.{Progress}
use Rattle.transfer.specs.Transferring.{answer_of, transfer_result_by, becomes, send_result, wire_after_send, receive_result, memory_after_receive}
use Rattle.packets.specs.declared.Session.{Session}
use Rattle.packets.specs.Sessions.{OpenResult}
use Rattle.packets.specs.Sessions.{opened_session, open_result, packet_answer, packet_result, packet_result_by, memory_after_packet, finish_result, finish_result_by, finish_answer, ended_key, abandon_result, SessionFromCalls}
use Rattle.cstructs.specs.declared.CConfiguration.{CConfiguration}
use Rattle.capi.specs.declared.COpenResult.{COpenResult}
use Rattle.capi.specs.declared.CFinishResult.{CFinishResult}
use Rattle.cstructs.specs.declared.CKey.{CKey}
use Rattle.cstructs.specs.declared.CSession.{CSession}
use Rattle.cstructs.specs.CStructs.{configuration_from_c, key_from_c, key_to_c, c_key_valid, session_from_c, session_to_c, c_session_valid, unsealed, no_session}
use Rattle.capi.specs.Calls.{configure_result_to_c, transfer_result_to_c, key_opened, session_opened, open_result_to_c, packet_result_to_c, finish_result_to_c, not_key, not_session, c_configure, c_send, wire_after_c_send, c_receive, memory_after_c_receive, c_open, c_packet, memory_after_c_packet, c_finish}
use Rattle.capi.specs.ThreeCases.{ActsAs, SessionActsAs}
use Rattle.capi.proofs.ThreeCases.{c_api, session_acts}
use Rattle.cstructs.proofs.Laws.{key_passes, key_back, session_passes, session_back}
use Rattle.audit.specs.CCalls.{Refuses, CKeyCame, CSessionCame, CPremiseKept, CRefused, COneGoesOn}
use Rattle.audit.proofs.Premise.{premise_kept}

-- No refusal has the number 0.
pub no_refusal : (r : Refusal) → refusal_number r ≡ 0 → ⊥
no_refusal BadDomain e = omega arith
no_refusal EscapeTag e = omega arith
no_refusal CopyMask e = omega arith
no_refusal BlockSizes e = omega arith
no_refusal MalformedLayout e = omega arith
no_refusal OutsideMemory e = omega arith
no_refusal Overlap e = omega arith
no_refusal MemoryLength e = omega arith
no_refusal PartialBlock e = omega arith
no_refusal PastLayout e = omega arith
no_refusal ShortWire e = omega arith
no_refusal LongPacket e = omega arith
no_refusal BytesToCome e = omega arith
no_refusal NotConfigured e = omega arith
no_refusal Edition e = omega arith

-- Only Ok has the number 0.
pub number_done : (o : Outcome) → number o ≡ 0 → o ≡ Ok tt
number_done (Ok tt) e = refl
number_done (Err r) e = absurd (no_refusal r e)

-- ---- what came from the calls

-- An accepted open returns the C struct of a session that came from the calls, and a refused one returns that of its
-- key.
opened_came : (k : Key) → CameFromCalls k → (n offset data_length : ℕ)
    → let a = open_result_to_c (open_result k n (record { 0 = offset }) data_length) in (a.answer ≡ 0 → CSessionCame a.session) × (Refuses a.answer → CKeyCame a.key)
opened_came k c n offset data_length = go (open_answer k n offset data_length) (λ d. premise_kept.«open» k n (record { 0 = offset }) data_length c d)
  where
    go : (o : Outcome) → (o ≡ Ok tt → SessionFromCalls (opened_session k (record { 0 = offset }) data_length))
        → let a = open_result_to_c (record { outcome = o; key = k; session = opened_session k (record { 0 = offset }) data_length }) in (a.answer ≡ 0 → CSessionCame a.session) × (Refuses a.answer → CKeyCame a.key)
    go (Ok tt) f = (λ z. record { session = opened_session k (record { 0 = offset }) data_length; came = f refl; same = refl }, λ z. absurd (z refl))
    go (Err r) f = (λ z. absurd (no_refusal r z), λ z. record { key = k; came = c; same = refl })

-- An accepted finish returns the C struct of a key that came from the calls, and a refused one returns that of a
-- session that came from them.
finished_came : (s : Session) → SessionFromCalls s → (o : Outcome)
    → let a = finish_result_to_c (finish_result_by o s) in (a.answer ≡ 0 → CKeyCame a.key) × (Refuses a.answer → CSessionCame a.session)
finished_came s c (Ok tt) = (λ z. record { key = ended_key s; came = premise_kept.abandon s c; same = refl }, λ z. absurd (z refl))
finished_came s c (Err r) = (λ z. absurd (no_refusal r z), λ z. record { session = s; came = c; same = refl })

-- Each of the nine calls keeps the premise, and the C structs of what came from the calls are valid.
pub c_premise_kept : CPremiseKept
c_premise_kept = record {
  fresh = record { key = fresh_key; came = premise_kept.fresh; same = refl };
  configure = λ r n c f. record {
    key = (configure_result f.key n (configuration_from_c c)).key;
    came = premise_kept.configure f.key n (configuration_from_c c) f.came;
    same = rw (f.same, (c_api.key_came f.key f.came).configure n c) refl;
  };
  send = λ r memory wire offset data_length f. record {
    key = (send_result f.key memory wire offset data_length).key;
    came = premise_kept.send f.key memory wire offset data_length f.came;
    same = rw (f.same, ((c_api.key_came f.key f.came).send memory wire offset data_length).0) refl;
  };
  receive = λ r memory wire offset data_length f. record {
    key = (receive_result f.key memory wire offset data_length).key;
    came = premise_kept.receive f.key memory wire offset data_length f.came;
    same = rw (f.same, ((c_api.key_came f.key f.came).receive memory wire offset data_length).0) refl;
  };
  check = λ r f. record {
    key = (check_result f.key).key;
    came = premise_kept.check f.key f.came;
    same = rw (f.same, (c_api.key_came f.key f.came).check) refl;
  };
  «open» = λ r n offset data_length f. rw (f.same, (c_api.key_came f.key f.came).«open» n offset data_length) (opened_came f.key f.came n offset data_length);
  packet = λ r memory bytes b f. record {
    session = (packet_result f.session (length memory) bytes).session;
    came = premise_kept.packet f.session (length memory) bytes b f.came;
    same = rw (f.same, ((c_api.session_came f.session f.came).packet memory bytes).0) refl;
  };
  finish = λ r f. rw (f.same, (c_api.session_came f.session f.came).finish) (finished_came f.session f.came (finish_answer f.session));
  abandon = λ r f. record {
    key = (abandon_result f.session).key;
    came = premise_kept.abandon f.session f.came;
    same = rw (f.same, (c_api.session_came f.session f.came).abandon) refl;
  };
  valid_key = λ r f. rw f.same (key_passes f.key f.came);
  valid_session = λ r f. rw f.same (session_passes f.session f.came);
}

-- ---- refused calls

-- A statement holds if it follows from either result of a test.
pub by_test : (P : Type 0) (b : Bool) → (b ≡ true → P) → (b ≡ false → P) → P
by_test P true f g = f refl
by_test P false f g = g refl

-- A refused configure returns the C struct of its key.
configured_kept : (k : Key) (n : ℕ) (c : Configuration) (o : Outcome) → let a = configure_result_to_c (configure_result_by o k n c) in Refuses a.answer → a.key ≡ key_to_c k
configured_kept k n c (Ok tt) z = absurd (z refl)
configured_kept k n c (Err r) z = refl

-- A refused transfer returns the C struct of its key and two zeros, and leaves the lent bytes.
transferred_kept : (k : Key) (taken written : ℕ) (error : Slot) (before after : List ℕ) (o : Outcome)
    → let a = transfer_result_to_c (transfer_result_by o k taken written error) in Refuses a.answer → (a.key ≡ key_to_c k) × (becomes o before after ≡ before) × (a.taken ≡ 0) × (a.written ≡ 0)
transferred_kept k taken written error before after (Ok tt) z = absurd (z refl)
transferred_kept k taken written error before after (Err r) z = (refl, refl, refl, refl)

-- A refused open returns the C struct of its key, and a C struct that is no session.
opened_kept : (a : OpenResult) (o : Outcome) → Refuses (number o) → (key_opened o a ≡ key_to_c a.key) × (session_opened o a ≡ no_session (key_to_c a.key))
opened_kept a (Ok tt) z = absurd (z refl)
opened_kept a (Err r) z = (refl, refl)

-- A refused packet returns the C struct of its session and two zeros, and leaves the lent memory.
packet_result_kept : (s : Session) (p : Progress) (before after : List ℕ) (o : Outcome)
    → let a = packet_result_to_c (packet_result_by o s p) in Refuses a.answer → (a.session ≡ session_to_c s) × (becomes o before after ≡ before) × (a.taken ≡ 0) × (a.written ≡ 0)
packet_result_kept s p before after (Ok tt) z = absurd (z refl)
packet_result_kept s p before after (Err r) z = (refl, refl, refl, refl)

-- A refused finish returns the C struct of its session, and a C struct that is no key.
pub finished_kept : (s : Session) (o : Outcome) → let a = finish_result_to_c (finish_result_by o s) in Refuses a.answer → (a.session ≡ session_to_c s) × (a.key ≡ unsealed (key_to_c s.key))
finished_kept s (Ok tt) z = absurd (z refl)
finished_kept s (Err r) z = (refl, refl)

-- The laws of this module are about refused calls on a valid C key.
module _ (r : CKey) (h : c_key_valid r ≡ true) where
  acts : ActsAs r (key_from_c r)
  acts = (c_api.valid_key r h).0

  configured : (n : ℕ) (c : CConfiguration) → Refuses (c_configure r n c).answer → (c_configure r n c).key ≡ r
  configured n c z = rw (acts.configure n c) (configured_kept (key_from_c r) n (configuration_from_c c) (configure_answer n (configuration_from_c c)) (rw (acts.configure n c) at z) ∙ key_back r h)

  sent : (memory wire : List ℕ) (offset data_length : ℕ) → let a = c_send r memory wire offset data_length in Refuses a.answer
      → (a.key ≡ r) × (wire_after_c_send r memory wire offset data_length ≡ wire) × (a.taken ≡ 0) × (a.written ≡ 0)
  unfolding send_result wire_after_send
  sent memory wire offset data_length z =
      let e = acts.send memory wire offset data_length in
      let t = transferred_kept (key_from_c r) _ _ _ wire _ (answer_of (key_from_c r) memory wire offset data_length) (rw e.0 at z) in
      rw (e.0, e.1) (t.0 ∙ key_back r h, t.1, t.2, t.3)

  received : (memory wire : List ℕ) (offset data_length : ℕ) → let a = c_receive r memory wire offset data_length in Refuses a.answer
      → (a.key ≡ r) × (memory_after_c_receive r memory wire offset data_length ≡ memory) × (a.taken ≡ 0) × (a.written ≡ 0)
  unfolding receive_result memory_after_receive
  received memory wire offset data_length z =
      let e = acts.receive memory wire offset data_length in
      let t = transferred_kept (key_from_c r) _ _ _ memory _ (answer_of (key_from_c r) memory wire offset data_length) (rw e.0 at z) in
      rw (e.0, e.1) (t.0 ∙ key_back r h, t.1, t.2, t.3)

  opened : (n offset data_length : ℕ) → let a = c_open r n offset data_length in Refuses a.answer → (a.key ≡ r) × (a.session ≡ no_session r)
  opened n offset data_length z =
      let e = acts.«open» n offset data_length in
      let t = opened_kept (open_result (key_from_c r) n (record { 0 = offset }) data_length) (open_answer (key_from_c r) n offset data_length) (rw e at z) in
      rw e (t.0 ∙ key_back r h, t.1 ∙ ap (λ (k : CKey). no_session k) (key_back r h))

-- The laws of this module are about refused calls on a valid C session.
module _ (r : CSession) (h : c_session_valid r ≡ true) where
  acts' : SessionActsAs r (session_from_c r)
  acts' = session_acts r h

  packed : (memory bytes : List ℕ) → let a = c_packet r (length memory) bytes in Refuses a.answer
      → (a.session ≡ r) × (memory_after_c_packet r memory bytes ≡ memory) × (a.taken ≡ 0) × (a.written ≡ 0)
  unfolding packet_result memory_after_packet
  packed memory bytes z =
      let e = acts'.packet memory bytes in
      let t = packet_result_kept (session_from_c r) _ memory _ (packet_answer (session_from_c r) (length memory) (length bytes)) (rw e.0 at z) in
      rw (e.0, e.1) (t.0 ∙ session_back r h, t.1, t.2, t.3)

  finished : let a = c_finish r in Refuses a.answer → (a.session ≡ r) × (a.key ≡ unsealed r.key)
  finished z =
      let t = finished_kept (session_from_c r) (finish_answer (session_from_c r)) (rw acts'.finish at z) in
      rw acts'.finish (t.0 ∙ session_back r h, t.1 ∙ ap (λ (s : CSession). unsealed s.key) (session_back r h))

-- Demand 1 holds for C, whether the struct is valid or not.
pub c_refused : CRefused
c_refused = record {
  configure = λ r n c z. by_test _ (c_key_valid r) (λ h. configured r h n c z) (λ h. rw ((c_api.invalid_key r h).configure n c) refl);
  send = λ r memory wire offset data_length z. by_test _ (c_key_valid r) (λ h. sent r h memory wire offset data_length z)
      (λ h. let e = (c_api.invalid_key r h).send memory wire offset data_length in rw (e.0, e.1) (refl, refl, refl, refl));
  receive = λ r memory wire offset data_length z. by_test _ (c_key_valid r) (λ h. received r h memory wire offset data_length z)
      (λ h. let e = (c_api.invalid_key r h).receive memory wire offset data_length in rw (e.0, e.1) (refl, refl, refl, refl));
  check = λ r z. by_test _ (c_key_valid r) (λ h. absurd (z (rw (c_api.valid_key r h).0.check refl))) (λ h. rw (c_api.invalid_key r h).check (refl, refl));
  «open» = λ r n offset data_length z. by_test _ (c_key_valid r) (λ h. opened r h n offset data_length z) (λ h. rw ((c_api.invalid_key r h).«open» n offset data_length) (refl, refl));
  packet = λ r memory bytes z. by_test _ (c_session_valid r) (λ h. packed r h memory bytes z)
      (λ h. let e = (c_api.invalid_session r h).packet memory bytes in rw (e.0, e.1) (refl, refl, refl, refl));
  finish = λ r z. by_test _ (c_session_valid r) (λ h. finished r h z) (λ h. rw (c_api.invalid_session r h).finish (refl, refl));
  abandon = λ r z. by_test _ (c_session_valid r) (λ h. absurd (z (rw (session_acts r h).abandon refl))) (λ h. rw (c_api.invalid_session r h).abandon refl);
}

-- ---- what the caller does not go on with

-- The key of an accepted open is the one that it was given, without its seal.
opened_key : (c : CKey) (n offset data_length : ℕ) → (c_open c n offset data_length).answer ≡ 0 → (c_open c n offset data_length).key ≡ unsealed c
opened_key c n offset data_length z = by_test _ (c_key_valid c) valid (λ h. absurd (not_done (ap (λ (a : COpenResult). a.answer) (sym ((c_api.invalid_key c h).«open» n offset data_length)) ∙ z)))
  where
    not_done : not_key ≡ 0 → ⊥
    not_done e = omega arith

    valid : c_key_valid c ≡ true → (c_open c n offset data_length).key ≡ unsealed c
    valid h =
        let e = (c_api.valid_key c h).0.«open» n offset data_length in
        let d = number_done (open_answer (key_from_c c) n offset data_length) (ap (λ (a : COpenResult). a.answer) (sym e) ∙ z) in
        rw (e, d) (ap (λ (k : CKey). unsealed k) (key_back c h))

-- The session of an accepted finish is not valid.
finished_session : (c : CSession) → (c_finish c).answer ≡ 0 → c_session_valid (c_finish c).session ≡ false
finished_session c z = by_test _ (c_session_valid c) valid (λ h. absurd (not_done (ap (λ (a : CFinishResult). a.answer) (sym (c_api.invalid_session c h).finish) ∙ z)))
  where
    not_done : not_session ≡ 0 → ⊥
    not_done e = omega arith

    valid : c_session_valid c ≡ true → c_session_valid (c_finish c).session ≡ false
    valid h =
        let e = (session_acts c h).finish in
        let s = session_from_c c in
        let d = number_done (finish_result s).outcome (ap (λ (a : CFinishResult). a.answer) (sym e) ∙ z) in
        rw (e, d) (c_api.no_session_invalid (key_to_c (finish_result s).key))

-- At most one of the key and the session that a call returns is valid.
pub c_one_goes_on : COneGoesOn
c_one_goes_on = record {
  opened = λ c n offset data_length. (λ z. let e = opened_key c n offset data_length z in (e, rw e (c_api.unsealed_invalid c)), λ z. rw (c_refused.«open» c n offset data_length z).1 (c_api.no_session_invalid c));
  finished = λ c. (finished_session c, λ z. rw (c_refused.finish c z).1 (c_api.unsealed_invalid c.key));
  abandoned = λ c z. rw (c_refused.abandon c z) (c_api.unsealed_invalid c.key);
}
