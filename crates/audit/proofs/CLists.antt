-- These laws prove demand 3 for C: a list of calls on C structs corresponds to a list of calls of the crates below,
-- which follows the packet rule.
use Rattle.std.specs.Prelude.{Ok, Err}
use mathlib.Core.Path.{◌≡◌, refl, ap, sym, ◌∙◌}
use mathlib.Core.List.{List, [], ◌∷◌, map}
use Prim.Native.Nat.{ℕ}
use lib.ListN.{length}
use Rattle.key.specs.Numbers.{Outcome, number}
use Rattle.key.specs.declared.refusal.Refusal.{Refusal}
use Rattle.key.specs.Admitting.{open_answer}
use Rattle.engine.specs.declared.Progress.{Progress}
use Rattle.engine.specs.Feeding.{fed}
use Rattle.packets.specs.declared.Session.{Session}
use Rattle.packets.specs.Sessions.{rule_of, packet_answer, packet_result_by, open_result, packet_result, finish_result, finish_result_by, finish_answer, abandon_result, SessionFromCalls}
use Rattle.packets.specs.PacketRule.{Call}
use Rattle.packets.specs.Lists.{Made, played}
use Rattle.packets.proofs.Following.{played_made, packets_follow_the_rule}
use Rattle.cstructs.specs.declared.CSession.{CSession}
use Rattle.capi.specs.declared.COpenResult.{COpenResult}
use Rattle.capi.specs.declared.CPacketResult.{CPacketResult}
use Rattle.capi.specs.declared.CFinishResult.{CFinishResult}
use Rattle.cstructs.specs.CStructs.{key_to_c, session_to_c}
use Rattle.capi.specs.Calls.{packet_result_to_c, finish_result_to_c, abandon_result_to_c, c_open}
use Rattle.capi.specs.ThreeCases.{SessionActsAs}
use Rattle.capi.proofs.ThreeCases.{c_api}
use Rattle.audit.specs.CCalls.{Refuses}
use Rattle.audit.specs.CLists.{CCall, CMade, to_c, CDemand3, CEveryListIsMade}
use Rattle.audit.proofs.Premise.{premise_kept}
use Rattle.audit.proofs.CCalls.{no_refusal, number_done, finished_kept}

-- A refused outcome has a refusal.
record Refusing (o : Outcome) : Type 0 where
  pub by : Refusal
  pub told : o ≡ Err by

-- An outcome whose number is not 0 is refused.
refusing : (o : Outcome) → Refuses (number o) → Refusing o
refusing (Ok tt) z = absurd (z refl)
refusing (Err r) z = record { by = r; told = refl }

-- A refused packet returns the session as it was.
packet_result_same : (s : Session) (n : ℕ) (bytes : List ℕ) → Refuses (number (packet_result s n bytes).outcome) → (packet_result s n bytes).session ≡ s
unfolding packet_result
packet_result_same s n bytes = go (packet_answer s n (length bytes)) (fed (rule_of s) s.progress bytes)
  where
    go : (o : Outcome) (p : Progress) → Refuses (number (packet_result_by o s p).outcome) → (packet_result_by o s p).session ≡ s
    go (Ok tt) p z = absurd (z refl)
    go (Err r) p z = refl

-- Finish returns the session as it was.
finished_same : (s : Session) → (finish_result s).session ≡ s
finished_same s = go (finish_answer s)
  where
    go : (o : Outcome) → (finish_result_by o s).session ≡ s
    go (Ok tt) = refl
    go (Err r) = refl

-- The list of calls on C structs corresponds to a list of calls of the crates below that can be made.
record Below (s : Session) (now : List ℕ) (calls : List CCall) : Type 0 where
  pub below : List Call
  pub made : Made s now below
  pub same : calls ≡ map to_c below

made_on : {s s' : Session} {now : List ℕ} {calls : List Call} → s' ≡ s → Made s now calls → Made s' now calls
made_on e m = rw e m

one_more : {a b : CCall} {more more' : List CCall} → a ≡ b → more ≡ more' → (a ∷ more) ≡ (b ∷ more')
one_more e f = rw (e, f) refl

-- Each call on the C struct of a session returns what the call on the session returns.
module _ (s : Session) (c : SessionFromCalls s) (r : CSession) (e : r ≡ session_to_c s) where
  acts : SessionActsAs r s
  acts = rw e (c_api.session_came s c)

-- Every list of calls on C structs that can be made corresponds to a list of calls of the crates below.
below : (s : Session) → SessionFromCalls s → (now : List ℕ) (r : CSession) (calls : List CCall) → r ≡ session_to_c s → CMade r now calls → Below s now calls
unfolding to_c
below s c now r calls e CMade.stops = record { below = []; made = Made.stops; same = refl }
below s c now r calls e (CMade.accepted bytes answer after {calls = more} b ea em z rest) =
    let p = packet_result s (length now) bytes in
    let t = (acts s c r e).packet now bytes in
    let l = below p.session (premise_kept.packet s (length now) bytes b c) after answer.session more (ap (λ (a : CPacketResult). a.session) (ea ∙ t.0)) rest in
    record {
      below = Call.packet now bytes p after ∷ l.below;
      made = Made.accepted bytes p after b refl (em ∙ t.1) (number_done p.outcome (ap (λ (a : CPacketResult). a.answer) (sym (ea ∙ t.0)) ∙ z)) l.made;
      same = one_more (ap (λ (a : CPacketResult). CCall.packet now bytes a after) (ea ∙ t.0)) l.same;
    }
below s c now r calls e (CMade.refused lent bytes answer after {calls = more} ea em z rest) =
    let p = packet_result s (length lent) bytes in
    let t = (acts s c r e).packet lent bytes in
    let n : Refuses (number p.outcome) = rw (ea ∙ t.0) at z in
    let k = packet_result_same s (length lent) bytes n in
    let w = refusing p.outcome n in
    let l = below s c now answer.session more (ap (λ (a : CPacketResult). a.session) (ea ∙ t.0) ∙ ap (λ (x : Session). session_to_c x) k) rest in
    record {
      below = Call.packet lent bytes p after ∷ l.below;
      made = Made.refused lent bytes p after w.by refl (em ∙ t.1) w.told (made_on k l.made);
      same = one_more (ap (λ (a : CPacketResult). CCall.packet lent bytes a after) (ea ∙ t.0)) l.same;
    }
below s c now r calls e (CMade.early answer {calls = more} ea z rest) =
    let f = finish_result s in
    let t = ea ∙ (acts s c r e).finish in
    let n : Refuses (number f.outcome) = rw t at z in
    let w = refusing f.outcome n in
    let l = below s c now answer.session more (ap (λ (a : CFinishResult). a.session) t ∙ (finished_kept s (finish_answer s) n).0) rest in
    record {
      below = Call.finish f ∷ l.below;
      made = Made.early f w.by refl w.told (made_on (finished_same s) l.made);
      same = one_more (ap (λ (a : CFinishResult). CCall.finish a) t) l.same;
    }
below s c now r calls e (CMade.finished answer ea z) =
    let f = finish_result s in
    let t = ea ∙ (acts s c r e).finish in
    record { below = Call.finish f ∷ []; made = Made.finished f refl (number_done f.outcome (ap (λ (a : CFinishResult). a.answer) (sym t) ∙ z)); same = rw t refl }
below s c now r calls e (CMade.abandoned answer ea) = record {
  below = Call.abandon (abandon_result s) ∷ [];
  made = Made.abandoned (abandon_result s) refl;
  same = rw (ea ∙ (acts s c r e).abandon) refl;
}

-- Demand 3 holds for C.
pub c_demand3 : CDemand3
c_demand3 k memory offset data_length c z calls m =
    let s = open_result k (length memory) (record { 0 = offset }) data_length in
    let e = (c_api.key_came k c).«open» (length memory) offset data_length in
    let d = number_done (open_answer k (length memory) offset data_length) (ap (λ (a : COpenResult). a.answer) (sym e) ∙ z) in
    let es : (c_open (key_to_c k) (length memory) offset data_length).session ≡ session_to_c s.session = rw (e, d) refl in
    let l = below s.session (premise_kept.«open» k (length memory) (record { 0 = offset }) data_length c d) memory (c_open (key_to_c k) (length memory) offset data_length).session calls es m in
    record { below = l.below; same = l.same; follows = packets_follow_the_rule k memory (record { 0 = offset }) data_length c s refl d l.below l.made }

-- ---- lists that can be made

-- If a session came from the calls, so did an equal one.
came_too : {s s' : Session} → s' ≡ s → SessionFromCalls s → SessionFromCalls s'
came_too e c = rw e c

c_made_on : {c c' : CSession} {now : List ℕ} {calls : List CCall} → c' ≡ c → CMade c now calls → CMade c' now calls
c_made_on e m = rw e m

-- A refused outcome has a number that is not 0.
refuses : (o : Outcome) (r : Refusal) → o ≡ Err r → Refuses (number o)
refuses o r e z = no_refusal r (ap number (sym e) ∙ z)

-- A list of calls of the crates below that can be made corresponds to a list of C calls that can be made.
c_made : (s : Session) → SessionFromCalls s → (now : List ℕ) (calls : List Call) → Made s now calls → CMade (session_to_c s) now (map to_c calls)
unfolding to_c
c_made s c now calls Made.stops = CMade.stops
c_made s c now calls (Made.accepted bytes answer after {calls = more} b ea em eo rest) =
    let t = (c_api.session_came s c).packet now bytes in
    let k : SessionFromCalls answer.session = rw ea (premise_kept.packet s (length now) bytes b c) in
    CMade.accepted bytes (packet_result_to_c answer) after b (ap packet_result_to_c ea ∙ sym t.0) (em ∙ sym t.1) (ap number eo) (c_made answer.session k after more rest)
c_made s c now calls (Made.refused lent bytes answer after r {calls = more} ea em eo rest) =
    let t = (c_api.session_came s c).packet lent bytes in
    let n = refuses answer.outcome r eo in
    let same : answer.session ≡ s = rw ea (packet_result_same s (length lent) bytes (rw ea at n)) in
    CMade.refused lent bytes (packet_result_to_c answer) after (ap packet_result_to_c ea ∙ sym t.0) (em ∙ sym t.1) n (c_made answer.session (came_too same c) now more rest)
c_made s c now calls (Made.early answer r {calls = more} ea eo rest) =
    let same : answer.session ≡ s = rw ea (finished_same s) in
    let e : (finish_result_to_c answer).session ≡ session_to_c answer.session = rw eo refl in
    CMade.early (finish_result_to_c answer) (ap finish_result_to_c ea ∙ sym (c_api.session_came s c).finish) (refuses answer.outcome r eo) (c_made_on e (c_made answer.session (came_too same c) now more rest))
c_made s c now calls (Made.finished answer ea eo) =
    CMade.finished (finish_result_to_c answer) (ap finish_result_to_c ea ∙ sym (c_api.session_came s c).finish) (ap number eo)
c_made s c now calls (Made.abandoned answer ea) = CMade.abandoned (abandon_result_to_c answer) (ap abandon_result_to_c ea ∙ sym (c_api.session_came s c).abandon)

-- Every list of requests leads to a list of C calls that can be made.
pub c_every_list_is_made : CEveryListIsMade
c_every_list_is_made s c now requests b = c_made s c now (played s now requests) (played_made s now requests b)
