-- These laws are about the small program: its key is valid, and a wire that is received in packets has the result of
-- one receive, by demand 3.
use Rattle.std.specs.Prelude.{Result, Ok, Err}
use mathlib.Core.Path.{◌≡◌, refl, sym, ap, ◌∙◌}
use mathlib.Core.Bool.{Bool, true, false, ◌||◌, not}
use mathlib.Core.List.{List, [], ◌++◌, append_assoc, append-nil}
use Prim.Native.Nat.{ℕ, ◌+◌, ◌/◌, ◌%◌, ◌≤◌}
use native.Mathlib.Omega.{arith}
use lib.Dec.{eqb, ltb}
use lib.ListN.{length, drop, length-append}
use borrow.Author.Tests.{eq-eqb, le-ltb, eqb-true, ltb-false}
use Rattle.guard.specs.Guards.{Bytes}
use Rattle.layout.specs.Pieces.{total, places}
use Rattle.layout.proofs.MoveLaws.{scattered_none}
use Rattle.layout.proofs.PieceLaws.{one_total}
use Rattle.key.specs.declared.Key.{Key}
use Rattle.key.specs.declared.Configuration.{Configuration}
use Rattle.key.specs.declared.refusal.Refusal.{Refusal}
use Rattle.key.specs.Numbers.{Outcome}
use Rattle.key.specs.Keys.{fresh_key, configured_key, configure_result, configure_result_by, CameFromCalls, KeyValid}
use Rattle.key.specs.Configuring.{configure_answer}
use Rattle.key.specs.Streams.{stream_length}
use Rattle.key.specs.Admitting.{open_answer}
use Rattle.key.proofs.Laws.{came_fresh, came_configured, came_valid}
use Rattle.engine.specs.Feeding.{fed, emitted}
use Rattle.engine.proofs.Feeding.{bytes_first, nothing}
use Rattle.transfer.specs.Transferring.{receive_result, memory_after_receive}
use Rattle.packets.specs.declared.Session.{Session}
use Rattle.packets.specs.Sessions.{session_of, key_of, packet_answer, packet_totals, packet_result, memory_after_packet, finish_result, open_result, SessionValid}
use Rattle.packets.proofs.PacketLaws.{came_session_valid}
use Rattle.packets.proofs.RuleLaws.{session_at, stands_at}
use Rattle.packets.proofs.Following.{next_answer, next_session, next_memory, finish_key}
use Rattle.wirecheck.specs.Checking.{signature_a, configuration_a, received, bad_input}
use Rattle.wirecheck.specs.Inner.Receiving.{Receivable, Along}

-- The key `key_a m` is the program's over a memory of m bytes.
abbrev key_a : ℕ → Key
key_a m = configured_key fresh_key m configuration_a

-- An accepted configure returns the key with its new configuration.
by_done : (o : Outcome) (k : Key) (m : ℕ) (c : Configuration) → (configure_result_by o k m c).outcome ≡ Ok tt → (configure_result_by o k m c).key ≡ configured_key k m c
by_done (Ok tt) k m c e = refl
by_done (Err r) k m c e = let z : ◌≡◌ {A = ℕ} 0 1 = cc in absurd (omega arith)

module _ (k : Key) (m n : ℕ) (R : Receivable k m n) where
  key_is : k ≡ key_a m
  key_is = R.key ∙ by_done (configure_answer m configuration_a) fresh_key m configuration_a R.done

  came : CameFromCalls k
  came = rw R.key (came_configured fresh_key m configuration_a came_fresh)

  -- The key meets the precondition of the calls.
  pub key_valid_lem : KeyValid k
  key_valid_lem = came_valid k came

  -- The key has the program's signature.
  pub signed_so : k.signature ≡ signature_a
  signed_so = ap (λ (x : Key). x.signature) key_is

  -- Half of the wire is data, so n / 2 data bytes have a wire stream of n bytes.
  pub wire-length : stream_length k.signature.wire (n / 2) ≡ n
  unfolding stream_length
  wire-length = rw signed_so (omega (arith, R.whole))

  -- Open accepts half of the wire as the data length.
  pub open_done : open_answer k m 0 (n / 2) ≡ Ok tt
  unfolding open_answer stream_length
  open_done =
      let t = one_total configuration_a.layout _ _ refl refl refl in
      rw (key_is, eq-eqb m m refl, eq-eqb (n / 2 % 8) 0 (omega (arith, R.whole)), le-ltb (total configuration_a.layout) (0 + n / 2) (omega (arith, t, R.most)))

  -- The lent memory has the length that the key was configured with.
  pub memory_length : m ≡ k.memory_length
  memory_length = ap (λ (x : Key). x.memory_length) (sym key_is)

-- ---- packet by packet

module _ (k : Key) (memory wire : List ℕ) (R : Receivable k (length memory) (length wire)) (b : Bytes wire) where
  -- The session of the open and the lent memory are those after no bytes.
  along_start : (s : Session) → s ≡ (open_result k (length memory) (record { 0 = 0 }) (length wire / 2)).session → Along k memory wire s wire memory
  unfolding fed emitted
  along_start s e = record { came = []; split = refl; session = e; shown = sym (scattered_none memory (drop 0 (places k.layout))) }

  -- Open is accepted, and the loop's invariant holds after it.
  pub opened_along : (s : Session) → Ok s ≡ session_of (open_result k (length memory) (record { 0 = 0 }) (length wire / 2)) → Along k memory wire s wire memory
  opened_along s e =
      along_start s (ap (λ (r : Result Session Refusal). value r) (rw (open_done k (length memory) (length wire) R) at e))
    where
      value : Result Session Refusal → Session
      value (Ok x) = x
      value (Err r) = s

  pub opened_never : (r : Refusal) → Err r ≡ session_of (open_result k (length memory) (record { 0 = 0 }) (length wire / 2)) → ⊥
  opened_never r e =
      let f = rw (open_done k (length memory) (length wire) R) at e in
      let z : ◌≡◌ {A = ℕ} 0 1 = cc in
      omega arith

  module _ (s : Session) (rest now : List ℕ) (A : Along k memory wire s rest now) where
    fits : length A.came + length rest ≡ length wire
    fits = sym (length-append A.came rest) ∙ ap length A.split

    bytes_came : Bytes A.came
    bytes_came = bytes_first A.came rest (rw A.split b)

    short : length A.came ≤ stream_length k.signature.wire (length wire / 2)
    short = rw (wire-length k (length memory) (length wire) R) (omega (arith, fits))

    -- The session meets the precondition of packet and finish.
    pub along_session : SessionValid s
    along_session =
        rw A.session (came_session_valid _ (session_at k memory (record { 0 = 0 }) (length wire / 2) (came k _ _ R) (open_done k _ _ R) A.came bytes_came short))

    -- The laws of this module are about a packet of the next bytes of the rest.
    module _ (part others : List ℕ) (q : rest ≡ part ++ others) (m : length now ≡ length memory) where
      lent : length now ≡ k.memory_length
      lent = m ∙ memory_length k _ _ R

      -- They are within the wire stream.
      more : length A.came + length part ≤ stream_length k.signature.wire (length wire / 2)
      more = rw (wire-length k (length memory) (length wire) R) (omega (arith, fits, ap length q, length-append part others))

      -- The packet is accepted.
      pub along_answer : packet_answer s (length now) (length part) ≡ Ok tt
      along_answer =
          rw A.session (next_answer k memory (record { 0 = 0 }) (length wire / 2) (came k _ _ R) (open_done k _ _ R) A.came bytes_came short (length now) lent part more)

      pub along_never : (r : Refusal) → Err r ≡ packet_totals (packet_result s (length now) part) → ⊥
      unfolding packet_result
      along_never r e =
          let f = rw along_answer at e in
          let z : ◌≡◌ {A = ℕ} 0 1 = cc in
          omega arith

      -- It keeps the loop's invariant.
      pub along_next : (s' : Session) → s' ≡ (packet_result s (length now) part).session
          → (after : List ℕ) → after ≡ memory_after_packet s now part → Along k memory wire s' others after
      along_next s' f after g = record {
        came = A.came ++ part;
        split = append_assoc A.came part others ∙ (ap (λ (l : List ℕ). A.came ++ l) (sym q) ∙ A.split);
        session =
            f ∙ rw A.session
            (next_session k memory (record { 0 = 0 }) (length wire / 2) (came k _ _ R) (open_done k _ _ R) A.came bytes_came short (length now) lent part more);
        shown =
            g ∙ rw A.session
            (next_memory k memory (record { 0 = 0 }) (length wire / 2) (came k _ _ R) (open_done k _ _ R) A.came bytes_came short now A.shown lent part more);
      }

    -- The laws of this module hold once all bytes have come.
    module _ (e : length rest ≡ 0) where
      all : A.came ≡ wire
      all = sym (append-nil A.came) ∙ (ap (λ (l : List ℕ). A.came ++ l) (sym (nothing rest e)) ∙ A.split)

      all_came : length A.came ≡ stream_length k.signature.wire (length wire / 2)
      all_came = rw (wire-length k (length memory) (length wire) R) (omega (arith, fits))

      -- Once all bytes have come, finish returns the key of one receive.
      pub along_end : key_of (finish_result s) ≡ Ok (received k memory wire)
      along_end =
          ap (λ (x : Session). key_of (finish_result x)) A.session
          ∙ (finish_key k memory (record { 0 = 0 }) (length wire / 2) (came k _ _ R) (open_done k _ _ R) A.came bytes_came short all_came
          ∙ ap (λ (l : List ℕ). Ok (receive_result k memory l 0 (length wire / 2)).key) all)

      -- Once all bytes have come, memory is that after one receive.
      pub along_memory : now ≡ memory_after_receive k memory wire 0 (length wire / 2)
      along_memory =
          A.shown
          ∙ (((stands_at k memory (record { 0 = 0 }) (length wire / 2) (came k _ _ R) (open_done k _ _ R) A.came bytes_came short).whole all_came).1
          ∙ ap (λ (l : List ℕ). memory_after_receive k memory l 0 (length wire / 2)) all)

-- ---- the answer

-- If the input is not bad, it is not too long and does not end inside a unit.
none_of : (a b c : Bool) → a || (b || not c) ≡ false → (b ≡ false) × (c ≡ true)
none_of false false true e = (refl, refl)
none_of false false false e = let z : ◌≡◌ {A = ℕ} 0 1 = cc in absurd (omega arith)
none_of false true c e = let z : ◌≡◌ {A = ℕ} 0 1 = cc in absurd (omega arith)
none_of true b c e = let z : ◌≡◌ {A = ℕ} 0 1 = cc in absurd (omega arith)

-- If configure is accepted, the precondition of `receive_in_packets` is met.
pub check_asks : (wire : List ℕ) (more : Bool) (memory : List ℕ) → bad_input wire more ≡ false
    → (configure_result fresh_key (length memory) configuration_a).outcome ≡ Ok tt
    → Receivable (configure_result fresh_key (length memory) configuration_a).key (length memory) (length wire)
check_asks wire more memory good o =
    let p = none_of more (ltb 65536 (length wire)) (eqb (length wire % 16) 0) good in
    record { key = refl; done = o; whole = eqb-true (length wire % 16) 0 p.1; most = ltb-false 65536 (length wire) p.0 }
