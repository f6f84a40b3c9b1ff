-- Laws about cursors: which memory offsets lie ahead of a cursor after a walk, a step to the next piece, and a store.
use mathlib.Core.Path.{◌≡◌, refl, ap, sym, subst, ◌∙◌}
use mathlib.Core.List.{List, [], ◌∷◌, ◌++◌, map, append_assoc}
use Prim.Native.Nat.{ℕ, zero, suc, ◌+◌, ◌*◌, ◌-◌, ◌<◌, ◌≤◌, min}
use native.Mathlib.Decide.{dec_lt}
use native.Mathlib.Nat.{zero-mul, suc-mul, zero-add, mul-le-mul_right}
use native.Mathlib.Omega.{arith}
use borrow.Author.Rules.{part_to_end}
use borrow.Rule.Slice.PartMut.{put_mid, Post-is}
use lib.ListN.{length, take, drop, get_or, length-append, length-map, length-drop, drop_of_length-le}
use lib.Seq.{length-take-le, drop-append-le, drop-append-add, drop-cons, drop-drop, take-append-le, get_or-take}
use Rattle.layout.specs.declared.Entry.{Entry}
use Rattle.layout.specs.declared.Layout.{Layout}
use Rattle.layout.specs.declared.cursor.Cursor.{Cursor}
use Rattle.layout.specs.Pieces.{Piece, piece_end, piece_of, in_use, repeats, pieces, span, total, numbers_from, places_of, places}
use Rattle.layout.specs.Moves.{gathered, scattered, Placed}
use Rattle.layout.specs.Inner.Cursors.{next_piece, ahead, forward, InLayout, Walked, Readied, Stored, Storing}
use Rattle.layout.specs.Inner.Steps.{no_entry, no_piece}
use Rattle.layout.proofs.PieceLaws.{size_repeat, length_from, drop_from, take_from, length_places_of, length-places}
use Rattle.layout.proofs.MoveLaws.{gathered_from, scattered_none, scattered-append, scattered_run, length-scattered}
use Rattle.layout.proofs.AnswerLaws.{length-repeats, piece_at, within_at}

-- ---- memory offsets of pieces

places-append : (ps qs : List Piece) → places_of (ps ++ qs) ≡ places_of ps ++ places_of qs
unfolding places_of
places-append [] qs = refl
places-append (p ∷ ps) qs =
    ap (λ (z : List ℕ). numbers_from p.start p.count ++ z) (places-append ps qs) ∙ sym (append_assoc (numbers_from p.start p.count) (places_of ps) (places_of qs))

-- Dropping n of m consecutive offsets leaves the last m - n of them and the offsets after them.
pub drop_row : (n a m : ℕ) (qs : List ℕ) → n ≤ m → drop n (numbers_from a m ++ qs) ≡ numbers_from (a + n) (m - n) ++ qs
drop_row n a m qs h =
    drop-append-le n (numbers_from a m) qs (omega (arith, length_from a m)) ∙ ap (λ (z : List ℕ). z ++ qs) (drop_from n a m h)

-- Dropping m or more offsets drops all of m consecutive ones and the others from the offsets after them.
pub drop_past : (n a m : ℕ) (qs : List ℕ) → m ≤ n → drop n (numbers_from a m ++ qs) ≡ drop (n - m) qs
drop_past n a m qs h =
    let e : n ≡ length (numbers_from a m) + (n - m) = omega (arith, length_from a m) in
    ap (λ (k : ℕ). drop k (numbers_from a m ++ qs)) e ∙ drop-append-add (numbers_from a m) qs (n - m)

-- The first n of m consecutive offsets are n consecutive offsets.
pub take_row : (n a m : ℕ) (qs : List ℕ) → n ≤ m → take n (numbers_from a m ++ qs) ≡ numbers_from a n
take_row n a m qs h = take-append-le n (numbers_from a m) qs (omega (arith, length_from a m)) ∙ take_from n a m h

-- The offsets from piece k on are those of piece k and those of the pieces after it.
pub piece_places :
    (ps : List Piece) (k : ℕ)
    → k < length ps
    → places_of (drop k ps) ≡ numbers_from (get_or ps k no_piece).start (get_or ps k no_piece).count ++ places_of (drop (suc k) ps)
unfolding places_of
piece_places ps k h = ap (λ (z : List Piece). places_of z) (drop-cons ps k no_piece h)

-- The offsets from repeat q on are those after the bytes of q repeats.
pub repeat_places :
    (es : List Entry) (r n q : ℕ)
    → q ≤ n
    → places_of (drop (q * length es) (repeats es r n)) ≡ drop (q * span es) (places_of (repeats es r n))
unfolding repeats
repeat_places es r n zero h = rw (zero-mul (length es), zero-mul (span es))
repeat_places es r zero (suc q) h = absurd (omega arith)
repeat_places es r (suc n) (suc q) h =
    let ps = map (piece_of r) es in
    let e : suc q * length es ≡ length ps + q * length es = omega (arith, suc-mul q (length es), length-map es (piece_of r)) in
    let f : suc q * span es ≡ length (places_of ps) + q * span es = omega (arith, suc-mul q (span es), length_places_of ps, size_repeat r es) in
    rw (e, f, places-append ps (repeats es (suc r) n), drop-append-add ps (repeats es (suc r) n) (q * length es), drop-append-add (places_of ps) (places_of (repeats es (suc r) n)) (q * span es))
    (repeat_places es (suc r) n q (omega arith))

-- In these laws the layout has as many entries in use as its used count says.
module _ (l : Layout) (used : length (in_use l) ≡ l.used) where
  -- Byte x of repeat r is layout byte r * span + x.
  pub repeat_start : (r x : ℕ) → r ≤ l.repeat → drop x (places_of (drop (r * l.used + 0) (pieces l))) ≡ drop (r * span (in_use l) + x) (places l)
  repeat_start r x h =
      let e : r * l.used + 0 ≡ r * length (in_use l) = omega (arith, ap (λ (n : ℕ). r * n) used) in
      rw (e, repeat_places (in_use l) 0 l.repeat r h) (drop-drop x (r * span (in_use l)) (places l))

  -- A layout has one piece for each used entry of each repeat.
  pub how_many : length (pieces l) ≡ l.repeat * l.used
  how_many = length-repeats (in_use l) 0 l.repeat ∙ ap (λ (n : ℕ). l.repeat * n) used

  -- A cursor with no bytes left in its piece is in the layout after any number of entries of any repeat.
  pub stands_behind : (r i : ℕ) → r ≤ l.repeat → i ≤ l.used → InLayout l (record { place = record { 0 = 0 }; left = 0; entry = i; repeat = r })
  stands_behind r i h k = record { used = used; entry = k; repeat = h; inside = λ n p. omega arith }

  -- In these laws the piece is that of entry i in repeat r.
  module _ (r i : ℕ) (hr : r < l.repeat) (hi : i < l.used) where
    -- Piece r * used + i is that of entry i in repeat r.
    is_piece : get_or (pieces l) (r * l.used + i) no_piece ≡ piece_of r (get_or l.entries i no_entry)
    is_piece =
        ap (λ (n : ℕ). get_or (pieces l) (r * n + i) no_piece) (sym used)
        ∙ piece_at (in_use l) 0 l.repeat r i hr (omega (arith, used))
        ∙ ap (λ (q : ℕ). piece_of q (get_or (in_use l) i no_entry)) (zero-add r)
        ∙ ap (λ (e : Entry). piece_of r e) (get_or-take l.used l.entries i no_entry hi)

    in_pieces : r * l.used + i < length (pieces l)
    in_pieces = omega (arith, how_many, mul-le-mul_right l.used hr, suc-mul r l.used)

    -- The piece of entry i in repeat r ends within every memory that the layout lies in.
    pub piece_ends : (n : ℕ) → Placed l n → piece_end (piece_of r (get_or l.entries i no_entry)) ≤ n
    piece_ends n p = subst (λ (q : Piece). piece_end q ≤ n) is_piece (within_at n (pieces l) (r * l.used + i) p.within)

    -- The offsets from the piece of entry i in repeat r on are its own and those of the pieces after it.
    here : places_of (drop (r * l.used + i) (pieces l)) ≡ numbers_from (piece_of r (get_or l.entries i no_entry)).start (get_or l.entries i no_entry).count ++ places_of (drop (r * l.used + (i + 1)) (pieces l))
    here =
        let e : suc (r * l.used + i) ≡ r * l.used + (i + 1) = omega arith in
        rw (is_piece, e) at (piece_places (pieces l) (r * l.used + i) in_pieces)

    -- In these laws the cursor `at` is at byte y of the piece, which starts at memory offset a.
    module _ (a y : ℕ) (e : a ≡ (piece_of r (get_or l.entries i no_entry)).start) (h : y ≤ (get_or l.entries i no_entry).count) where
      abbrev at : Cursor
      at = record { place = record { 0 = a + y }; left = (get_or l.entries i no_entry).count - y; entry = i + 1; repeat = r }

      -- A cursor at byte y of a piece is in the layout.
      pub stands_at : InLayout l at
      stands_at = record { used = used; entry = omega arith; repeat = omega arith; inside = λ n p. omega (arith, piece_ends n p) }

      -- The offsets ahead of a cursor at byte y of a piece are those from byte y of the piece on.
      pub ahead_at : ahead l at ≡ drop y (places_of (drop (r * l.used + i) (pieces l)))
      ahead_at = rw e (sym (rw here (drop_row y _ _ _ h)))

      -- A cursor at byte y of a piece is at layout byte x if the offsets from both bytes on are the same.
      pub walked_at : (c : Cursor) (x : ℕ) → c ≡ at → drop y (places_of (drop (r * l.used + i) (pieces l))) ≡ drop x (places l) → Walked l x c
      walked_at c x q on = rw q (record { stands = stands_at; on = ahead_at ∙ on })

    -- Dropping all bytes of a piece or more leads into the pieces after it.
    pub pass : (y : ℕ) → (get_or l.entries i no_entry).count ≤ y
        → drop y (places_of (drop (r * l.used + i) (pieces l))) ≡ drop (y - (get_or l.entries i no_entry).count) (places_of (drop (r * l.used + (i + 1)) (pieces l)))
    pass y h = rw here (drop_past y _ _ _ h)

-- ---- the next piece

module _ (l : Layout) (c : Cursor) (s : InLayout l c) where
  -- If nothing is left of a cursor's piece, the offsets ahead of it are those of the next pieces.
  pub all_next : c.left ≡ 0 → ahead l c ≡ places_of (drop (next_piece l c) (pieces l))
  unfolding numbers_from
  all_next e = rw e refl

  -- If bytes lie ahead of a cursor and none is left of its piece, there is a next piece.
  pub more_pieces : c.left ≡ 0 → 0 < length (ahead l c) → next_piece l c < length (pieces l)
  unfolding places_of
  more_pieces e h = go (dec_lt (next_piece l c) (length (pieces l)))
    where
      go : Dec (next_piece l c < length (pieces l)) → next_piece l c < length (pieces l)
      go (yes k) = k
      go (no k) = absurd (omega (arith, ap length (all_next e ∙ ap (λ (z : List Piece). places_of z) (drop_of_length-le (pieces l) {i = next_piece l c} (omega (arith, k))))))

  module _ (n : ℕ) (h : n ≤ c.left) where
    -- A cursor that moves forward in its piece stays in the layout.
    pub forward_stands : InLayout l (forward c n)
    forward_stands = record { used = s.used; entry = s.entry; repeat = s.repeat; inside = λ m p. omega (arith, s.inside m p) }

    -- Moving a cursor n bytes forward in its piece drops the first n of the offsets ahead of it.
    pub forward-ahead : ahead l (forward c n) ≡ drop n (ahead l c)
    forward-ahead = sym (drop_row n c.place.0 c.left (places_of (drop (next_piece l c) (pieces l))) h)

-- ---- scatter's loop

module _ (l : Layout) (c : Cursor) (before bytes : List ℕ) where
  -- If the rest is empty, all bytes have been stored.
  pub storing_end : (d : Cursor) (mid rest : List ℕ) → length rest ≡ 0 → Storing l c before bytes d mid rest → Stored l c before bytes d mid
  storing_end d mid [] e g = record { stands = g.stands; on = g.on; memory = sym (scattered_none mid (ahead l d)) ∙ g.memory }
  storing_end d mid (b ∷ rest) e g = absurd (omega arith)

  -- In a turn of the loop, the first n bytes of the rest are copied to the piece of cursor e, which is at the position
  -- of cursor d and has bytes left in its piece.
  module _ (d e : Cursor) (mid rest : List ℕ) (g : Storing l c before bytes d mid rest) (r : Readied l d e) (n : ℕ) (least : n ≡ min e.left (length rest)) where
    -- `after ys` is the memory with ys copied to the piece.
    abbrev after : List ℕ → List ℕ
    after ys = put_mid e.place.0 (e.place.0 + n - e.place.0) mid ys

    -- A turn of the loop keeps the invariant `Storing`.
    pub storing_turn :
        (ys : List ℕ)
        → e.place.0 + e.left ≤ length mid
        → ys ≡ take n rest
        → length (after ys) ≡ length before
        → Storing l c before bytes (forward e n) (after ys) (take (length rest - n) (drop n rest))
    storing_turn ys w f size =
        let a = e.place.0 in
        let h : n ≤ e.left = omega arith in
        let q : ahead l (forward e n) ≡ drop n (ahead l e) = forward-ahead l e r.stands n h in
        let k : length (take (length rest - n) (drop n rest)) ≡ length rest - n = rw part_to_end (length-drop n rest) in
        let s : n + (length rest - n) ≡ length rest = omega arith in
        let m : scattered (after ys) (ahead l (forward e n)) (take (length rest - n) (drop n rest)) ≡ scattered mid (ahead l e) rest =
        rw (Post-is a (a + n) mid (omega arith), part_to_end rest n, q, f)
        (sym (scattered_run mid (ahead l e) rest a n (take_row n a e.left _ h) (omega arith) (omega (arith, w)))) in
        record {
          stands = forward_stands l e r.stands n h;
          room = rw (k, q, length-drop n (ahead l e), r.same) (omega (arith, g.room));
          on = rw (k, q, drop-drop (length rest - n) n (ahead l e), s, r.same) g.on;
          memory = m ∙ ap (λ (ps : List ℕ). scattered mid ps rest) r.same ∙ g.memory;
          size = size;
        }

-- ---- stores one after another

-- Storing no bytes leaves the cursor and the memory as they are.
pub stored_nothing : (l : Layout) (c : Cursor) (before : List ℕ) → InLayout l c → Stored l c before [] c before
stored_nothing l c before s = record { stands = s; on = refl; memory = sym (scattered_none before (ahead l c)) }

-- Storing xs and then ys is storing xs ++ ys.
pub stored_append :
    (l : Layout) (c d e : Cursor) (before mid after xs ys : List ℕ)
    → Stored l c before xs d mid
    → Stored l d mid ys e after
    → Stored l c before (xs ++ ys) e after
stored_append l c d e before mid after xs ys a b =
    record {
      stands = b.stands;
      on = b.on ∙ rw (a.on, length-append xs ys) (drop-drop (length ys) (length xs) (ahead l c));
      memory = b.memory ∙ rw (a.on, a.memory) (sym (scattered-append before (ahead l c) xs ys));
    }

-- Storing bytes does not change the length of the memory.
pub stored_size : {l : Layout} {c d : Cursor} {before after xs : List ℕ} → Stored l c before xs d after → length after ≡ length before
stored_size {l} {c} {d} {before} {after} {xs} s = ap length s.memory ∙ length-scattered before (ahead l c) xs

-- Once xs, the first bytes of the rest, have been stored, the invariant holds with the bytes after xs as the rest.
pub storing_on :
    (l : Layout) (c : Cursor) (before bytes : List ℕ) (d e : Cursor) (mid mid' xs ys : List ℕ)
    → Storing l c before bytes d mid (xs ++ ys)
    → Stored l d mid xs e mid'
    → Storing l c before bytes e mid' ys
storing_on l c before bytes d e mid mid' xs ys g s =
    record {
      stands = s.stands;
      room = rw (s.on, length-drop (length xs) (ahead l d)) (omega (arith, g.room, length-append xs ys));
      on = rw (s.on, drop-drop (length ys) (length xs) (ahead l d), ← length-append xs ys) g.on;
      memory = rw (s.on, s.memory) (sym (scattered-append mid (ahead l d) xs ys) ∙ g.memory);
      size = stored_size s ∙ g.size;
    }

-- ---- the bytes left of a piece

module _ (l : Layout) (c : Cursor) (m : List ℕ) (s : InLayout l c) (p : Placed l (length m)) where
  -- The bytes left of a cursor's piece are those at the first offsets ahead of it.
  pub run_gathered : take c.left (drop c.place.0 m) ≡ gathered m (take c.left (ahead l c))
  run_gathered =
      sym (ap (λ (ps : List ℕ). gathered m ps) (take_row c.left c.place.0 c.left (places_of (drop (next_piece l c) (pieces l))) (omega arith)) ∙ gathered_from m c.place.0 c.left (s.inside (length m) p))

  -- The memory holds all bytes that are left of a cursor's piece.
  pub run_length : length (take c.left (drop c.place.0 m)) ≡ c.left
  run_length = length-take-le c.left (drop c.place.0 m) (rw (length-drop c.place.0 m) (omega (arith, s.inside (length m) p)))

-- As many bytes lie ahead of a cursor at layout byte x as the layout has from byte x on.
module _ (l : Layout) (x : ℕ) (c : Cursor) (w : Walked l x c) where
  pub walked_left : length (ahead l c) ≡ total l - x
  walked_left = ap length w.on ∙ length-drop x (places l) ∙ ap (λ (n : ℕ). n - x) (length-places l)
