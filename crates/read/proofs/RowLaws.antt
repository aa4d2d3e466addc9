-- Laws of rows in a lent slice, as the code leaves them.
use Prim.Native.Nat.{ℕ, ◌+◌, ◌^◌, ◌≤◌, ◌<◌}
use mathlib.Core.Path.{◌≡◌, refl, sym, ap, ap₂, ◌∙◌}
use mathlib.Core.List.{List, [], ◌∷◌, ◌++◌, append_assoc}
use mathlib.Core.Bool.{Bool, true, false, cond, true≢false, false≢true}
use native.Mathlib.Omega.{arith}
use mir.Syntax.{w64}
use mir.Val.{Fits}
use borrow.Author.Tests.{eq-eqb, ne_eqb, lt-ltb, le-ltb}
use lib.IntN.{ℤ, pos}
use lib.ListN.{length, take, drop, set, length-append, take-append-drop}
use borrow.Rule.Slice.PartMut.{put_mid}
use Rattle.std.proofs.lemmas.Slice.{put_mid-paste}
use Rattle.std.proofs.lemmas.List.Edits.{paste-paste}
use lib.Seq.{paste, paste-zero, paste-suc, length-paste, take-paste, drop-paste, take_all, drop-drop}
use Rattle.read.proofs.ReplyLaws.{accepted_small}
use Rattle.law.specs.Rows.{width, stride, capacity, with_line}
use Rattle.walk.specs.declared.Found.{Found}
use Rattle.walk.specs.declared.Found.TheVariants.{Row, Nothing, Refused}
use Rattle.law.specs.declared.Reply.{Reply}
use Rattle.walk.specs.declared.Turn.{Turn}
use Rattle.walk.specs.declared.steps.Turns.{Turns}
use Rattle.walk.specs.Turns.{Took, Over}
use Rattle.law.specs.Answers.{limit, reply, over}
use Rattle.walk.specs.Walks.{begun, is_row, stops_by, Trace, trace_by, trace_at}
use Rattle.read.specs.Replies.{check_reply, rows_in, rows_of, placed_at, place_behind, RowRoom, read_reply, read_rows}
use Rattle.walk.proofs.TurnsLaws.{Left, over_trace, took_is, took_left, took_small, took_trace}
use Rattle.read.proofs.RowWidths.{turn_wide, lined_wide, check_counts}

-- one number put, as a list of one
put_one : (d : List ℤ) (p : ℕ) (z : ℤ) → p < length d → set d p z ≡ paste d p (z ∷ []) 1
put_one d p z h =
    let q : p + 0 ≡ p = omega arith in
    ap₂ (λ (a : List ℤ) (b : ℕ). set a b z) (paste-zero d p (z ∷ [])) (sym q) ∙ paste-suc d p (z ∷ []) 0 z (omega arith) (omega arith)

-- the numbers of a row put from a place on, and its line behind them
pub put_is : (old x ys : List ℤ) (at k line : ℕ) (z : ℤ) → at + stride ≤ length old → length x ≡ width → ys ≡ x → k ≡ width → z ≡ pos line
    → set (put_mid at k old ys) (at + width) z ≡ paste old at (with_line x (pos line)) stride
put_is old x ys at k line z r w e i j =
    let m : put_mid at k old ys ≡ paste old at x width = put_mid-paste at k old ys x width e (sym i) (sym w) in
    let l : at ≤ length old = omega arith in
    let a = put_one (paste old at x width) (at + width) (pos line) (omega (arith, length-paste old at x width (omega arith) (omega arith))) in
    rw (m, j) (a ∙ paste-paste old at x (pos line ∷ []) width 1 (sym w) refl l)

-- one row in the slice, if the line has one
module _ (at : ℕ) (t : Turn) (x : Bool) (e : x ≡ is_row t.found) where
  pub behind_row : x ≡ true → at + stride ≡ place_behind at t
  unfolding place_behind
  behind_row i = rw (sym e ∙ i)

  pub behind_none : x ≡ false → at ≡ place_behind at t
  unfolding place_behind
  behind_none i = rw (sym e ∙ i)

module _ (rows : List ℤ) (at l : ℕ) (t : Turn) (x : Bool) (e : x ≡ is_row t.found) where
  pub place_room : RowRoom rows at l t → x ≡ true → at + stride ≤ length rows
  place_room h i = h.fits (sym e ∙ i)

  pub place_line : RowRoom rows at l t → l < 2 ^ 63
  place_line h = h.small

  pub place_fits : RowRoom rows at l t → x ≡ true → length rows < 2 ^ 64 → Fits w64 (at + stride)
  place_fits h i k = omega (arith, place_room h i)

  pub placed_row : (y : List ℤ) → x ≡ true → y ≡ paste rows at (with_line t.row (pos l)) stride → y ≡ placed_at rows at l t
  unfolding placed_at
  placed_row y i h = rw (sym e ∙ i) h

  pub placed_none : x ≡ false → rows ≡ placed_at rows at l t
  unfolding placed_at
  placed_none i = rw (sym e ∙ i)

-- a slice whose front is written, and what is still to come over the rest of it
over_none : (n : ℕ) (rows : List ℤ) → take n rows ++ over [] (drop n rows) ≡ rows
over_none n rows = take-append-drop n rows

over_more : (n k : ℕ) (x rest rows : List ℤ) → length x ≡ k → n + k ≤ length rows
    → take n rows ++ over (x ++ rest) (drop n rows) ≡ take (n + k) (paste rows n x k) ++ over rest (drop (n + k) (paste rows n x k))
over_more n k x rest rows hx hn =
    let hd : n ≤ length rows = omega arith in
    let hs : k ≤ length x = omega arith in
    let hl : length x ≤ k = omega arith in
    let e : n + length (x ++ rest) ≡ n + k + length rest = omega (arith, length-append x rest) in
    let g : take n rows ++ over (x ++ rest) (drop n rows) ≡ (take n rows ++ x) ++ over rest (drop (n + k) rows) = simp (drop-drop, append_assoc, e) in
    g ∙ ap₂ (λ (a b : List ℤ). a ++ over rest b) (sym (take-paste rows n x k hd hs ∙ ap (λ (y : List ℤ). take n rows ++ y) (take_all k x hl))) (sym (drop-paste rows n x k hd hs))

pub record Placing (file : List ℕ) (old rows : List ℤ) (v : Turns) (n : ℕ) : Type 0 where
  pub of : Left file v
  pub long : length rows ≡ length old
  pub fits : n + length (rows_in (trace_at file v.walk)) ≤ length rows
  pub same : take n rows ++ over (rows_in (trace_at file v.walk)) (drop n rows) ≡ over (rows_of file) old

pub place_start : (file : List ℕ) (old : List ℤ) (v : Turns) → v.file.now ≡ file → v.walk ≡ begun → length (rows_of file) ≤ length old → Placing file old old v 0
place_start file old v f e k = record { of = record { of = f }; long = refl; fits = rw e (omega arith); same = rw e }

-- the rows of a line and of those behind it
module _ (l : ℕ) (r : List ℤ) (x : Trace) where
  rows_stop : (f : Found) → stops_by f ≡ true → rows_in (trace_by f l r x) ≡ []
  unfolding rows_in
  rows_stop Row h = absurd (false≢true h)
  rows_stop Nothing h = absurd (false≢true h)
  rows_stop (Refused n) h = refl

  rows_row : (f : Found) → is_row f ≡ true → rows_in (trace_by f l r x) ≡ with_line r (pos l) ++ rows_in x
  unfolding rows_in
  rows_row Row h = refl
  rows_row Nothing h = absurd (false≢true h)
  rows_row (Refused n) h = absurd (false≢true h)

  rows_none : (f : Found) → stops_by f ≡ false → is_row f ≡ false → rows_in (trace_by f l r x) ≡ rows_in x
  unfolding rows_in
  rows_none Row g h = absurd (true≢false h)
  rows_none Nothing g h = refl
  rows_none (Refused n) g h = absurd (true≢false g)

module _ (file : List ℕ) (old rows : List ℤ) (v : Turns) (n : ℕ) (s : Placing file old rows v n) where
  all_placed : rows_in (trace_at file v.walk) ≡ [] → rows ≡ over (rows_of file) old
  all_placed e = sym (over_none n rows) ∙ ap (λ (x : List ℤ). take n rows ++ over x (drop n rows)) (sym e) ∙ s.same

  pub place_over : (u : Turns) → Over v u → rows ≡ over (rows_of file) old
  unfolding rows_in
  place_over u o = all_placed (ap rows_in (over_trace file v s.of u o))

  module _ (t : Turn) (u : Turns) (k : Took v t u) where
    left : rows_in (trace_at file v.walk) ≡ rows_in (trace_by t.found t.line t.row (trace_at file u.walk))
    left = ap rows_in (took_trace file v s.of t u k)

    abbrev its : List ℤ
    its = with_line t.row (pos t.line)

    wide : length its ≡ stride
    wide = lined_wide t.row (pos t.line) (rw (took_is file v s.of t u k) (turn_wide file v.walk))

    row_left : is_row t.found ≡ true → rows_in (trace_at file v.walk) ≡ its ++ rows_in (trace_at file u.walk)
    row_left i = left ∙ rows_row t.line t.row (trace_at file u.walk) t.found i

    row_room : is_row t.found ≡ true → n + stride ≤ length rows
    row_room i = let f = s.fits in omega (arith, ap length (row_left i), length-append its (rows_in (trace_at file u.walk)), wide)

    pub turn_room : RowRoom rows n t.line t
    turn_room = record { small = omega (arith, took_small file v s.of t u k); fits = row_room }

    module _ (y : Bool) (i : y ≡ stops_by t.found) where
      pub place_stop : y ≡ true → rows ≡ over (rows_of file) old
      place_stop j = all_placed (left ∙ rows_stop t.line t.row (trace_at file u.walk) t.found (sym i ∙ j))

      with_row : is_row t.found ≡ true → Placing file old (paste rows n its stride) u (n + stride)
      with_row h =
          let m : stride ≤ length its = omega (arith, wide) in
          let p : length (paste rows n its stride) ≡ length rows = length-paste rows n its stride (row_room h) m in
          record {
            of = took_left file v s.of t u k;
            long = p ∙ s.long;
            fits = omega (arith, p, s.fits, ap length (row_left h), length-append its (rows_in (trace_at file u.walk)), wide);
            same = sym (over_more n stride its (rows_in (trace_at file u.walk)) rows wide (row_room h))
                ∙ ap (λ (x : List ℤ). take n rows ++ over x (drop n rows)) (sym (row_left h))
                ∙ s.same;
          }

      with_none : y ≡ false → is_row t.found ≡ false → Placing file old rows u n
      with_none j h =
          let q : rows_in (trace_at file v.walk) ≡ rows_in (trace_at file u.walk) = left ∙ rows_none t.line t.row (trace_at file u.walk) t.found (sym i ∙ j) h in
          record { of = took_left file v s.of t u k; long = s.long; fits = rw q at s.fits; same = rw q at s.same }

      pub place_more : (m : ℕ) (next : List ℤ) → y ≡ false → m ≡ place_behind n t → next ≡ placed_at rows n t.line t → Placing file old next u m
      unfolding place_behind placed_at
      place_more m next j a b = rw (a, b) (go (is_row t.found) refl)
        where
          go : (x : Bool) → is_row t.found ≡ x → Placing file old (cond x (paste rows n its stride) rows) u (cond x (n + stride) n)
          go true h = with_row h
          go false h = with_none j h

-- reading: the check, then the room, then the rows
module _ (file : List ℕ) (rows : List ℤ) (c : Reply) (e : c ≡ check_reply file) where
  pub read_refused : (c.number ≡ 0 → ⊥) → c ≡ read_reply file (length rows)
  unfolding read_reply
  read_refused h = rw (sym e, ne_eqb c.number 0 h)

  pub kept_refused : (c.number ≡ 0 → ⊥) → rows ≡ read_rows file rows
  unfolding read_rows
  kept_refused h = rw (sym (read_refused h), ne_eqb c.number 0 h)

  module _ (h : c.number ≡ 0) where
    pub read_small : length file ≤ limit
    read_small = accepted_small file c e h

    -- where the slice holds n rows
    module _ (n : ℕ) (d : n ≡ capacity (length rows)) where
      pub read_short : n < c.count → reply 2 0 c.count ≡ read_reply file (length rows)
      unfolding read_reply
      read_short i = rw (sym e, eq-eqb c.number 0 h, sym d, lt-ltb n c.count i)

      pub kept_short : n < c.count → rows ≡ read_rows file rows
      unfolding read_rows
      kept_short i = rw (sym (read_short i))

      module _ (i : c.count ≤ n) where
        pub read_room : length (rows_of file) ≤ length rows
        read_room = let k = check_counts file c e h in omega arith

        pub read_whole : c ≡ read_reply file (length rows)
        unfolding read_reply
        read_whole = rw (sym e, eq-eqb c.number 0 h, sym d, le-ltb n c.count i)

        pub put_whole : (y : List ℤ) → y ≡ over (rows_of file) rows → y ≡ read_rows file rows
        unfolding read_rows
        put_whole y k = rw (sym read_whole, eq-eqb c.number 0 h) k
