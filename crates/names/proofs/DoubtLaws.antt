-- Laws of the marks that the lines of a file leave, of the doubtful names among them, and of the walk that decides on these.
use Prim.Native.Nat.{ℕ, ◌≤◌, ◌<◌}
use mathlib.Core.Path.{◌≡◌, refl, sym, ap, ap₂, ◌∙◌}
use mathlib.Core.List.{List}
use mathlib.Core.Bool.{Bool, true, false, cond, ◌&&◌, ◌||◌, true≢false, false≢true, and_assoc}
use native.Mathlib.Omega.{arith}
use borrow.Author.Tests.{lt-ltb, le-ltb}
use lib.IntN.{ℤ}
use lib.ListN.{length}
use Rattle.rows_texts.proofs.NameLaws.{same_key}
use Rattle.rows.specs.RowKinds.{leads_component}
use Rattle.rows_texts.specs.Names.{same_names, key_of}
use Rattle.basics.proofs.Bools.{or_left, or_right}
use Rattle.names_slots.specs.Marks.{may_hold}
use Rattle.walk.specs.declared.Found.{Found}
use Rattle.walk.specs.declared.Found.TheVariants.{Row, Nothing, Refused}
use Rattle.walk.specs.declared.Walk.{Walk}
use Rattle.walk.specs.declared.Turn.{Turn}
use Rattle.walk.specs.declared.steps.Turns.{Turns}
use Rattle.walk.specs.Turns.{Took, Over}
use Rattle.walk.specs.Walks.{begun, stops_by, is_row, Trace, trace_by, trace_at, trace_of}
use Rattle.walk.proofs.TurnsLaws.{Left, over_trace, took_left, took_line, took_next, took_trace}
use Rattle.names.specs.Names.{is_named, used_in, is_used, repeat_in, repeat_of}
use Rattle.names.specs.Marks.{held_if, marked_if, repeats_among, repeat_among, Telling, Doubted}
use Rattle.names.proofs.NameLaws.{used_on, used_late, repeat_on}
use Rattle.names.proofs.KeyLaws.{marked_if_length, marked_keeps, marked_here, marked_not, not_used, among_all}

-- a name that is asked for and has no mark comes in what is left, if at all
pub record Marking (file : List ℕ) (p : ℕ → Bool) (w : Walk) (marks : List ℕ) : Type 0 where
  pub room : 0 < length marks
  pub clear : (n : ℕ) (x : List ℤ) → w.line ≤ n → p (key_of file x) ≡ true → may_hold marks (key_of file x) ≡ false → used_in file n x (trace_at file w) ≡ is_used file n x

marking_start : (file : List ℕ) (p : ℕ → Bool) (w : Walk) (marks : List ℕ) → 0 < length marks → w ≡ begun → Marking file p w marks
marking_start file p w marks l e = record { room = l; clear = λ n x a b c. rw e }

-- one line more takes no mark away, and marks the name that it has, if it is asked for
module _ (file : List ℕ) (p : ℕ → Bool) (v : Turns) (marks : List ℕ) (s : Marking file p v.walk marks) (g : Left file v) (t : Turn) (u : Turns) (k : Took v t u) where
  marking_tells : (x : List ℤ) → p (key_of file x) ≡ true → may_hold marks (key_of file x) ≡ false → is_used file t.line x ≡ false
  marking_tells x a c =
      sym (s.clear t.line x (omega (arith, took_line file v g t u k)) a c)
      ∙ ap (used_in file t.line x) (took_trace file v g t u k)
      ∙ used_late file t.line t.line x t.row (trace_at file u.walk) t.found (le-ltb t.line t.line (omega arith))

  module _ (q : stops_by t.found ≡ false) (b : Bool) (f : is_named t ≡ true → p (key_of file t.row) ≡ true → b ≡ true) where
    module _ (ys : List ℕ) (m : ys ≡ marked_if b marks (key_of file t.row)) where
      clear_here : (x : List ℤ) → p (key_of file x) ≡ true → may_hold ys (key_of file x) ≡ false
          → (is_row t.found && (leads_component t.row && same_names file t.row file x)) ≡ false
      unfolding is_named
      clear_here x a c =
          sym (and_assoc (is_row t.found) (leads_component t.row) (same_names file t.row file x))
          ∙ marked_not b marks ys (key_of file t.row) s.room m (is_row t.found && leads_component t.row) (same_names file t.row file x) (key_of file x)
          (same_key file t.row file x) (λ i j. f i (ap p (same_key file t.row file x j) ∙ a)) c

      marking_more : Marking file p u.walk ys
      marking_more = record {
        room = rw (marked_if_length b marks ys (key_of file t.row) m) s.room;
        clear = λ n x l a c.
            let i : t.line < n = omega (arith, took_next file v g t u k) in
            let j : v.walk.line ≤ n = omega (arith, took_line file v g t u k) in
            sym (ap (used_in file n x) (took_trace file v g t u k)
            ∙ used_on file n t.line x t.row (trace_at file u.walk) t.found q (lt-ltb t.line n i) (clear_here x a c))
            ∙ s.clear n x j a (marked_keeps b marks ys (key_of file t.row) s.room m (key_of file x) c);
      }

-- among doubtful names that hold all that are used here, a line is what it is among all
module _ (file es : List ℕ) (l : ℕ) (x : List ℤ) (t : Trace) (i : repeat_among file es t ≡ repeat_in file t) where
  agree_on : (f : Found) → (may_hold es (key_of file x) ≡ false → ((is_row f && leads_component x) && is_used file l x) ≡ false)
      → repeat_among file es (trace_by f l x t) ≡ repeat_in file (trace_by f l x t)
  unfolding repeat_among repeat_in
  agree_on Row k = ap₂ (λ (c : Bool) (z : ℕ). cond c l z) (among_all (leads_component x) (may_hold es (key_of file x)) (is_used file l x) k) i
  agree_on Nothing k = i
  agree_on (Refused m) k = refl

agree_stop : (file es : List ℕ) (l : ℕ) (x : List ℤ) (t : Trace) (f : Found) → stops_by f ≡ true → repeat_among file es (trace_by f l x t) ≡ repeat_in file (trace_by f l x t)
unfolding repeat_among repeat_in
agree_stop file es l x t Row h = absurd (false≢true h)
agree_stop file es l x t Nothing h = absurd (false≢true h)
agree_stop file es l x t (Refused m) h = refl

none_stop : (file : List ℕ) (l : ℕ) (x : List ℤ) (t : Trace) (f : Found) → stops_by f ≡ true → repeat_in file (trace_by f l x t) ≡ 0
unfolding repeat_in
none_stop file l x t Row h = absurd (false≢true h)
none_stop file l x t Nothing h = absurd (false≢true h)
none_stop file l x t (Refused m) h = refl

-- a walk that marks every name, and among the doubtful those that may have come before; d tells whether there were any
pub record Doubting (file : List ℕ) (w : Walk) (d : Bool) (marks ds : List ℕ) : Type 0 where
  pub marking : Marking file (λ (q : ℕ). true) w marks
  pub room : 0 < length ds
  pub among : (es : List ℕ) → ((q : ℕ) → may_hold es q ≡ false → may_hold ds q ≡ false) → repeat_among file es (trace_at file w) ≡ repeat_in file (trace_at file w)
      → repeat_among file es (trace_of file) ≡ repeat_of file
  pub none : d ≡ false → repeat_in file (trace_at file w) ≡ repeat_of file

pub doubt_start : (file : List ℕ) (w : Walk) (marks ds : List ℕ) → 0 < length marks → 0 < length ds → w ≡ begun → Doubting file w false marks ds
doubt_start file w marks ds l k e = record {
  marking = marking_start file (λ (q : ℕ). true) w marks l e;
  room = k;
  among = λ es c i. rw e at i;
  none = λ i. rw e;
}

module _ (file : List ℕ) (v : Turns) (d : Bool) (marks ds : List ℕ) (s : Doubting file v.walk d marks ds) (g : Left file v) where
  pub doubt_over : (u : Turns) → Over v u → Doubted file ds d
  unfolding repeat_among repeat_in
  doubt_over u o = record {
    among = s.among ds (λ q c. c) (ap (repeat_among file ds) (over_trace file v g u o) ∙ sym (ap (repeat_in file) (over_trace file v g u o)));
    none = λ k. sym (s.none k) ∙ ap (repeat_in file) (over_trace file v g u o);
  }

  module _ (t : Turn) (u : Turns) (k : Took v t u) where
    pub doubt_stop : stops_by t.found ≡ true → Doubted file ds d
    doubt_stop q = record {
      among = s.among ds (λ q c. c)
          (ap (repeat_among file ds) (took_trace file v g t u k)
          ∙ agree_stop file ds t.line t.row (trace_at file u.walk) t.found q
          ∙ sym (ap (repeat_in file) (took_trace file v g t u k)));
      none = λ i. sym (s.none i) ∙ ap (repeat_in file) (took_trace file v g t u k) ∙ none_stop file t.line t.row (trace_at file u.walk) t.found q;
    }

    module _ (r : stops_by t.found ≡ false) where
      -- a name that is not doubtful was not used
      unused : held_if (is_named t) marks (key_of file t.row) ≡ false → ((is_row t.found && leads_component t.row) && is_used file t.line t.row) ≡ false
      unfolding held_if is_named
      unused c =
          not_used (is_row t.found && leads_component t.row) (may_hold marks (key_of file t.row)) (is_used file t.line t.row) c
          (marking_tells file (λ (q : ℕ). true) v marks s.marking g t u k t.row refl)

      module _ (es : List ℕ) (i : es ≡ marked_if (held_if (is_named t) marks (key_of file t.row)) ds (key_of file t.row)) where
        pub doubt_more : (z : Bool) (ys : List ℕ) → z ≡ held_if (is_named t) marks (key_of file t.row) → ys ≡ marked_if (is_named t) marks (key_of file t.row)
            → Doubting file u.walk (d || z) ys es
        doubt_more z ys j m =
            let key : ℕ = key_of file t.row in
            let doubt : Bool = held_if (is_named t) marks key in
            record {
              marking = marking_more file (λ (q : ℕ). true) v marks s.marking g t u k r (is_named t) (λ a b. a) ys m;
              room = rw (marked_if_length doubt ds es key i) s.room;
              among = λ fs c a. s.among fs (λ q b. marked_keeps doubt ds es key s.room i q (c q b))
                  (ap (repeat_among file fs) (took_trace file v g t u k)
                  ∙ agree_on file fs t.line t.row (trace_at file u.walk) a t.found (λ b. unused (marked_here doubt ds es key s.room i (c key b)))
                  ∙ sym (ap (repeat_in file) (took_trace file v g t u k)));
              none = λ a.
                  sym (repeat_on file t.line t.row (trace_at file u.walk) t.found r (unused (sym j ∙ or_right d z a)))
                  ∙ sym (ap (repeat_in file) (took_trace file v g t u k))
                  ∙ s.none (or_left d z a);
            }

-- a line that names a doubtful component as one before it did
module _ (file ds : List ℕ) (l : ℕ) (x : List ℤ) (t : Trace) where
  among_on : (f : Found) → stops_by f ≡ false → ((is_row f && leads_component x) && (may_hold ds (key_of file x) && is_used file l x)) ≡ false
      → repeat_among file ds (trace_by f l x t) ≡ repeat_among file ds t
  unfolding repeat_among
  among_on Row h c = rw c
  among_on Nothing h c = refl
  among_on (Refused m) h c = absurd (true≢false h)

  among_here : (f : Found) → ((is_row f && leads_component x) && (may_hold ds (key_of file x) && is_used file l x)) ≡ true → repeat_among file ds (trace_by f l x t) ≡ l
  unfolding repeat_among
  among_here Row c = rw c
  among_here Nothing c = absurd (false≢true c)
  among_here (Refused m) c = absurd (false≢true c)

  among_none : (f : Found) → stops_by f ≡ true → repeat_among file ds (trace_by f l x t) ≡ 0
  unfolding repeat_among
  among_none Row h = absurd (false≢true h)
  among_none Nothing h = absurd (false≢true h)
  among_none (Refused m) h = refl

-- a walk that decides on doubtful names: what is left of the file has the first that is used twice
pub record Deciding (file ds marks₀ marks : List ℕ) (v : Turns) : Type 0 where
  pub of : Left file v
  pub few : 0 < length ds
  pub left : repeat_among file ds (trace_at file v.walk) ≡ repeat_among file ds (trace_of file)
  pub marking : Marking file (may_hold ds) v.walk marks
  pub long : length marks ≡ length marks₀

pub decide_start : (file ds marks : List ℕ) (v : Turns) → v.file.now ≡ file → v.walk ≡ begun → 0 < length ds → 0 < length marks → Deciding file ds marks marks v
decide_start file ds marks v f e k l = record {
  of = record { of = f };
  few = k;
  left = rw e;
  marking = marking_start file (may_hold ds) v.walk marks l e;
  long = refl;
}

module _ (file ds marks₀ marks : List ℕ) (v : Turns) (s : Deciding file ds marks₀ marks v) where
  pub decide_marked : (b : Bool) (h : ℕ) (ys : List ℕ) → ys ≡ marked_if b marks h → length ys ≡ length marks₀
  decide_marked b h ys e = marked_if_length b marks ys h e ∙ s.long

  pub decide_over : (u : Turns) → Over v u → 0 ≡ repeat_among file ds (trace_of file)
  unfolding repeat_among
  decide_over u o = sym (ap (repeat_among file ds) (over_trace file v s.of u o)) ∙ s.left

  module _ (t : Turn) (u : Turns) (k : Took v t u) where
    pub decide_tells : Telling file t.line ds marks
    decide_tells = record {
      few = s.few;
      room = s.marking.room;
      clear = marking_tells file (may_hold ds) v marks s.marking s.of t u k;
    }

    module _ (x : Bool) (i : x ≡ stops_by t.found) where
      traced : repeat_among file ds (trace_by t.found t.line t.row (trace_at file u.walk)) ≡ repeat_among file ds (trace_of file)
      traced = sym (ap (repeat_among file ds) (took_trace file v s.of t u k)) ∙ s.left

      pub decide_stop : x ≡ true → 0 ≡ repeat_among file ds (trace_of file)
      decide_stop j = sym (among_none file ds t.line t.row (trace_at file u.walk) t.found (sym i ∙ j)) ∙ traced

      module _ (z : Bool) (c : z ≡ repeats_among file ds t.line t) where
        pub decide_found : z ≡ true → t.line ≡ repeat_among file ds (trace_of file)
        unfolding repeats_among is_named
        decide_found j = sym (among_here file ds t.line t.row (trace_at file u.walk) t.found (sym c ∙ j)) ∙ traced

        left_of : x ≡ false → z ≡ false → repeat_among file ds (trace_at file u.walk) ≡ repeat_among file ds (trace_of file)
        unfolding repeats_among is_named
        left_of j q = sym (among_on file ds t.line t.row (trace_at file u.walk) t.found (sym i ∙ j) (sym c ∙ q)) ∙ traced

        asked : is_named t ≡ true → may_hold ds (key_of file t.row) ≡ true → held_if (is_named t) ds (key_of file t.row) ≡ true
        unfolding held_if
        asked a b = rw (a, b)

        pub decide_more : (ys : List ℕ) → ys ≡ marked_if (held_if (is_named t) ds (key_of file t.row)) marks (key_of file t.row) → x ≡ false → z ≡ false
            → Deciding file ds marks₀ ys u
        decide_more ys m j q = record {
          of = took_left file v s.of t u k;
          few = s.few;
          left = left_of j q;
          marking = marking_more file (may_hold ds) v marks s.marking s.of t u k (sym i ∙ j) (held_if (is_named t) ds (key_of file t.row)) asked ys m;
          long = decide_marked (held_if (is_named t) ds (key_of file t.row)) (key_of file t.row) ys m;
        }
