-- Laws of components by name, as the code leaves them.
use Prim.Native.Nat.{ℕ, ◌≤◌, ◌<◌}
use mathlib.Core.Path.{◌≡◌, refl, sym, ap, ◌∙◌}
use mathlib.Core.List.{List}
use mathlib.Core.Bool.{Bool, true, false, ◌&&◌, true≢false, false≢true, and_assoc}
use native.Mathlib.Omega.{arith}
use borrow.Author.Tests.{lt-ltb, le-ltb, ltb-true, ltb-false}
use lib.Dec.{ltb}
use lib.IntN.{ℤ}
use lib.ListN.{length}
use Rattle.law.specs.Answers.{limit}
use Rattle.rows.specs.RowKinds.{leads_component}
use Rattle.rows_texts.specs.Names.{same_names}
use Rattle.walk.specs.declared.Found.{Found}
use Rattle.walk.specs.declared.Found.TheVariants.{Row, Nothing, Refused}
use Rattle.walk.specs.declared.Walk.{Walk}
use Rattle.walk.specs.declared.Turn.{Turn}
use Rattle.walk.specs.declared.steps.Turns.{Turns}
use Rattle.walk.specs.Turns.{Took, Over}
use Rattle.walk.specs.Walks.{begun, turn_of, stops_by, is_row, Trace, trace_by, trace_at}
use Rattle.names.specs.Names.{is_named, names_same, used_in, is_used, repeat_in}
use Rattle.walk.proofs.WalkLaws.{Going, going_start, going_trace, going_end}
use Rattle.walk.proofs.TurnsLaws.{Left, left_going, over_trace, took_left, took_line, took_trace}

-- a line that names the same component, on the way to line n
module _ (file : List ℕ) (n l : ℕ) (x row : List ℤ) (t : Trace) where
  pub used_on : (f : Found) → stops_by f ≡ false → ltb l n ≡ true → (is_row f && (leads_component row && same_names file row file x)) ≡ false
      → used_in file n x (trace_by f l row t) ≡ used_in file n x t
  unfolding used_in
  used_on Row h k g = rw (k, g)
  used_on Nothing h k g = rw k
  used_on (Refused m) h k g = absurd (true≢false h)

  used_here : (f : Found) → ltb l n ≡ true → (is_row f && (leads_component row && same_names file row file x)) ≡ true → used_in file n x (trace_by f l row t) ≡ true
  unfolding used_in
  used_here Row k g = rw (k, g)
  used_here Nothing k g = absurd (false≢true g)
  used_here (Refused m) k g = absurd (false≢true g)

  pub used_late : (f : Found) → ltb l n ≡ false → used_in file n x (trace_by f l row t) ≡ false
  unfolding used_in
  used_late Row k = rw k
  used_late Nothing k = rw k
  used_late (Refused m) k = refl

  used_none : (f : Found) → stops_by f ≡ true → used_in file n x (trace_by f l row t) ≡ false
  unfolding used_in
  used_none Row h = absurd (false≢true h)
  used_none Nothing h = absurd (false≢true h)
  used_none (Refused m) h = refl

-- what is left of a file from line n on tells nothing
late_left : (file : List ℕ) (n : ℕ) (x : List ℤ) (w : Walk) → Going file w w.at → n ≤ w.line → used_in file n x (trace_at file w) ≡ false
unfolding used_in
late_left file n x w g l = go (ltb w.at (length file)) refl
  where
    next : Turn
    next = turn_of file w

    go : (t : Bool) → ltb w.at (length file) ≡ t → used_in file n x (trace_at file w) ≡ false
    go true e =
        ap (used_in file n x) (going_trace file w w.at g (ltb-true w.at (length file) e) next refl)
        ∙ used_late file n w.line x next.row (trace_at file next.walk) next.found (le-ltb w.line n l)
    go false e = ap (used_in file n x) (going_end file w w.at g (ltb-false w.at (length file) e))

-- what is left of a file tells whether a name is used, and begins before line n
pub record Seeking (file : List ℕ) (n : ℕ) (x : List ℤ) (s : Turns) : Type 0 where
  pub of : Left file s
  pub before : s.walk.line < n
  pub left : used_in file n x (trace_at file s.walk) ≡ is_used file n x

-- no line stands before the first
pub seek_none : (file : List ℕ) (n : ℕ) (x : List ℤ) → length file ≤ limit → n < 2 → false ≡ is_used file n x
seek_none file n x h l = sym (late_left file n x begun (going_start file begun h refl) (omega arith))

module _ (file : List ℕ) (n : ℕ) (x : List ℤ) (s : Turns) where
  pub seek_start : s.file.now ≡ file → s.walk ≡ begun → 2 ≤ n → Seeking file n x s
  seek_start f e l = record { of = record { of = f }; before = omega (arith, ap (λ (w : Walk). w.line) e); left = rw e }

  module _ (g : Seeking file n x s) where
    pub seek_over : (u : Turns) → Over s u → false ≡ is_used file n x
    unfolding used_in
    seek_over u o = sym (ap (used_in file n x) (over_trace file s g.of u o)) ∙ g.left

    module _ (t : Turn) (u : Turns) (k : Took s t u) where
      traced : used_in file n x (trace_by t.found t.line t.row (trace_at file u.walk)) ≡ is_used file n x
      traced = sym (ap (used_in file n x) (took_trace file s g.of t u k)) ∙ g.left

      here : ltb t.line n ≡ true
      here = lt-ltb t.line n (omega (arith, took_line file s g.of t u k, g.before))

      module _ (y : Bool) (i : y ≡ stops_by t.found) where
        pub seek_stop : y ≡ true → false ≡ is_used file n x
        seek_stop j = sym (used_none file n t.line x t.row (trace_at file u.walk) t.found (sym i ∙ j)) ∙ traced

        module _ (z : Bool) (d : z ≡ names_same file t x) where
          named : z ≡ (is_row t.found && (leads_component t.row && same_names file t.row file x))
          unfolding names_same is_named
          named = d ∙ and_assoc (is_row t.found) (leads_component t.row) (same_names file t.row file x)

          pub seek_found : z ≡ true → true ≡ is_used file n x
          seek_found j = sym (used_here file n t.line x t.row (trace_at file u.walk) t.found here (sym named ∙ j)) ∙ traced

          module _ (j : y ≡ false) (q : z ≡ false) where
            behind : used_in file n x (trace_at file u.walk) ≡ is_used file n x
            behind = sym (used_on file n t.line x t.row (trace_at file u.walk) t.found (sym i ∙ j) here (sym named ∙ q)) ∙ traced

            pub seek_late : n ≤ t.walk.line → false ≡ is_used file n x
            seek_late l = sym (late_left file n x u.walk (left_going file u (took_left file s g.of t u k)) (omega (arith, ap (λ (w : Walk). w.line) k.walk))) ∙ behind

            pub seek_more : t.walk.line < n → Seeking file n x u
            seek_more l = record { of = took_left file s g.of t u k; before = omega (arith, ap (λ (w : Walk). w.line) k.walk); left = behind }

-- a line that names no component as one before it did
pub repeat_on : (file : List ℕ) (l : ℕ) (row : List ℤ) (t : Trace) (f : Found) → stops_by f ≡ false → ((is_row f && leads_component row) && is_used file l row) ≡ false
    → repeat_in file (trace_by f l row t) ≡ repeat_in file t
unfolding repeat_in
repeat_on file l row t Row h g = rw g
repeat_on file l row t Nothing h g = refl
repeat_on file l row t (Refused m) h g = absurd (true≢false h)
