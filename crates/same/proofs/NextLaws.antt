-- Laws of the next record of what is left of a file.
use Prim.Native.Nat.{ℕ}
use mathlib.Core.Path.{◌≡◌, refl, sym, ap, ◌∙◌}
use mathlib.Core.List.{List, [], ◌∷◌}
use mathlib.Core.Bool.{Bool, true, false, true≢false, false≢true}
use lib.IntN.{ℤ}
use Rattle.std.specs.Prelude.{Some, None}
use Rattle.walk.specs.declared.Found.{Found}
use Rattle.walk.specs.declared.Found.TheVariants.{Row, Nothing, Refused}
use Rattle.walk.specs.declared.Turn.{Turn}
use Rattle.walk.specs.declared.steps.Turns.{Turns}
use Rattle.walk.specs.Turns.{Took, Over}
use Rattle.walk.specs.Walks.{is_row, stops_by, Trace, trace_by, trace_at}
use Rattle.walk.proofs.TurnsLaws.{over_trace, took_trace}
use Rattle.same.specs.NextRows.{rows_left, NextRow}
use Rattle.same.specs.SameLists.{list_in}

-- one line more
module _ (l : ℕ) (y : List ℤ) (t : Trace) where
  list_row : (f : Found) → is_row f ≡ true → list_in (trace_by f l y t) ≡ y ∷ list_in t
  unfolding list_in
  list_row Row h = refl
  list_row Nothing h = absurd (false≢true h)
  list_row (Refused n) h = absurd (false≢true h)

  list_stop : (f : Found) → stops_by f ≡ true → list_in (trace_by f l y t) ≡ []
  unfolding list_in
  list_stop Row h = absurd (false≢true h)
  list_stop Nothing h = absurd (false≢true h)
  list_stop (Refused n) h = refl

  list_none : (f : Found) → is_row f ≡ false → stops_by f ≡ false → list_in (trace_by f l y t) ≡ list_in t
  unfolding list_in
  list_none Row h k = absurd (true≢false h)
  list_none Nothing h k = refl
  list_none (Refused n) h k = absurd (true≢false k)

-- what is left has the same records as there were
pub record Passing (from s : Turns) : Type 0 where
  pub of : s.file.now ≡ from.file.now
  pub left : rows_left s ≡ rows_left from

pub passing_start : (s : Turns) → Passing s s
passing_start s = record { of = refl; left = refl }

module _ (from s : Turns) (g : Passing from s) where
  passing_none : (u : Turns) → u.file.now ≡ s.file.now → rows_left s ≡ [] → NextRow from None u
  passing_none u i e = record { file = i ∙ g.of; row = sym g.left ∙ e }

  pub passing_over : (u : Turns) → Over s u → NextRow from None u
  unfolding rows_left list_in
  passing_over u o = passing_none u o.file (ap list_in (over_trace s.file.now s (record { of = refl }) u o))

  module _ (t : Turn) (u : Turns) (k : Took s t u) where
    stepped : rows_left s ≡ list_in (trace_by t.found t.line t.row (trace_at u.file.now u.walk))
    unfolding rows_left
    stepped =
        ap list_in (took_trace s.file.now s (record { of = refl }) t u k)
        ∙ ap (λ (z : List ℕ). list_in (trace_by t.found t.line t.row (trace_at z u.walk))) (sym k.file)

    module _ (x : Bool) (i : x ≡ is_row t.found) where
      pub passing_found : x ≡ true → NextRow from (Some t.row) u
      unfolding rows_left
      passing_found j = record {
        file = k.file ∙ g.of;
        row = sym g.left ∙ stepped ∙ list_row t.line t.row (trace_at u.file.now u.walk) t.found (sym i ∙ j);
      }

      module _ (y : Bool) (d : y ≡ stops_by t.found) where
        pub passing_stop : y ≡ true → NextRow from None u
        passing_stop h = passing_none u k.file (stepped ∙ list_stop t.line t.row (trace_at u.file.now u.walk) t.found (sym d ∙ h))

        pub passing_more : x ≡ false → y ≡ false → Passing from u
        unfolding rows_left
        passing_more j h = record {
          of = k.file ∙ g.of;
          left = sym (stepped ∙ list_none t.line t.row (trace_at u.file.now u.walk) t.found (sym i ∙ j) (sym d ∙ h)) ∙ g.left;
        }
