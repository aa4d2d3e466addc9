-- Laws of the iterator over the lines of a file, for the loops over it.
use Prim.Native.Nat.{ℕ, ◌+◌, ◌≤◌, ◌<◌}
use mathlib.Core.Path.{◌≡◌, refl, sym, ap, subst, ◌∙◌}
use mathlib.Core.List.{List}
use native.Mathlib.Omega.{arith}
use native.Mathlib.Bridge.{le_prop}
use lib.ListN.{length}
use Rattle.law.specs.Answers.{limit}
use Rattle.walk.specs.declared.Walk.{Walk}
use Rattle.walk.specs.declared.Turn.{Turn}
use Rattle.walk.specs.declared.steps.Turns.{Turns}
use Rattle.walk.specs.Turns.{Took, Over}
use Rattle.walk.specs.Walks.{turn_of, Steady, done, trace_by, trace_at}
use Rattle.walk.proofs.WalkLaws.{Going, going_trace, going_past, going_end}

-- there is one proof at most that a walk is steady
pub steady_prop : (file : List ℕ) (w : Walk) (a b : Steady file w) → a ≡ b
steady_prop file w a b = λ i. record {
  small = le_prop a.small b.small i;
  within = le_prop a.within b.within i;
  lines = le_prop a.lines b.lines i;
  section = le_prop a.section b.section i;
}

-- what an iterator has left is of this file
pub record Left (file : List ℕ) (s : Turns) : Type 0 where
  pub of : s.file.now ≡ file

module _ (file : List ℕ) (s : Turns) (i : Left file s) where
  left_steady : Steady file s.walk
  left_steady = subst (λ (z : List ℕ). Steady z s.walk) i.of s.steady

  pub left_going : Going file s.walk s.walk.at
  left_going = record { steady = left_steady; here = refl }

  -- a count that is no more than the place of the next line is small
  pub left_small : s.walk.at ≤ limit
  left_small = omega (arith, left_steady.within, left_steady.small)

  pub over_trace : (u : Turns) → Over s u → trace_at file s.walk ≡ done u.walk
  over_trace u o =
      let l : length s.file.now ≤ s.walk.at = o.end in
      let m : length file ≤ s.walk.at = subst (λ (z : List ℕ). length z ≤ s.walk.at) i.of l in
      going_end file s.walk s.walk.at left_going m ∙ ap done (sym o.walk)

  module _ (t : Turn) (u : Turns) (k : Took s t u) where
    took_more : s.walk.at < length file
    took_more = subst (λ (z : List ℕ). s.walk.at < length z) i.of k.more

    pub took_is : t ≡ turn_of file s.walk
    took_is = k.is ∙ ap (λ (z : List ℕ). turn_of z s.walk) i.of

    pub took_left : Left file u
    took_left = record { of = k.file ∙ i.of }

    pub took_line : t.line ≡ s.walk.line
    unfolding turn_of
    took_line = ap (λ (z : Turn). z.line) took_is

    pub took_next : u.walk.line ≡ t.line + 1
    unfolding turn_of
    took_next = ap (λ (z : Walk). z.line) k.walk ∙ ap (λ (z : Turn). z.walk.line) took_is ∙ ap (λ (z : ℕ). z + 1) (sym took_line)

    -- the line before what is left behind it
    pub took_trace : trace_at file s.walk ≡ trace_by t.found t.line t.row (trace_at file u.walk)
    took_trace =
        going_trace file s.walk s.walk.at left_going took_more t took_is
        ∙ ap (λ (z : ℕ). trace_by t.found z t.row (trace_at file t.walk)) (sym took_line)
        ∙ ap (λ (z : Walk). trace_by t.found t.line t.row (trace_at file z)) (sym k.walk)

    pub took_past : s.walk.at < u.walk.at
    took_past =
        let l : s.walk.at < t.walk.at = going_past file s.walk s.walk.at left_going took_more t took_is in
        subst (λ (z : Walk). s.walk.at < z.at) (sym k.walk) l

    pub took_small : t.line ≤ limit
    took_small = omega (arith, left_steady.lines, took_line, took_more, left_steady.small)
