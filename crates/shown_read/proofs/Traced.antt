-- The trace of a file follows its lines: each turn is what the line says where no name is used, and a row holds the values of its line's record.
use Prim.Native.Nat.{ℕ, zero, suc, ◌+◌, ◌≤◌, ◌<◌}
use mathlib.Core.Path.{◌≡◌, refl, ◌∙◌, subst}
use mathlib.Core.List.{List, [], ◌∷◌}
use mathlib.Core.Bool.{Bool, true, false}
use native.Mathlib.Omega.{arith}
use borrow.Author.Tests.{ltb-true, ltb-false}
use lib.Dec.{ltb}
use lib.IntN.{ℤ}
use lib.ListN.{length, take, drop, length-drop}
use lib.Seq.{drop-drop}
use Rattle.basics.proofs.Lists.{at_end}
use Rattle.text.specs.Lines.{line_end, lines_of}
use Rattle.text.proofs.LineLaws.{line_inside, lines_none, lines_first}
use Rattle.law.specs.Values.{Rec}
use Rattle.law.specs.Layouts.{types_of}
use Rattle.law.specs.declared.Rules.TheVariants.{Idf3}
use Rattle.law.specs.Rows.{Holds}
use Rattle.line_rows.proofs.MeaningLaws.{part_cut}
use Rattle.order.specs.Automaton.{start}
use Rattle.order.specs.declared.State.{State}
use Rattle.walk.specs.Walks as walk
use Rattle.walk.specs.Walks.{begun, line_in, turn_of, Trace, trace_by, trace_at, trace_of}
use Rattle.walk.specs.declared.JudgedLine.{JudgedLine}
use Rattle.walk.specs.declared.Walk.{Walk}
use Rattle.walk.proofs.WalkLaws.{trace_end, trace_step}
use Rattle.shown_told.specs.Told.{Said, nothing, says, wrong, line_says}
use Rattle.shown_read.proofs.LineJoined.{Joined, line_joined}

-- from a state, lines have a trace; the first of them has number k in the file
pub data Follows (file : List ℕ) : State → List (List ℕ) → ℕ → Trace → Type 0 where
  done : {st : State} {k : ℕ} {w : Walk} → w.state ≡ st → w.line ≡ k → Follows file st [] k (walk.done w)
  stop : {st : State} {l : List ℕ} {ls : List (List ℕ)} {k n : ℕ} → line_says Idf3 [] st l ≡ wrong n → Follows file st (l ∷ ls) k (walk.stop n k)
  skip : {st : State} {l : List ℕ} {ls : List (List ℕ)} {k : ℕ} {t : Trace}
      → line_says Idf3 [] st l ≡ nothing → Follows file st ls (k + 1) t → Follows file st (l ∷ ls) k (walk.skip k t)
  row : {st u : State} {l : List ℕ} {ls : List (List ℕ)} {k : ℕ} {r : Rec} {x : List ℤ} {t : Trace}
      → line_says Idf3 [] st l ≡ says r u → Holds file r.kind (types_of Idf3 r.kind) x r.values → Follows file u ls (k + 1) t
      → Follows file st (l ∷ ls) k (walk.row k x t)

module _ (file : List ℕ) where
  -- one turn in front of others
  follows_one : (st : State) (l : List ℕ) (ls : List (List ℕ)) (k : ℕ) (j : JudgedLine) (t : Trace) (x : Said) → line_says Idf3 [] st l ≡ x → Joined Idf3 file st x j
      → Follows file j.state ls (k + 1) t → Follows file st (l ∷ ls) k (trace_by j.found k j.row t)
  follows_one st l ls k j t nothing e p f = rw p.found (skip e (subst (λ (u : State). Follows file u ls (k + 1) t) p.state f))
  follows_one st l ls k j t (says r v) e p f = rw p.found (row e p.holds (subst (λ (u : State). Follows file u ls (k + 1) t) p.state f))
  follows_one st l ls k j t (wrong n) e p f = rw (p.found, p.number) (stop e)

  follows_end : (w : Walk) → length file ≤ w.at → Follows file w.state (lines_of (drop w.at file)) w.line (trace_at file w)
  follows_end w h = rw (at_end file w.at h, lines_none, trace_end file w h) (done refl refl)

  follows_step : (w : Walk) → w.at < length file
      → (w.at < (turn_of file w).walk.at → (turn_of file w).walk.at ≤ length file
      → Follows file (turn_of file w).walk.state (lines_of (drop (turn_of file w).walk.at file)) (turn_of file w).walk.line (trace_at file (turn_of file w).walk))
      → Follows file w.state (lines_of (drop w.at file)) w.line (trace_at file w)
  unfolding turn_of line_in
  follows_step w h ih =
      let s = drop w.at file in
      let l = take (line_end s).content s in
      let i = line_inside s in
      let d = length-drop w.at file in
      let a : 0 < (line_end s).next = i.past (omega arith) in
      let b : (line_end s).next ≤ length s = i.within in
      let e : lines_of s ≡ l ∷ lines_of (drop (w.at + (line_end s).next) file) = lines_first s (omega arith) ∙ rw (drop-drop (line_end s).next w.at file) in
      rw (e, trace_step file w h)
      (follows_one w.state l _ w.line (line_in file w) _ (line_says Idf3 [] w.state l) refl (line_joined Idf3 w.state file l w.at (part_cut file w.at (line_end s).content (omega arith)))
      (ih (omega arith) (omega arith)))

  follows_in : (fuel : ℕ) (w : Walk) → length file ≤ w.at + fuel → w.at ≤ length file → Follows file w.state (lines_of (drop w.at file)) w.line (trace_at file w)
  follows_in zero w h i = follows_end w (omega arith)
  follows_in (suc fuel) w h i = go (ltb w.at (length file)) refl (λ a b. follows_in fuel (turn_of file w).walk (omega arith) b)
    where
      go : (t : Bool) → ltb w.at (length file) ≡ t
          → (w.at < (turn_of file w).walk.at → (turn_of file w).walk.at ≤ length file
          → Follows file (turn_of file w).walk.state (lines_of (drop (turn_of file w).walk.at file)) (turn_of file w).walk.line (trace_at file (turn_of file w).walk))
          → Follows file w.state (lines_of (drop w.at file)) w.line (trace_at file w)
      go true e ih = follows_step w (ltb-true w.at (length file) e) ih
      go false e ih = follows_end w (ltb-false w.at (length file) e)

  -- the whole file
  pub trace_follows : Follows file start (lines_of file) 1 (trace_of file)
  trace_follows = follows_in (length file) begun (omega arith) (omega arith)
