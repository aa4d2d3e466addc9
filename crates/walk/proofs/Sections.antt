-- A line leads into none but the fifteen sections.
use Prim.Native.Nat.{ℕ, ◌/◌, ◌≤◌}
use mathlib.Core.Path.{◌≡◌, refl}
use mathlib.Core.List.{List}
use Rattle.std.specs.Prelude.{Option, Some as some, None as none, Result, Ok, Err, Ok as Next, Err as Stops}
use mathlib.Core.Bool.{Bool, true, false, cond}
use native.Mathlib.Omega.{arith}
use borrow.Author.Tests.{leb-true}
use lib.Dec.{leb}
use lib.IntN.{ℤ}
use Rattle.rows.specs.Columns.{point_in, type_in_row}
use Rattle.rows.specs.declared.Point.{Point}
use Rattle.law.specs.Kinds.{section_of, role_of, last_kind}
use Rattle.law.specs.Fits.{under}
use Rattle.law.specs.declared.Role.{Role}
use Rattle.law.specs.declared.Role.TheVariants.{Point as point, Prop as prop, Entry as entry, Part as part}
use Rattle.law.specs.declared.Rules.{Rules}
use Rattle.law.specs.declared.refusals.Refusal.{Refusal}
use Rattle.law.specs.declared.Rules.TheVariants.{Idf3}
use Rattle.law.specs.declared.FileType.{FileType}
use Rattle.line_rows.specs.Rows.{filled}
use Rattle.line_rows.specs.declared.Filling.{Filling}
use Rattle.order_loops.specs.Loops.{loop_after, complete}
use Rattle.law.specs.Records.{many_loops}
use Rattle.order.specs.Places.{section_in}
use Rattle.order.specs.Automaton.{is_role, may_stand, moved, moved_in, stepped, after_point, only_if, on_or_out, type_at}
use Rattle.order.specs.declared.Stage.{Stage}
use Rattle.order_loops.specs.declared.LoopState.{LoopState}
use Rattle.order.specs.declared.Phase.{Phase}
use Rattle.order.specs.declared.Phase.TheVariants.{AwaitTitle, AwaitName, HeaderFull, AwaitLead, InPoints, InProps, InList, AwaitPart, AwaitPosition}
use Rattle.order.specs.declared.State.{State}
use Rattle.order.specs.declared.State.TheVariants.{Between, Inside}
use Rattle.order.specs.declared.Reason.TheVariants.{Misplaced}
use Rattle.order.specs.declared.Reason.{Reason}
use Rattle.walk.specs.declared.JudgedLine.{JudgedLine}
use Rattle.walk.specs.Judging.{free_by, moved_row, filled_by, judged}
use Rattle.walk.proofs.EveryLine.{every_line}

abbrev Few : Result State Reason → Type 0
Few (Next t) = section_in t ≤ 15
Few (Stops e) = Unit {0}

section_few : (v : Rules) (k : ℕ) → section_of v k ≤ 15
unfolding section_of
section_few Idf3 k = go (leb k last_kind) refl
  where
    go : (b : Bool) → leb k last_kind ≡ b → cond b (k / 10) 0 ≤ 15
    go true h = let l = leb-true k last_kind h in omega arith
    go false h = omega arith

module _ (g : Stage) (s : ℕ) (h : s ≤ 15) where
  few_point : (o : Option LoopState) → Few (after_point g s o)
  few_point none = tt
  few_point (some l) = h

  few_out : (b : Bool) (p : Phase) → Few (Next (on_or_out g s b p))
  few_out true p = h
  few_out false p = omega arith

  few_only : (b : Bool) (o : Result State Reason) → Few o → Few (only_if b o)
  few_only true o f = f
  few_only false o f = tt

  few_points : (b : Bool) (x y : Result State Reason) → Few x → Few y → Few (cond b x y)
  few_points true x y f i = f
  few_points false x y f i = i

  few_moved : (p : Phase) (n : Role) (t : FileType) (d : Point) → Few (moved_in g s p n t d)
  few_moved AwaitTitle n t d = h
  few_moved (AwaitName u) n t d = h
  few_moved (HeaderFull u) n t d = omega arith
  few_moved AwaitLead n t d = h
  few_moved (InPoints l) n t d = few_points (is_role n point) _ _ (few_point (loop_after (many_loops s) l d)) (few_only (complete l) _ (few_out (is_role n prop) InProps))
  few_moved InProps n t d = few_out (is_role n prop) InProps
  few_moved InList n t d = few_out (is_role n entry) InList
  few_moved AwaitPart n t d = few_out (is_role n part) AwaitPosition
  few_moved AwaitPosition n t d = h

few_stepped : (v : Rules) (st : State) (k : ℕ) (t : FileType) (d : Point) → section_in st ≤ 15 → Few (stepped v st k t d)
unfolding stepped moved
few_stepped v (Between g) k t d h = go (may_stand v (Between g) k)
  where
    go : (b : Bool) → Few (cond b (moved v (Between g) k t d) (Stops Misplaced))
    go true = section_few v k
    go false = tt
few_stepped v (Inside g s p) k t d h = go (may_stand v (Inside g s p) k)
  where
    go : (b : Bool) → Few (cond b (moved v (Inside g s p) k t d) (Stops Misplaced))
    go true = few_moved g s h p (role_of v k) t d
    go false = tt

abbrev Kept : JudgedLine → Type 0
Kept j = section_in j.state ≤ 15

kept_free : (st : State) → section_in st ≤ 15 → Kept (free_by st)
kept_free (Between g) h = omega arith
kept_free (Inside g s p) h = h

module _ (v : Rules) (st : State) (h : section_in st ≤ 15) where
  kept_moved : (row : List ℤ) (o : Result State Reason) → Few o → Kept (moved_row st row o)
  kept_moved row (Next t) f = f
  kept_moved row (Stops e) f = h

  kept_filled : (k : ℕ) (x : Result Filling Refusal) → Kept (filled_by v st k x)
  unfolding filled_by
  kept_filled k (Ok f) = kept_moved f.row (stepped v st k (type_in_row f.row) (point_in f.row)) (few_stepped v st k (type_in_row f.row) (point_in f.row) h)
  kept_filled k (Err e) = h

  pub kept_judged : (b : ℕ) (s : List ℕ) → section_in (judged v st b s).state ≤ 15
  kept_judged = every_line v st Kept (λ e. h) (kept_free st h) (λ k b s m. kept_filled k (filled (under v (type_at st)) k b s m))
