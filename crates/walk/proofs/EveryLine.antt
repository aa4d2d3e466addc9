-- What holds of every line that is judged: of a refusal, of a free line, and of a line whose fields were read.
use Prim.Native.Nat.{ℕ, ◌-◌}
use mathlib.Core.List.{List}
use mathlib.Core.Bool.{Bool, true, false, cond}
use lib.Dec.{eqb}
use lib.ListN.{length}
use Rattle.law.specs.Kinds.{role_of}
use Rattle.law.specs.declared.Role.TheVariants.{Prop as prop}
use Rattle.law.specs.Layouts.{types_of}
use Rattle.law.specs.Fits.{under}
use Rattle.std.specs.Prelude.{Result, Ok, Err}
use Rattle.law.specs.declared.Rules.{Rules}
use Rattle.law.specs.declared.refusals.Refusal.{Refusal}
use Rattle.law.specs.declared.refusals.Refusal.TheVariants.{Misplaced, FieldCount}
use Rattle.line_rows.specs.LineKinds.{kind_of}
use Rattle.line_rows.specs.Rows.{filled}
use Rattle.line_rows.specs.declared.LineKind.{LineKind}
use Rattle.line_rows.specs.declared.LineKind.TheVariants.{Free, Key, Data}
use Rattle.order.specs.Places.{key_kind, data_kind}
use Rattle.order.specs.Automaton.{is_role, may_stand, type_at}
use Rattle.order.specs.declared.State.{State}
use Rattle.walk.specs.declared.JudgedLine.{JudgedLine}
use Rattle.walk.specs.Judging.{refused_by, free_by, filled_by, of_kind, data_by, judged_by, judged}

module _ (v : Rules) (st : State) (P : JudgedLine → Type 0) (wrong : (e : Refusal) → P (refused_by st e)) (nothing : P (free_by st))
    (good : (k b : ℕ) (s : List ℕ) (m : ℕ) → P (filled_by v st k (filled (under v (type_at st)) k b s m))) where
  either : (b : Bool) (x y : JudgedLine) → P x → P y → P (cond b x y)
  either true x y f g = f
  either false x y f g = g

  of_kind_lem : (k : ℕ) (s : List ℕ) (b n m : ℕ) → P (of_kind v st k s b n m)
  unfolding of_kind
  of_kind_lem k s b n m = either (may_stand v st k) _ _ (either (eqb n (length (types_of v k))) _ _ (good k b s m) (wrong FieldCount)) (wrong Misplaced)

  of_data : (s : List ℕ) (b : ℕ) (marked : Bool) (n m : ℕ) → P (data_by v st s b marked n m)
  unfolding data_by
  of_data s b marked n m = either (is_role (role_of v (data_kind v st marked)) prop) _ _ (of_kind_lem (data_kind v st marked) s b (n - 1) m) (of_kind_lem (data_kind v st marked) s b n 0)

  pub every_line : (b : ℕ) (s : List ℕ) → P (judged v st b s)
  unfolding judged
  every_line b s = go (kind_of s)
    where
      go : (x : Result LineKind Refusal) → P (judged_by v st s b x)
      go (Ok Free) = nothing
      go (Ok (Key w n m)) = of_kind_lem (key_kind v w) s b (n - 1) m
      go (Ok (Data marked n m)) = of_data s b marked n m
      go (Err e) = wrong e
