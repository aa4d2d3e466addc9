-- A line in a state: its row and the state after it, or its refusal.
use Rattle.std.specs.Prelude.{ℕ, ◌-◌, List, Bool, cond, eqb, ℤ, pos, length, replicate, Result, Ok, Err, Ok as Next, Err as Stops}
use Rattle.rows.specs.Columns.{point_in, type_in_row}
use Rattle.law.specs.Kinds.{role_of}
use Rattle.law.specs.declared.Role.TheVariants.{Prop as prop}
use Rattle.law.specs.Layouts.{types_of}
use Rattle.law.specs.Fits.{under}
use Rattle.law.specs.declared.Rules.{Rules}
use Rattle.law.specs.declared.refusals.Refusal.{Refusal}
use Rattle.law.specs.declared.refusals.Refusal.TheVariants.{Misplaced, FieldCount}
use Rattle.line_rows.specs.LineKinds.{kind_of}
use Rattle.law.specs.Rows.{width}
use Rattle.line_rows.specs.Rows.{filled}
use Rattle.line_rows.specs.declared.LineKind.{LineKind}
use Rattle.line_rows.specs.declared.LineKind.TheVariants.{Free, Key, Data}
use Rattle.line_rows.specs.declared.Filling.{Filling}
use Rattle.order.specs.Places.{data_kind, key_kind}
use Rattle.order.specs.Automaton.{is_role, refusal_of, type_at, may_stand, stepped}
use Rattle.order.specs.declared.State.{State}
use Rattle.order.specs.declared.State.TheVariants.{Between, Inside}
use Rattle.order.specs.declared.Reason.{Reason}
use Rattle.walk.specs.declared.Found.TheVariants.{Row, Nothing, Refused}
use Rattle.walk.specs.declared.JudgedLine.{JudgedLine}

abbrev pub no_row : List ℤ
no_row = replicate width (pos 0)

-- a refused line leaves the state as it is
abbrev pub refused_by : State → Refusal → JudgedLine
refused_by st e = record { found = Refused e; row = no_row; state = st }

-- a comment or blank line stands between sections
abbrev pub free_by : State → JudgedLine
free_by (Between g) = record { found = Nothing; row = no_row; state = Between g }
free_by (Inside g s p) = refused_by (Inside g s p) Misplaced

-- what a record does: on to the next state, or its refusal
abbrev pub moved_row : State → List ℤ → Result State Reason → JudgedLine
moved_row st row (Next t) = record { found = Row; row = row; state = t }
moved_row st row (Stops e) = refused_by st (refusal_of e Misplaced)

-- a line of kind k whose fields were read into a row, or refused
unfoldable pub filled_by : Rules → State → ℕ → Result Filling Refusal → JudgedLine
filled_by v st k (Ok f) = moved_row st f.row (stepped v st k (type_in_row f.row) (point_in f.row))
filled_by v st k (Err e) = refused_by st e

-- a line s of kind k with n fields from the place m on; it starts at b in the file
unfoldable pub of_kind : Rules → State → ℕ → List ℕ → ℕ → ℕ → ℕ → JudgedLine
of_kind v st k s b n m =
    cond (may_stand v st k)
    (cond (eqb n (length (types_of v k))) (filled_by v st k (filled (under v (type_at st)) k b s m)) (refused_by st FieldCount))
    (refused_by st Misplaced)

-- a data line: its place is its kind, and PROP itself is no field
unfoldable pub data_by : Rules → State → List ℕ → ℕ → Bool → ℕ → ℕ → JudgedLine
data_by v st s b marked n m =
    let k = data_kind v st marked in
    cond (is_role (role_of v k) prop) (of_kind v st k s b (n - 1) m) (of_kind v st k s b n 0)

abbrev pub judged_by : Rules → State → List ℕ → ℕ → Result LineKind Refusal → JudgedLine
judged_by v st s b (Ok Free) = free_by st
judged_by v st s b (Ok (Key w n m)) = of_kind v st (key_kind v w) s b (n - 1) m
judged_by v st s b (Ok (Data marked n m)) = data_by v st s b marked n m
judged_by v st s b (Err e) = refused_by st e

-- the line s that starts at b in the file
unfoldable pub judged : Rules → State → ℕ → List ℕ → JudgedLine
judged v st b s = judged_by v st s b (kind_of s)
