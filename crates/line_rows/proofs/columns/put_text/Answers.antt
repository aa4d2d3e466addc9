-- `line_rows::columns::put_text` meets its contract. Assumes nothing.
use Prim.Native.Nat.{ℕ, ◌+◌, ◌^◌, ◌<◌}
use mathlib.Core.Path.{◌≡◌}
use mathlib.Core.List.{List}
use native.Mathlib.Omega.{arith}
use borrow.Author.Rules.{rules}
use lib.IntN.{ℤ, pos}
use lib.ListN.{set}
use mir.Syntax.{w64}
use mir.Val.{to_z}
use mir.ValLaws.{to_z_pos}
use Rattle.line_rows.specs.Rows.{put_one, filling_at}
use Rattle.line_rows.proofs.columns.put_text.Goals as goal

both : (w : List ℤ) (j a l m : ℕ) → a < 2 ^ 63 → l < 2 ^ 63 → record { row = set (set w j (to_z w64 a)) (j + 1) (to_z w64 l); column = j + 2; at = m } ≡ put_one (put_one (filling_at w j m) (pos a) m) (pos l) m
both w j a l m h k =
    let e : j + 2 ≡ j + 1 + 1 = omega arith in
    rw (e, to_z_pos w64 a h, to_z_pos w64 l k)

ruleset laws = (both, rules)

pub overflow_cast-row : goal.overflow_cast-row
overflow_cast-row c = search laws

pub bounds-row-column : goal.bounds-row-column
bounds-row-column c = search laws

pub overflow_cast-row-2 : goal.overflow_cast-row-2
overflow_cast-row-2 c = search laws

pub bounds-row-column-2 : goal.bounds-row-column-2
bounds-row-column-2 c = search laws

pub shape_of-row : goal.shape_of-row
shape_of-row c = search laws

pub returns : goal.returns
returns c = search laws
