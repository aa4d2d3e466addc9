-- `viewer::line::put_pair` meets its contract. Assumes nothing.
use Prim.Native.Nat.{ℕ, ◌+◌, ◌^◌, ◌<◌}
use mathlib.Core.Path.{◌≡◌}
use mathlib.Core.List.{List}
use borrow.Author.Rules.{rules}
use lib.IntN.{ℤ, pos}
use lib.ListN.{set}
use mir.Syntax.{w64}
use mir.Val.{to_z}
use mir.ValLaws.{to_z_pos}
use Rattle.viewer.proofs.line.put_pair.Goals as goal

both : (out : List ℤ) (n a l : ℕ) → a < 2 ^ 63 → l < 2 ^ 63 → set (set out n (to_z w64 a)) (n + 1) (to_z w64 l) ≡ set (set out n (pos a)) (n + 1) (pos l)
both out n a l h k = rw (to_z_pos w64 a h, to_z_pos w64 l k)

ruleset laws = (both, rules)

pub overflow_cast-out : goal.overflow_cast-out
overflow_cast-out c = search rules

pub bounds-out-n : goal.bounds-out-n
bounds-out-n c = search rules

pub overflow_cast-out-2 : goal.overflow_cast-out-2
overflow_cast-out-2 c = search rules

pub bounds-out-n-2 : goal.bounds-out-n-2
bounds-out-n-2 c = search rules

pub shape_of-out : goal.shape_of-out
shape_of-out c = search rules

pub returns : goal.returns
returns c = search laws
