-- Laws of the lines of rows, as the code leaves them: whether they rise.
use Prim.Native.Nat.{ℕ, suc, ◌+◌, ◌*◌, ◌-◌, ◌≤◌, ◌<◌}
use mathlib.Core.Path.{◌≡◌}
use mathlib.Core.List.{List, [], ◌∷◌}
use mathlib.Core.Bool.{Bool, true, false, not, ◌&&◌}
use native.Mathlib.Omega.{arith}
use mir.Syntax.{w64}
use mir.Val.{SFits}
use mir.ValLaws.{to_z-of_z}
use borrow.Author.Tests.{not-true, not-false}
use lib.IntN.{ℤ, pos}
use lib.ListN.{length, drop, get_or}
use lib.Seq.{get_or-drop, drop-drop}
use lib.Signed.{lt_z}
use Rattle.basics.proofs.Integers.{back}
use Rattle.law.specs.Rows.{width, stride, capacity, lines_in}
use Rattle.write.specs.LineNumbers.{rises, all_rise}

-- the lines from row i on
abbrev lines_from : List ℤ → ℕ → List ℤ
lines_from rows i = lines_in (capacity (length rows) - i) (drop (i * stride) rows)

lines_here : (rows : List ℤ) (i : ℕ) → i < capacity (length rows) → lines_from rows i ≡ get_or rows (i * stride + width) (pos 0) ∷ lines_from rows (i + 1)
unfolding lines_in
lines_here rows i h =
    let k : capacity (length rows) - i ≡ suc (capacity (length rows) - (i + 1)) = omega arith in
    let e : i * stride + stride ≡ (i + 1) * stride = omega arith in
    rw (k, get_or-drop (i * stride) rows width (pos 0), drop-drop stride (i * stride) rows, e)

lines_none : (rows : List ℤ) (i : ℕ) → capacity (length rows) ≤ i → lines_from rows i ≡ []
unfolding lines_in
lines_none rows i h = let k : capacity (length rows) - i ≡ 0 = omega arith in rw k

-- rows up to row i rise up to the line `last`
pub record Climbing (rows : List ℤ) (last : ℤ) (i : ℕ) : Type 0 where
  pub left : rises last (lines_from rows i) ≡ all_rise rows

pub climb_start : (rows : List ℤ) → Climbing rows (pos 0) 0
climb_start rows = let z : capacity (length rows) - 0 ≡ capacity (length rows) = omega arith in record { left = rw z }

module _ (rows : List ℤ) (last : ℤ) (i : ℕ) (r : Climbing rows last i) where
  pub climb_over : capacity (length rows) ≤ i → true ≡ all_rise rows
  unfolding rises
  climb_over h = rw (lines_none rows i h) at r.left

  module _ (h : i < capacity (length rows)) where
    pub climb_place : i * stride + width < length rows
    climb_place = omega arith

    module _ (b : Bool) (e : b ≡ lt_z last (back (get_or rows (i * stride + width) (pos 0)))) (f : SFits w64 (get_or rows (i * stride + width) (pos 0))) where
      here : b && rises (back (get_or rows (i * stride + width) (pos 0))) (lines_from rows (i + 1)) ≡ all_rise rows
      unfolding rises
      here = rw (e, to_z-of_z w64 (get_or rows (i * stride + width) (pos 0)) f) (rw (lines_here rows i h) at r.left)

      pub climb_stop : not b ≡ true → false ≡ all_rise rows
      climb_stop k = rw (not-true b k) at here

      pub climb_more : not b ≡ false → Climbing rows (back (get_or rows (i * stride + width) (pos 0))) (i + 1)
      climb_more k = record { left = rw (not-false b k) at here }
