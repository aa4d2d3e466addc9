-- Laws of two walks side by side, as the code leaves them.
use Prim.Native.Nat.{ℕ, ◌<◌}
use mathlib.Core.Path.{◌≡◌, sym, ap}
use mathlib.Core.List.{List}
use mathlib.Core.Bool.{Bool, true, false, not, ◌&&◌, true≢false}
use native.Mathlib.Omega.{arith}
use lib.IntN.{ℤ}
use lib.ListN.{length}
use Rattle.std.specs.Prelude.{Option, Some, None, is_some}
use Rattle.walk.specs.declared.steps.Turns.{Turns}
use Rattle.walk.specs.Walks.{begun}
use Rattle.same.specs.declared.Ignored.{Ignored}
use Rattle.same.specs.NextRows.{rows_left, NextRow}
use Rattle.same.specs.SameRows.{same_row}
use Rattle.same.specs.SameLists.{same_lists, same_files}

-- what is left of two files tells whether they are the same
pub record Abreast (g : Ignored) (f h : List ℕ) (v w : Turns) : Type 0 where
  pub left : same_lists g f (rows_left v) h (rows_left w) ≡ same_files g f h

pub abreast_start : (g : Ignored) (f h : List ℕ) (v w : Turns) → v.file.now ≡ f → v.walk ≡ begun → w.file.now ≡ h → w.walk ≡ begun → Abreast g f h v w
unfolding rows_left
abreast_start g f h v w a b d e = record { left = rw (a, b, d, e) }

module _ (g : Ignored) (f h : List ℕ) (v w : Turns) (s : Abreast g f h v w) where
  -- the first has no record left
  pub abreast_end : (v' w' : Turns) (r : Option (List ℤ)) (b : Bool) → NextRow v None v' → NextRow w r w' → is_some r ≡ not b → b ≡ same_files g f h
  unfolding same_lists
  abreast_end v' w' None true n m e = rw (n.row, m.row) at s.left
  abreast_end v' w' None false n m e = absurd (true≢false (sym e))
  abreast_end v' w' (Some y) true n m e = absurd (true≢false e)
  abreast_end v' w' (Some y) false n m e = rw (n.row, m.row) at s.left

  module _ (x : List ℤ) (v' : Turns) (n : NextRow v (Some x) v') where
    -- how many records are left of the first
    pub abreast_less : length (rows_left v') < length (rows_left v)
    abreast_less = omega (arith, ap length n.row)

    pub abreast_alone : (w' : Turns) → NextRow w None w' → false ≡ same_files g f h
    unfolding same_lists
    abreast_alone w' m = rw (n.row, m.row) at s.left

    module _ (y : List ℤ) (w' : Turns) (m : NextRow w (Some y) w') (b : Bool) (e : b ≡ same_row g f x h y) where
      step : (b && same_lists g f (rows_left v') h (rows_left w')) ≡ same_files g f h
      unfolding same_lists
      step = rw e (rw (n.row, m.row) at s.left)

      pub abreast_differ : b ≡ false → false ≡ same_files g f h
      abreast_differ j = rw j at step

      pub abreast_more : b ≡ true → Abreast g f h v' w'
      abreast_more j = record { left = rw j at step }
