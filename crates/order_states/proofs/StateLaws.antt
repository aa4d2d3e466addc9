-- Laws of stages and phases as the code reads them.
use Prim.Native.Nat.{ℕ, ◌≤◌, ◌<◌}
use mathlib.Core.Path.{◌≡◌, refl, sym}
use mathlib.Core.Bool.{Bool, true, false, not, ◌&&◌, ◌||◌}
use native.Mathlib.Omega.{arith}
use borrow.Author.Tests.{eqb-true, eqb-false, ne_eqb, le-leb, lt-leb}
use lib.Dec.{leb, eqb}
use Rattle.law.specs.declared.Rules.{Rules}
use Rattle.law.specs.declared.Rules.TheVariants.{Idf3}
use Rattle.law.specs.declared.FileType.{FileType}
use Rattle.law.specs.Records.{shape_of, is_middle, many_loops}
use Rattle.order.specs.Stages.{may_open, after}
use Rattle.order.specs.Automaton.{start_of}
use Rattle.order.specs.declared.Stage.{Stage}
use Rattle.order.specs.declared.Stage.TheVariants.{Middle, Finished}
use Rattle.order.specs.declared.Phase.TheVariants.{InList}
use Rattle.order.proofs.SectionStarts.{start_holes, start_notes}

-- sections by their numbers
pub many_in : (s : ℕ) → 2 ≤ s → s ≤ 4 → true ≡ many_loops s
unfolding many_loops
many_in s h i = rw (le-leb 2 s h, le-leb s 4 i)

pub many_below : (s : ℕ) → s < 2 → false ≡ many_loops s
unfolding many_loops
many_below s h = rw (lt-leb 2 s h)

pub many_above : (s : ℕ) → 4 < s → false ≡ many_loops s
unfolding many_loops
many_above s h = rw (le-leb 2 s (omega arith), lt-leb s 4 h)

pub middle_in : (v : Rules) (s : ℕ) → 4 ≤ s → s ≤ 12 → true ≡ is_middle v s
unfolding is_middle
middle_in Idf3 s h i = rw (le-leb 4 s h, le-leb s 12 i)

pub middle_below : (v : Rules) (s : ℕ) → s < 4 → false ≡ is_middle v s
unfolding is_middle
middle_below Idf3 s h = rw (lt-leb 4 s h)

pub middle_above : (v : Rules) (s : ℕ) → 12 < s → false ≡ is_middle v s
unfolding is_middle
middle_above Idf3 s h = rw (le-leb 4 s (omega arith), lt-leb s 12 h)

pub start_listed : (v : Rules) (s : ℕ) → 11 ≤ s → s ≤ 12 → InList ≡ start_of (shape_of v s)
start_listed v s h i = go (eqb s 11) refl
  where
    go : (t : Bool) → eqb s 11 ≡ t → InList ≡ start_of (shape_of v s)
    go true e = start_holes v s (eqb-true s 11 e)
    go false e = start_notes v s (omega (arith, h, i, eqb-false s 11 e))

-- stages
pub opens_middle : (v : Rules) (t : FileType) (h n m : Bool) (s : ℕ) → m ≡ is_middle v s → (eqb s 13 || (m && not (h && eqb s 11) && not (n && eqb s 12))) ≡ may_open v (Middle t h n) s
unfolding may_open
opens_middle v t h n m s e = rw e

pub after_last : (g : Stage) (t : FileType) (h n : Bool) (s : ℕ) → g ≡ Middle t h n → s ≡ 13 → Finished t ≡ after g s
unfolding after
after_last g t h n s e f = rw (e, f)

pub after_middle : (g : Stage) (t : FileType) (h n : Bool) (s : ℕ) → g ≡ Middle t h n → (s ≡ 13 → ⊥) → Middle t (h || eqb s 11) (n || eqb s 12) ≡ after g s
unfolding after
after_middle g t h n s e f = rw (e, ne_eqb s 13 f)

pub ruleset many_laws = (many_in, many_below, many_above)

pub ruleset middle_laws = (middle_in, middle_below, middle_above)

pub ruleset after_laws = (after_last, after_middle)
