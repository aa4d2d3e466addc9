-- The steps of the loop rule as the code takes them.
use Rattle.std.specs.Prelude.{Bool, cond, ◌&&◌, ℤ, Option, Some as some, None as none}
use Rattle.std.proofs.Math.IntN.{suc_ℤ}
use Rattle.rows.specs.declared.Point.{Point}
use Rattle.basics.specs.Integers.{eq_z}
use Rattle.law.specs.Limits.{whole_turn}
use Rattle.order_loops.specs.Loops.{place_at, begins, goes_on, closes, reached}
use Rattle.order_loops.specs.declared.Place.{Place}
use Rattle.order_loops.specs.declared.LoopState.{LoopState}
use Rattle.order_loops.specs.declared.LoopState.TheVariants.{Round}

-- the angle of a point is 360
abbrev pub turns_by : Point → Bool
turns_by d = eq_z d.angle.0 whole_turn

-- a loop that began at f and has come to q goes on
abbrev pub went_on : ℤ → Place → Place → Point → Option LoopState
went_on label f q d = cond (goes_on label q d) (some (reached label f (place_at d))) none

-- the next loop begins
abbrev pub next_loop : Bool → ℤ → Point → Option LoopState
next_loop many label d = begins (many && eq_z d.label (suc_ℤ label)) (suc_ℤ label) d

-- the second line of a loop that began at f
abbrev pub second_by : ℤ → Place → Point → Option LoopState
second_by label f d = cond (closes label f d) (some (Round label)) (went_on label f f d)

-- a point after a path that is back at its first
abbrev pub after_back : Bool → ℤ → Place → Point → Option LoopState
after_back many label f d = cond (goes_on label f d) (some (reached label f (place_at d))) (next_loop many label d)
