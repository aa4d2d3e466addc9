-- Loops one point at a time: how the points of a section so far may go on.
use Rattle.std.specs.Prelude.{Bool, true, false, cond, not, ◌&&◌, ◌||◌, ℤ, pos, Option, Some as some, None as none}
use Rattle.std.proofs.Math.IntN.{suc_ℤ}
use Rattle.basics.specs.Integers.{eq_z}
use Rattle.rows.specs.declared.Point.{Point}
use Rattle.law.specs.Limits.{whole_turn}
use Rattle.order_loops.specs.declared.Place.{Place}
use Rattle.order_loops.specs.declared.LoopState.{LoopState}
use Rattle.order_loops.specs.declared.LoopState.TheVariants.{NoPoint as no_point, OnePoint as one_point, Away as away, Back as back, Round as round}

-- one point, whatever its spelling
abbrev pub same_place : Place → Place → Bool
same_place p q = eq_z p.x.0 q.x.0 && eq_z p.y.0 q.y.0

-- where a point line is
abbrev pub place_at : Point → Place
place_at d = record { x = d.x; y = d.y }

-- a loop's first point: its angle is 0
abbrev pub begins : Bool → ℤ → Point → Option LoopState
begins may_start label d = cond (may_start && eq_z d.angle.0 (pos 0)) (some (one_point label (place_at d))) none

-- the first loop's label: 0 where there are many loops, elsewhere 0 or 1
abbrev pub first_label : Bool → ℤ → Bool
first_label true l = eq_z l (pos 0)
first_label false l = eq_z l (pos 0) || eq_z l (pos 1)

-- a further point with this label, not at q and not 360
abbrev pub goes_on : ℤ → Place → Point → Bool
goes_on label q d = eq_z d.label label && not (same_place (place_at d) q) && not (eq_z d.angle.0 whole_turn)

-- the second line of a circle that began at f: another point, with angle 360
abbrev pub closes : ℤ → Place → Point → Bool
closes label f d = eq_z d.label label && not (same_place (place_at d) f) && eq_z d.angle.0 whole_turn

-- a loop that began at f and has come to p
abbrev pub reached : ℤ → Place → Place → LoopState
reached label f p = cond (same_place p f) (back label f) (away label f p)

-- one more point, in a section with many loops or with one
unfoldable pub loop_after : Bool → LoopState → Point → Option LoopState
loop_after many no_point d = begins (first_label many d.label) d.label d
loop_after many (one_point l f) d = cond (closes l f d) (some (round l)) (cond (goes_on l f d) (some (reached l f (place_at d))) none)
loop_after many (away l f q) d = cond (goes_on l q d) (some (reached l f (place_at d))) none
loop_after many (back l f) d = cond (goes_on l f d) (some (reached l f (place_at d))) (begins (many && eq_z d.label (suc_ℤ l)) (suc_ℤ l) d)
loop_after many (round l) d = begins (many && eq_z d.label (suc_ℤ l)) (suc_ℤ l) d

-- the last loop has come back, or is a circle
abbrev pub complete : LoopState → Bool
complete no_point = false
complete (one_point l f) = false
complete (away l f q) = false
complete (back l f) = true
complete (round l) = true
