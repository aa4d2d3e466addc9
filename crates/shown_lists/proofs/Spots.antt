-- A place as the loop rule holds it, and as the law does.
use Prim.Native.Nat.{ℕ, zero, suc}
use mathlib.Core.Path.{◌≡◌, ap}
use mathlib.Core.Logic.{◌≢◌}
use mathlib.Core.Bool.{true, false}
use native.Mathlib.Omega.{arith}
use lib.IntN.{ℤ, pos, negsuc, suc_ℤ}
use Rattle.basics.proofs.Integers.{eq_z_true, eq_z_same}
use Rattle.basics.proofs.Bools.{both, not_both, fails}
use Rattle.basics.specs.Integers.{eq_z}
use Rattle.law.specs.Values.{Rec}
use Rattle.law.specs.Records.{Place}
use Rattle.order.specs.Marks.{point_of}
use Rattle.order_loops.specs.Loops.{same_place, place_at}
use Rattle.order_loops.specs.declared.Place.{Place as Spot}

-- a place as the loop rule holds it, by the rules, and that of a point line
abbrev pub spot : Spot → Place
spot p = record { x = p.x.0; y = p.y.0 }

abbrev pub held : Place → Spot
held p = record { x = record { 0 = p.x }; y = record { 0 = p.y } }

abbrev pub spot_of : Rec → Spot
spot_of r = place_at (point_of r)

pub same_true : (p q : Spot) → same_place p q ≡ true → p ≡ q
same_true p q h =
    let w = both (eq_z p.x.0 q.x.0) (eq_z p.y.0 q.y.0) h in
    let ex = eq_z_true _ _ w.0 in
    let ey = eq_z_true _ _ w.1 in
    λ i. record { x = record { 0 = ex i }; y = record { 0 = ey i } }

pub same_spot : (p q : Spot) → same_place p q ≡ true → spot p ≡ spot q
same_spot p q h = ap spot (same_true p q h)

pub same_same : (p q : Spot) → spot p ≡ spot q → same_place p q ≡ true
same_same p q e = rw (eq_z_same _ _ (ap (λ (r : Place). r.x) e), eq_z_same _ _ (ap (λ (r : Place). r.y) e))

pub same_false : (p q : Spot) → same_place p q ≡ false → spot p ≢ spot q
same_false p q h e = not_both (same_same p q e) h

pub same_differ : (p q : Spot) → spot p ≢ spot q → same_place p q ≡ false
same_differ p q n = fails (spot p) (spot q) (same_place p q) (same_spot p q) n

pub suc_differs : (l : ℤ) → suc_ℤ l ≢ l
suc_differs (pos n) e = let z : suc n ≡ n = cc in omega arith
suc_differs (negsuc zero) e = let z : ◌≡◌ {A = ℕ} 0 1 = cc in omega arith
suc_differs (negsuc (suc n)) e = let z : suc n ≡ n = cc in omega arith
