-- What a record does, in three steps: may a line of its kind stand here, is it well formed, and what does it then do.
use Prim.Native.Nat.{ℕ}
use mathlib.Core.Path.{◌≡◌, refl, sym, ◌∙◌}
use mathlib.Core.Bool.{Bool, true, false, cond, ◌&&◌, ◌||◌, false≢true}
use lib.Dec.{eqb}
use Rattle.std.specs.Prelude.{Result, Ok as next, Err as refused}
use Rattle.rows.specs.declared.Point.{Point}
use Rattle.law.specs.Values.{Rec}
use Rattle.law.specs.Kinds.{section_of, role_of}
use Rattle.law.specs.declared.Role.{Role}
use Rattle.law.specs.declared.Role.TheVariants.{Closing as closing, Title as title, Point as point, Prop as prop, Entry as entry, Part as part}
use Rattle.law.specs.Fits.{under, well_formed}
use Rattle.law.specs.declared.Rules.{Rules}
use Rattle.law.specs.declared.FileType.{FileType}
use Rattle.order.specs.Marks.{point_of}
use Rattle.law.specs.Records.{type_in}
use Rattle.order_loops.specs.Loops.{complete}
use Rattle.order.specs.Stages.{file_of}
use Rattle.order.specs.Automaton.{is_role, if_fit, only_if, at_phase, advance, type_at, stands_in, may_stand, moved_in, moved, stepped}
use Rattle.order.specs.declared.Stage.{Stage}
use Rattle.order.specs.declared.Phase.{Phase}
use Rattle.order.specs.declared.Phase.TheVariants.{AwaitTitle as await_title, AwaitName as await_name, HeaderFull as header_full, AwaitLead as await_lead, InPoints as in_points, InProps as in_props, InList as in_list, AwaitPart as await_part, AwaitPosition as await_position}
use Rattle.order.specs.declared.State.{State}
use Rattle.order.specs.declared.State.TheVariants.{Between as between, Inside as inside}
use Rattle.order.specs.declared.Reason.{Reason}
use Rattle.order.specs.declared.Reason.TheVariants.{Misplaced as misplaced, Unfit as unfit}

-- two roles that are looked for in turn
two_ways : (a b fit : Bool) (x y : State)
    → if_fit a fit (next x) (if_fit b fit (next y) (refused misplaced)) ≡ cond (a || b) (cond fit (next (cond a x y)) (refused unfit)) (refused misplaced)
two_ways true b fit x y = refl
two_ways false true fit x y = refl
two_ways false false fit x y = refl

-- a point; or PROP or the closing line, once the loop is complete
three_ways : (a b c fit done : Bool) (o : Result State Reason) (x y : State)
    → if_fit a fit o (if_fit b fit (only_if done (next x)) (if_fit c fit (only_if done (next y)) (refused misplaced)))
    ≡ cond (a || b || c) (cond fit (cond a o (only_if done (next (cond b x y)))) (refused unfit)) (refused misplaced)
three_ways true b c fit done o x y = refl
three_ways false true c fit done o x y = refl
three_ways false false true fit done o x y = refl
three_ways false false false fit done o x y = refl

phase_is : (g : Stage) (s : ℕ) (p : Phase) (role : Role) (fit : Bool) (r : Rec)
    → at_phase g s p role fit r ≡ cond (stands_in p role) (cond fit (moved_in g s p role (type_in r) (point_of r)) (refused unfit)) (refused misplaced)
phase_is g s await_title role fit r = refl
phase_is g s (await_name t) role fit r = refl
phase_is g s (header_full t) role fit r = refl
phase_is g s await_lead role fit r = refl
phase_is g s (in_points l) role fit r = three_ways (is_role role point) (is_role role prop) (is_role role closing) fit (complete l) _ _ _
phase_is g s in_props role fit r = two_ways (is_role role prop) (is_role role closing) fit _ _
phase_is g s in_list role fit r = two_ways (is_role role entry) (is_role role closing) fit _ _
phase_is g s await_part role fit r = two_ways (is_role role part) (is_role role closing) fit _ _
phase_is g s await_position role fit r = refl

-- the split that the code uses
pub advance_is : (v : Rules) (st : State) (r : Rec)
    → advance v st r
    ≡ cond (may_stand v st r.kind) (cond (well_formed (under v (type_at st)) r) (moved v st r.kind (type_in r) (point_of r)) (refused unfit)) (refused misplaced)
unfolding advance may_stand moved
advance_is v (between g) r = refl
advance_is v (inside g s p) r = go (eqb (section_of v r.kind) s)
  where
    role : Role
    role = role_of v r.kind

    fit : Bool
    fit = well_formed (under v (file_of g)) r

    go : (b : Bool)
        → cond b (at_phase g s p role fit r) (refused misplaced)
        ≡ cond (b && stands_in p role) (cond fit (moved_in g s p role (type_in r) (point_of r)) (refused unfit)) (refused misplaced)
    go true = phase_is g s p role fit r
    go false = refl

-- the code's step is the automaton's, for a record that is well formed
pub advance_stepped : (v : Rules) (st : State) (r : Rec) → well_formed (under v (type_at st)) r ≡ true → advance v st r ≡ stepped v st r.kind (type_in r) (point_of r)
unfolding stepped
advance_stepped v st r h = advance_is v st r ∙ rw h

-- the point counts only at a point line
pub point_only : (v : Rules) (st : State) (k : ℕ) (t : FileType) (d e : Point) → is_role (role_of v k) point ≡ false
    → moved v st k t d ≡ moved v st k t e
unfolding moved
point_only v (between g) k t d e h = refl
point_only v (inside g s p) k t d e h = go p
  where
    go : (p : Phase) → moved_in g s p (role_of v k) t d ≡ moved_in g s p (role_of v k) t e
    go await_title = refl
    go (await_name u) = refl
    go (header_full u) = refl
    go await_lead = refl
    go (in_points l) = rw h
    go in_props = refl
    go in_list = refl
    go await_part = refl
    go await_position = refl

title_stands : (a b : Bool) → (a && b) ≡ true → b ≡ false → ⊥
title_stands true b h e = false≢true (sym e ∙ h)
title_stands false b h e = false≢true h

-- the type counts only at a title line
pub title_only : (v : Rules) (st : State) (k : ℕ) (t u : FileType) (d : Point) → may_stand v st k ≡ true → is_role (role_of v k) title ≡ false
    → moved v st k t d ≡ moved v st k u d
unfolding moved may_stand
title_only v (between g) k t u d m h = refl
title_only v (inside g s p) k t u d m h = go p m
  where
    go : (p : Phase) → (eqb (section_of v k) s && stands_in p (role_of v k)) ≡ true → moved_in g s p (role_of v k) t d ≡ moved_in g s p (role_of v k) u d
    go await_title m = absurd (title_stands (eqb (section_of v k) s) (is_role (role_of v k) title) m h)
    go (await_name w) m = refl
    go (header_full w) m = refl
    go await_lead m = refl
    go (in_points l) m = refl
    go in_props m = refl
    go in_list m = refl
    go await_part m = refl
    go await_position m = refl
