-- Every state that a list can reach remembers well_formed_lem records, and its phase is one of its section.
use Prim.Native.Nat.{ℕ}
use mathlib.Core.Path.{◌≡◌, refl, ap}
use mathlib.Core.Logic.{◌≢◌}
use Rattle.std.specs.Prelude.{Option, Some as some, None as none, Result, Ok as next, Err as refused}
use mathlib.Core.Bool.{Bool, true, false, cond, ◌&&◌}
use lib.Dec.{eqb}
use lib.IntN.{ℤ, pos, suc_ℤ}
use borrow.Author.Tests.{eqb-true}
use Rattle.basics.proofs.Integers.{eq_z_true}
use Rattle.basics.proofs.Bools.{both}
use Rattle.basics.specs.Integers.{eq_z}
use Rattle.law.specs.Values.{Rec}
use Rattle.law.specs.Sections.{Shape, header, outline, component, keepout, listing, placements}
use Rattle.law.specs.Kinds.{section_of, role_of}
use Rattle.law.specs.declared.Role.{Role}
use Rattle.law.specs.declared.Role.TheVariants.{Opening as opening, Closing as closing, Title as title, Name as name, Lead as lead, Point as point, Prop as prop, Entry as entry, Part as part, Position as position}
use Rattle.law.specs.Fits.{under, well_formed}
use Rattle.law.specs.declared.Rules.{Rules}
use Rattle.law.specs.declared.FileType.{FileType}
use Rattle.law.specs.declared.FileType.TheVariants.{Board as board, Panel as panel, Library as library}
use Rattle.law.specs.Records.{shape_of, many_loops, label_of, place_of, angle_of, type_in}
use Rattle.order.specs.Marks.{point_of}
use Rattle.order_loops.specs.Loops.{same_place, begins, first_label, goes_on, closes, reached, loop_after, complete}
use Rattle.order.specs.Stages.{may_open, file_of}
use Rattle.order.specs.Automaton.{start_of, is_role, if_fit, after_title, after_point, only_if, at_phase, advance}
use Rattle.order_loops.specs.declared.Place.{Place as Spot}
use Rattle.order.specs.declared.Stage.{Stage}
use Rattle.order_loops.specs.declared.LoopState.{LoopState}
use Rattle.order_loops.specs.declared.LoopState.TheVariants.{NoPoint as no_point, OnePoint as one_point, Away as away, Back as back, Round as round}
use Rattle.order.specs.declared.Phase.{Phase}
use Rattle.order.specs.declared.Phase.TheVariants.{AwaitTitle as await_title, AwaitName as await_name, HeaderFull as header_full, AwaitLead as await_lead, InPoints as in_points, InProps as in_props, InList as in_list, AwaitPart as await_part, AwaitPosition as await_position}
use Rattle.order.specs.declared.State.{State}
use Rattle.order.specs.declared.State.TheVariants.{Between as between, Inside as inside}
use Rattle.order.specs.declared.Reason.TheVariants.{Misplaced as misplaced}
use Rattle.order.specs.declared.Reason.{Reason}
use Rattle.law.specs.Lists.{leads, Line}
use Rattle.shown_lists.proofs.Spots.{spot, spot_of, same_false}
use Rattle.order.proofs.Roles.{is_role_true}
use Rattle.shown_lists.proofs.Roles.{is_section, has_points, led_points, role_known}

module _ (v : Rules) where
  -- the first point of the loop that is being read
  pub record First (t : FileType) (s : ℕ) (label : ℤ) (f : Spot) : Type 0 where
    pub first : Rec
    pub is_line : Line v t s point first
    pub is_label : label_of first ≡ label
    pub is_place : place_of first ≡ spot f
    pub is_flat : angle_of first ≡ pos 0

  pub data Fine (t : FileType) (s : ℕ) : LoopState → Type 0 where
    fine_none : Fine t s no_point
    fine_one : {l : ℤ} {f : Spot} → First t s l f → Fine t s (one_point l f)
    fine_away : {l : ℤ} {f q : Spot} → First t s l f → spot q ≢ spot f → Fine t s (away l f q)
    fine_back : {l : ℤ} {f : Spot} → First t s l f → Fine t s (back l f)
    fine_round : {l : ℤ} → Fine t s (round l)

  -- a phase that the shape of its section has
  pub data SaneIn (g : Stage) (s : ℕ) : Phase → Type 0 where
    sane_title : shape_of v s ≡ header → SaneIn g s await_title
    sane_name : {t : FileType} → shape_of v s ≡ header → SaneIn g s (await_name t)
    sane_full : {t : FileType} → SaneIn g s (header_full t)
    sane_lead : leads (shape_of v s) ≡ true → SaneIn g s await_lead
    sane_points : {l : LoopState} → has_points (shape_of v s) ≡ true → Fine (file_of g) s l → SaneIn g s (in_points l)
    sane_props : SaneIn g s in_props
    sane_list : shape_of v s ≡ listing → SaneIn g s in_list
    sane_part : shape_of v s ≡ placements → SaneIn g s await_part
    sane_position : shape_of v s ≡ placements → SaneIn g s await_position

  -- between sections, or in a section of the table
  pub data Sane : State → Type 0 where
    sane_between : {g : Stage} → Sane (between g)
    sane_inside : {g : Stage} {s : ℕ} {p : Phase} → is_section v s ≡ true → SaneIn g s p → Sane (inside g s p)

  abbrev FineOf : FileType → ℕ → Option LoopState → Type 0
  FineOf t s none = Unit {0}
  FineOf t s (some l) = Fine t s l

  module _ {t : FileType} {s : ℕ} {r : Rec} (k : Line v t s point r) where
    begins_fine : (may : Bool) (label : ℤ) → (may ≡ true → label_of r ≡ label) → FineOf t s (begins may label (point_of r))
    begins_fine may label e = go may (eq_z (angle_of r) (pos 0)) refl e
      where
        go : (a b : Bool) → eq_z (angle_of r) (pos 0) ≡ b → (a ≡ true → label_of r ≡ label)
            → FineOf t s (cond (a && b) (some (one_point label (spot_of r))) none)
        go true true h e = fine_one (record { first = r; is_line = k; is_label = e refl; is_place = refl; is_flat = eq_z_true _ _ h })
        go true false h e = tt
        go false b h e = tt

    reached_fine : (l : ℤ) (f : Spot) → First t s l f → Fine t s (reached l f (spot_of r))
    reached_fine l f a = go (same_place (spot_of r) f) refl
      where
        go : (b : Bool) → same_place (spot_of r) f ≡ b → Fine t s (cond b (back l f) (away l f (spot_of r)))
        go true e = fine_back a
        go false e = fine_away a (same_false (spot_of r) f e)

    pick_fine : (b : Bool) (x y : Option LoopState) → FineOf t s x → FineOf t s y → FineOf t s (cond b x y)
    pick_fine true x y p q = p
    pick_fine false x y p q = q

    next_fine : (many : Bool) (l : ℤ) → FineOf t s (begins (many && eq_z (label_of r) (suc_ℤ l)) (suc_ℤ l) (point_of r))
    next_fine many l = begins_fine (many && eq_z (label_of r) (suc_ℤ l)) (suc_ℤ l) (λ h. eq_z_true _ _ (both many _ h).1)

    fine_after : (many : Bool) {l : LoopState} → Fine t s l → FineOf t s (loop_after many l (point_of r))
    unfolding loop_after
    fine_after many fine_none = begins_fine (first_label many (label_of r)) (label_of r) (λ h. refl)
    fine_after many (fine_one {l} {f} a) = pick_fine (closes l f (point_of r)) _ _ fine_round (pick_fine (goes_on l f (point_of r)) _ _ (reached_fine l f a) tt)
    fine_after many (fine_away {l} {f} {q} a n) = pick_fine (goes_on l q (point_of r)) _ _ (reached_fine l f a) tt
    fine_after many (fine_back {l} {f} a) = pick_fine (goes_on l f (point_of r)) _ _ (reached_fine l f a) (next_fine many l)
    fine_after many (fine_round {l}) = next_fine many l

  abbrev pub SaneOf : Result State Reason → Type 0
  SaneOf (next st) = Sane st
  SaneOf (refused e) = Unit {0}

  sane_start : (g : Stage) (s : ℕ) (f : Shape) → shape_of v s ≡ f → SaneIn g s (start_of f)
  sane_start g s header e = sane_title e
  sane_start g s outline e = sane_lead (ap leads e)
  sane_start g s component e = sane_lead (ap leads e)
  sane_start g s keepout e = sane_points (ap has_points e) fine_none
  sane_start g s listing e = sane_list e
  sane_start g s placements e = sane_part e

  sane_title_on : (g : Stage) (s : ℕ) (t : FileType) → shape_of v s ≡ header → SaneIn g s (after_title t)
  sane_title_on g s board e = sane_name e
  sane_title_on g s panel e = sane_name e
  sane_title_on g s library e = sane_full

  sane_if : (done : Bool) (x : Result State Reason) → SaneOf x → SaneOf (only_if done x)
  sane_if true x h = h
  sane_if false x h = tt

  module _ (g : Stage) (s : ℕ) (r : Rec) (in-s : section_of v r.kind ≡ s) (i : is_section v s ≡ true) where
    sane_point : (o : Option LoopState) → has_points (shape_of v s) ≡ true → FineOf (file_of g) s o → SaneOf (after_point g s o)
    sane_point none h f = tt
    sane_point (some l) h f = sane_inside i (sane_points h f)

    sane_way : (a : Role) (x y : Result State Reason) → (Line v (file_of g) s a r → SaneOf x) → SaneOf y
        → SaneOf (if_fit (is_role (role_of v r.kind) a) (well_formed (under v (file_of g)) r) x y)
    sane_way a x y k l = go (is_role (role_of v r.kind) a) (well_formed (under v (file_of g)) r) refl refl
      where
        go : (has fit : Bool) → is_role (role_of v r.kind) a ≡ has → well_formed (under v (file_of g)) r ≡ fit → SaneOf (if_fit has fit x y)
        go true true e f = k (record { in_section = in-s; has_role = is_role_true _ _ e; is_good = f })
        go true false e f = tt
        go false fit e f = l

    sane_phase : {p : Phase} → SaneIn g s p → SaneOf (at_phase g s p (role_of v r.kind) (well_formed (under v (file_of g)) r) r)
    sane_phase (sane_title e) = sane_way title _ _ (λ k. sane_inside i (sane_title_on g s (type_in r) e)) tt
    sane_phase (sane_name e) = sane_way name _ _ (λ k. sane_inside i sane_full) tt
    sane_phase sane_full = sane_way closing _ _ (λ k. sane_between) tt
    sane_phase (sane_lead e) = sane_way lead _ _ (λ k. sane_inside i (sane_points (led_points (shape_of v s) e) fine_none)) tt
    sane_phase (sane_points {l = l} h f) =
        sane_way point _ _ (λ k. sane_point (loop_after (many_loops s) l (point_of r)) h (fine_after k (many_loops s) f))
        (sane_way prop _ _ (λ k. sane_if (complete l) _ (sane_inside i sane_props)) (sane_way closing _ _ (λ k. sane_if (complete l) _ sane_between) tt))
    sane_phase sane_props = sane_way prop _ _ (λ k. sane_inside i sane_props) (sane_way closing _ _ (λ k. sane_between) tt)
    sane_phase (sane_list e) = sane_way entry _ _ (λ k. sane_inside i (sane_list e)) (sane_way closing _ _ (λ k. sane_between) tt)
    sane_phase (sane_part e) = sane_way part _ _ (λ k. sane_inside i (sane_position e)) (sane_way closing _ _ (λ k. sane_between) tt)
    sane_phase (sane_position e) = sane_way position _ _ (λ k. sane_inside i (sane_part e)) tt

  sane_within : {g : Stage} {s : ℕ} {p : Phase} (r : Rec) → is_section v s ≡ true → SaneIn g s p → SaneOf (advance v (inside g s p) r)
  unfolding advance
  sane_within {g} {s} {p} r i h = go (eqb (section_of v r.kind) s) refl
    where
      go : (b : Bool) → eqb (section_of v r.kind) s ≡ b
          → SaneOf (cond b (at_phase g s p (role_of v r.kind) (well_formed (under v (file_of g)) r) r) (refused misplaced))
      go true e = sane_phase g s r (eqb-true _ _ e) i h
      go false e = tt

  -- a line that opens is of a section
  sane_open : (g : Stage) (r : Rec) → SaneOf (advance v (between g) r)
  unfolding advance
  sane_open g r = go (is_role (role_of v r.kind) opening && may_open v g s) (well_formed (under v (file_of g)) r) refl
    where
      s : ℕ
      s = section_of v r.kind

      go : (a b : Bool) → (is_role (role_of v r.kind) opening && may_open v g s) ≡ a
          → SaneOf (if_fit a b (next (inside g s (start_of (shape_of v s)))) (refused misplaced))
      go true true e =
          let o : role_of v r.kind ≡ opening = is_role_true _ _ (both (is_role (role_of v r.kind) opening) (may_open v g s) e).0 in
          sane_inside (role_known v r.kind (rw o refl)) (sane_start g s (shape_of v s) refl)
      go true false e = tt
      go false b e = tt

  pub sane_advance : {st : State} (r : Rec) → Sane st → SaneOf (advance v st r)
  sane_advance r (sane_between {g}) = sane_open g r
  sane_advance r (sane_inside i h) = sane_within r i h
