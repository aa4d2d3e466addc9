-- What may stand in a state can stand by the rules: in some permitted list it stands after the same records but for points.
use Prim.Native.Nat.{ℕ}
use mathlib.Core.Path.{◌≡◌, refl, sym, ap, ◌∙◌, subst}
use mathlib.Core.Logic.{◌≢◌}
use mathlib.Core.List.{List, [], ◌∷◌, ◌++◌, append-nil}
use Rattle.std.specs.Prelude.{Some as some, Result, Ok as next, Err as refused}
use mathlib.Core.Bool.{Bool, true, false, cond, ◌&&◌, ◌||◌, false≢true}
use native.Mathlib.Omega.{arith}
use borrow.Author.Tests.{eqb-true}
use lib.Dec.{eqb}
use lib.IntN.{ℤ, pos}
use Rattle.law.specs.Values.{Rec}
use Rattle.law.specs.Sections.{Shape, header, outline, component, keepout, listing, placements}
use Rattle.law.specs.Kinds.{kind_at, section_of, role_of}
use Rattle.law.specs.declared.Role.{Role}
use Rattle.law.specs.declared.Role.TheVariants.{Opening as opening, Closing as closing, Title as title, Name as name, Lead as lead, Point as point, Prop as prop, Entry as entry, Part as part, Position as position, Unknown as unknown}
use Rattle.law.specs.Fits.{under, well_formed}
use Rattle.law.specs.declared.Rules.{Rules}
use Rattle.law.specs.declared.FileType.{FileType}
use Rattle.law.specs.declared.FileType.TheVariants.{Board, Panel, Library}
use Rattle.law.specs.Limits.{whole_turn}
use Rattle.basics.specs.Integers.{eq_z}
use Rattle.order_loops.specs.Loops.{goes_on, reached, loop_after, complete}
use Rattle.order_loops.specs.declared.LoopState.{LoopState}
use Rattle.order_loops.specs.declared.LoopState.TheVariants.{NoPoint as no_point, OnePoint as one_point, Back as back}
use Rattle.law.specs.Records.{shape_of, many_loops, type_in}
use Rattle.order.specs.Marks.{point_of}
use Rattle.order.specs.Places.{point_line}
use Rattle.order.specs.Stages.{file_of, may_open, after}
use Rattle.order.specs.Automaton.{start, start_of, is_role, if_fit, after_title, only_if, at_phase, advance, accepts, stands_in, may_stand}
use Rattle.order.specs.declared.Stage.{Stage}
use Rattle.order.specs.declared.Stage.TheVariants.{Headed as headed}
use Rattle.order.specs.declared.Phase.{Phase}
use Rattle.order.specs.declared.Phase.TheVariants.{AwaitTitle as await_title, AwaitName as await_name, HeaderFull as header_full, AwaitLead as await_lead, InPoints as in_points, InProps as in_props, InList as in_list, AwaitPart as await_part, AwaitPosition as await_position}
use Rattle.order.specs.declared.State.{State}
use Rattle.order.specs.declared.State.TheVariants.{Between as between, Inside as inside}
use Rattle.order.specs.declared.Reason.TheVariants.{Misplaced as misplaced}
use Rattle.order.specs.declared.Reason.{Reason}
use Rattle.law.specs.Lists.{Line, Permitted}
use Rattle.basics.proofs.Bools.{both}
use Rattle.basics.proofs.Integers.{eq_z_same, eq_z_differ}
use Rattle.shown_lists.proofs.Spots.{spot_of, same_same, same_differ}
use Rattle.order.proofs.Roles.{is_role_true}
use Rattle.shown_lists.proofs.Roles.{is_section, has_points}
use Rattle.shown_lists.proofs.Samples.{sample, sample_line, origin_at, origin_line, elsewhere}
use Rattle.shown_lists.proofs.Names.{letters, letters_text}
use Rattle.shown_lists.proofs.ByPlace.{kind_by_lem}
use Rattle.shown_lists.proofs.CompletePoints.{Leads, here, step, leads_append, leads_accepts, open_step, in_step, point_step, second_after, goes_on_lem}
use Rattle.shown_lists.proofs.Sound.{accepted_permitted}
use Rattle.shown_lists.proofs.Sane.{Sane, sane_between, sane_inside, sane_points}
use Rattle.shown_lists.proofs.FirstLine.{sane_leads}
use Rattle.shown_lists.proofs.Viable.{Ending, quietly, with_one, ending}
use Rattle.shown_told.proofs.Fronts.{stands_known}
use Rattle.law.specs.LineFaults.{is_point, without_points, Stands}
use Rattle.shown_told.proofs.Apart.{point_true, point_false, point_from}

-- a state just reached among points by a record that is none has no point yet
abbrev FreshIn : Phase → Type 0
FreshIn await_title = Unit {0}
FreshIn (await_name t) = Unit {0}
FreshIn (header_full t) = Unit {0}
FreshIn await_lead = Unit {0}
FreshIn (in_points l) = l ≡ no_point
FreshIn in_props = Unit {0}
FreshIn in_list = Unit {0}
FreshIn await_part = Unit {0}
FreshIn await_position = Unit {0}

abbrev Fresh : Result State Reason → Type 0
Fresh (next (between g)) = Unit {0}
Fresh (next (inside g s p)) = FreshIn p
Fresh (refused e) = Unit {0}

fresh_fit : (b f : Bool) (x y : Result State Reason) → Fresh x → Fresh y → Fresh (if_fit b f x y)
fresh_fit true true x y p q = p
fresh_fit true false x y p q = tt
fresh_fit false f x y p q = q

fresh_only : (b : Bool) (x : Result State Reason) → Fresh x → Fresh (only_if b x)
fresh_only true x h = h
fresh_only false x h = tt

fresh_start : (f : Shape) → FreshIn (start_of f)
fresh_start header = tt
fresh_start outline = tt
fresh_start component = tt
fresh_start keepout = refl
fresh_start listing = tt
fresh_start placements = tt

fresh_title : (t : FileType) → FreshIn (after_title t)
fresh_title Board = tt
fresh_title Panel = tt
fresh_title Library = tt

fresh_in : (g : Stage) (s : ℕ) (p : Phase) (a : Role) (f : Bool) (r : Rec) → is_role a point ≡ false → Fresh (at_phase g s p a f r)
fresh_in g s await_title a f r n = fresh_fit (is_role a title) f _ _ (fresh_title (type_in r)) tt
fresh_in g s (await_name t) a f r n = fresh_fit (is_role a name) f (next (inside g s (header_full t))) (refused misplaced) tt tt
fresh_in g s (header_full t) a f r n = fresh_fit (is_role a closing) f (next (between _)) (refused misplaced) tt tt
fresh_in g s await_lead a f r n = fresh_fit (is_role a lead) f (next (inside g s (in_points no_point))) (refused misplaced) refl tt
fresh_in g s (in_points l) a f r n =
    rw n (fresh_fit (is_role a prop) f (only_if (complete l) (next (inside g s in_props))) _ (fresh_only (complete l) (next (inside g s in_props)) tt)
    (fresh_fit (is_role a closing) f (only_if (complete l) (next (between (after g s)))) (refused misplaced) (fresh_only (complete l) (next (between (after g s))) tt) tt))
fresh_in g s in_props a f r n = fresh_fit (is_role a prop) f (next (inside g s in_props)) _ tt (fresh_fit (is_role a closing) f (next (between (after g s))) (refused misplaced) tt tt)
fresh_in g s in_list a f r n = fresh_fit (is_role a entry) f (next (inside g s in_list)) _ tt (fresh_fit (is_role a closing) f (next (between (after g s))) (refused misplaced) tt tt)
fresh_in g s await_part a f r n = fresh_fit (is_role a part) f (next (inside g s await_position)) _ tt (fresh_fit (is_role a closing) f (next (between (after g s))) (refused misplaced) tt tt)
fresh_in g s await_position a f r n = fresh_fit (is_role a position) f (next (inside g s await_part)) (refused misplaced) tt tt

-- a line that may stand in a phase, not among points, leads on
or_next : (a b : Bool) (x y : State) → (a || b) ≡ true → (t : State) × (if_fit a true (next x) (if_fit b true (next y) (refused misplaced)) ≡ next t)
or_next true b x y h = (x, refl)
or_next false true x y h = (y, refl)
or_next false false x y h = absurd (false≢true h)

one_next : (a : Bool) (x : State) → a ≡ true → (t : State) × (if_fit a true (next x) (refused misplaced) ≡ next t)
one_next true x h = (x, refl)
one_next false x h = absurd (false≢true h)

closed_next : (a b c : Bool) (x y : State) (o : Result State Reason) → a ≡ false → (a || b || c) ≡ true
    → (t : State) × (if_fit a true o (if_fit b true (only_if true (next x)) (if_fit c true (only_if true (next y)) (refused misplaced))) ≡ next t)
closed_next true b c x y o n h = absurd (false≢true (sym n))
closed_next false b c x y o n h = or_next b c x y h

module _ (v : Rules) where
  fresh : (st : State) (r : Rec) → is_role (role_of v r.kind) point ≡ false → Fresh (advance v st r)
  unfolding advance
  fresh (between g) r n =
      let q = section_of v r.kind in
      fresh_fit (is_role (role_of v r.kind) opening && may_open v g q) (well_formed (under v (file_of g)) r) (next (inside g q (start_of (shape_of v q)))) (refused misplaced) (fresh_start (shape_of v q)) tt
  fresh (inside g s p) r n = go (eqb (section_of v r.kind) s)
    where
      go : (b : Bool) → Fresh (cond b (at_phase g s p (role_of v r.kind) (well_formed (under v (file_of g)) r) r) (refused misplaced))
      go true = fresh_in g s p (role_of v r.kind) (well_formed (under v (file_of g)) r) r n
      go false = tt

  -- an end from a state
  ends : (st : State) → Sane v st → (more : List Rec) × (accepts v st more ≡ true)
  ends st h = go (ending v (letters 0) (letters_text 0) h)
    where
      go : Ending v (letters 0) (letters_text 0) st → (more : List Rec) × (accepts v st more ≡ true)
      go (quietly q) = (q.rest, q.ends)
      go (with_one ms a n) = (ms, a)

  -- a list that goes on with a record is permitted with some end
  pub carries_on : {qs : List Rec} {st t : State} (r : Rec) → Leads v start qs st → advance v st r ≡ next t → (more : List Rec) × Permitted v (qs ++ (r ∷ more))
  carries_on {qs} {st} {t} r l e =
      let w = ends t (sane_leads v (leads_append v l (step e here)) sane_between) in
      (w.0, accepted_permitted v (qs ++ (r ∷ w.0)) (leads_accepts v l (r ∷ w.0) ∙ rw e w.1))

  -- a list that leads among points, without the points of the section that is open
  data Bared (st : State) (g : Stage) (s : ℕ) (rs : List Rec) : Type 0 where
    bare : (qs : List Rec) → Leads v st qs (inside g s (in_points no_point)) → without_points v qs ≡ without_points v rs → Bared st g s rs
    all_points : (l : LoopState) → st ≡ inside g s (in_points l) → without_points v rs ≡ [] → Bared st g s rs

  bared_on : (st t : State) (g : Stage) (s : ℕ) (r : Rec) (rs : List Rec) → advance v st r ≡ next t → Bared t g s rs → Bared st g s (r ∷ rs)
  bared_on st t g s r rs e (bare qs l h) = bare (r ∷ qs) (step e l) (ap (λ (w : List Rec). cond (is_point (role_of v r.kind)) w (r ∷ w)) h)
  bared_on st t g s r rs e (all_points l i h) = go (is_point (role_of v r.kind)) refl
    where
      to : advance v st r ≡ next (inside g s (in_points l))
      to = e ∙ ap next i

      go : (b : Bool) → is_point (role_of v r.kind) ≡ b → Bared st g s (r ∷ rs)
      go true n =
          let w = point_from v st t r e (point_true (role_of v r.kind) n) in
          let m = w.3 in
          let z = rw (i, m) at w.4 in
          let y : w.0 ≡ g = cc in
          let x : w.1 ≡ s = cc in
          all_points w.2 (rw (y, x) at m) (rw n h)
      go false n =
          let f : l ≡ no_point = subst Fresh to (fresh st r (point_false (role_of v r.kind) n)) in
          bare (r ∷ []) (step (rw f at to) here) (rw (n, h))

  bared : {st : State} {g : Stage} {s : ℕ} {l : LoopState} {rs : List Rec} → Leads v st rs (inside g s (in_points l)) → Bared st g s rs
  bared {l = l} here = all_points l refl refl
  bared {st} {g} {s} (step {mid = t} {r = r} {rs = rs} e k) = bared_on st t g s r rs e (bared k)

  without_append : (qs ps : List Rec) → without_points v (qs ++ ps) ≡ without_points v qs ++ without_points v ps
  without_append [] ps = refl
  without_append (r ∷ qs) ps = go (is_point (role_of v r.kind)) (without_append qs ps)
    where
      go : (b : Bool) → without_points v (qs ++ ps) ≡ without_points v qs ++ without_points v ps
          → cond b (without_points v (qs ++ ps)) (r ∷ without_points v (qs ++ ps)) ≡ cond b (without_points v qs) (r ∷ without_points v qs) ++ without_points v ps
      go true e = e
      go false e = ap (λ (w : List Rec). r ∷ w) e

  flat_not_full : (z : ℤ) → z ≡ pos 0 → z ≢ whole_turn
  flat_not_full z a b = let y : ◌≡◌ {A = ℕ} 0 36000000 = cc in omega arith

  -- three points that make a path
  module _ (g : Stage) (s : ℕ) (i : is_section v s ≡ true) (h : has_points (shape_of v s) ≡ true) where
    abbrev one : Rec
    one = origin_at (kind_at v s (point_line (shape_of v s)))

    one_line : Line v (file_of g) s point one
    one_line = origin_line v (file_of g) s i h

    one_begins : (many : Bool) → loop_after many no_point (point_of one) ≡ some (one_point (pos 0) (spot_of one))
    unfolding loop_after eq_z
    one_begins true = refl
    one_begins false = refl

    first_step : advance v (inside g s (in_points no_point)) one ≡ next (inside g s (in_points (one_point (pos 0) (spot_of one))))
    first_step = point_step v g no_point _ one_line (one_begins (many_loops s))

    record Path : Type 0 where
      points : List Rec
      leads : Leads v (inside g s (in_points no_point)) points (inside g s (in_points (back (pos 0) (spot_of one))))
      only : without_points v points ≡ []

    path : Path
    path =
        let x = elsewhere v one_line in
        let b = x.there in
        let n = x.other_place in
        let second = second_after v (many_loops s) (pos 0) (spot_of one) b x.same_label n (flat_not_full _ x.same_angle) in
        let on : goes_on (pos 0) (spot_of b) (point_of one) ≡ true = rw (eq_z_same (pos 0) (pos 0) refl, same_differ (spot_of one) (spot_of b) (λ e. n (sym e)), eq_z_differ (pos 0) whole_turn (flat_not_full (pos 0) refl)) in
        let home : reached (pos 0) (spot_of one) (spot_of one) ≡ back (pos 0) (spot_of one) = rw (same_same (spot_of one) (spot_of one) refl) in
        let third = goes_on_lem v (many_loops s) (pos 0) (spot_of one) (spot_of b) one on ∙ ap some home in
        record {
          points = one ∷ b ∷ one ∷ [];
          leads = step first_step (step (point_step v g _ _ x.is_line second) (step (point_step v g _ _ one_line third) here));
          only = rw (one_line.has_role, x.is_line.has_role);
        }

  module _ (rs : List Rec) (k : ℕ) where
    sampled : (g : Stage) (s : ℕ) (a : Role) → is_role a unknown ≡ false → section_of v k ≡ s → role_of v k ≡ a → Line v (file_of g) s a (sample v (letters 0) k)
    sampled g s a u e i = sample_line v (letters 0) (letters_text 0) (file_of g) s a k u e i

    by_step : {qs : List Rec} {st t : State} (r : Rec) → Leads v start qs st → advance v st r ≡ next t → without_points v qs ≡ without_points v rs → r.kind ≡ k → Stands v rs k
    by_step {qs} r l e w i = let m = carries_on r l e in record { before = qs; this = r; more = m.0; permitted = m.1; same = w; kind = i }

    stands_points : (g : Stage) (s : ℕ) (l : LoopState) → Leads v start rs (inside g s (in_points l)) → section_of v k ≡ s → is_role (role_of v k) unknown ≡ false
        → stands_in (in_points l) (role_of v k) ≡ true → Sane v (inside g s (in_points l)) → Stands v rs k
    stands_points g s l y e u m (sane_inside i (sane_points h f)) = go (bared y)
      where
        closed : {qs : List Rec} → Leads v start qs (inside g s (in_points no_point)) → without_points v qs ≡ without_points v rs → is_role (role_of v k) point ≡ false → Stands v rs k
        closed {qs} x w n =
            let p = path g s i h in
            let a = role_of v k in
            let r = sample v (letters 0) k in
            let t = closed_next (is_role a point) (is_role a prop) (is_role a closing) (inside g s in_props) (between (after g s)) _ n m in
            by_step r (leads_append v x p.leads) (in_step v g (in_points (back (pos 0) (spot_of (one g s i h)))) (sampled g s a u e refl) ∙ t.1)
            (without_append qs p.points ∙ ap (λ (z : List Rec). without_points v qs ++ z) p.only ∙ append-nil (without_points v qs) ∙ w) refl

        at : {qs : List Rec} → Leads v start qs (inside g s (in_points no_point)) → without_points v qs ≡ without_points v rs → (b : Bool) → is_role (role_of v k) point ≡ b → Stands v rs k
        at x w true n = by_step (one g s i h) x (first_step g s i h) w (sym (kind_by_lem v k e point refl (is_role_true _ _ n)))
        at x w false n = closed x w n

        go : Bared start g s rs → Stands v rs k
        go (bare qs x w) = at x w (is_role (role_of v k) point) refl
        go (all_points l z w) = let q : ◌≡◌ {A = ℕ} 0 1 = cc in absurd (omega arith)

    module _ (g : Stage) (s : ℕ) (e : section_of v k ≡ s) (u : is_role (role_of v k) unknown ≡ false) where
      abbrev its : Role
      its = role_of v k

      -- a phase that is not among points
      leads_on : (p : Phase) → Leads v start rs (inside g s p) → (t : State) × (at_phase g s p its true (sample v (letters 0) k) ≡ next t) → Stands v rs k
      leads_on p y t = by_step (sample v (letters 0) k) y (in_step v g p (sampled g s its u e refl) ∙ t.1) refl refl

      stands_in_lem : (p : Phase) → Leads v start rs (inside g s p) → stands_in p its ≡ true → Stands v rs k
      stands_in_lem await_title y m = leads_on await_title y (one_next (is_role its title) (inside g s (after_title (type_in (sample v (letters 0) k)))) m)
      stands_in_lem (await_name t) y m = leads_on (await_name t) y (one_next (is_role its name) (inside g s (header_full t)) m)
      stands_in_lem (header_full t) y m = leads_on (header_full t) y (one_next (is_role its closing) (between (headed t)) m)
      stands_in_lem await_lead y m = leads_on await_lead y (one_next (is_role its lead) (inside g s (in_points no_point)) m)
      stands_in_lem (in_points l) y m = stands_points g s l y e u m (sane_leads v y sane_between)
      stands_in_lem in_props y m = leads_on in_props y (or_next (is_role its prop) (is_role its closing) (inside g s in_props) (between (after g s)) m)
      stands_in_lem in_list y m = leads_on in_list y (or_next (is_role its entry) (is_role its closing) (inside g s in_list) (between (after g s)) m)
      stands_in_lem await_part y m = leads_on await_part y (or_next (is_role its part) (is_role its closing) (inside g s await_position) (between (after g s)) m)
      stands_in_lem await_position y m = leads_on await_position y (one_next (is_role its position) (inside g s await_part) m)

    pub may_stands : (st : State) → Leads v start rs st → may_stand v st k ≡ true → Stands v rs k
    unfolding may_stand
    may_stands (between g) y m =
        let w = both (is_role (role_of v k) opening) _ m in
        let r = sample v (letters 0) k in
        by_step r y (open_step v g (sampled g (section_of v k) opening refl refl (is_role_true _ _ w.0)) w.1) refl refl
    may_stands (inside g s p) y m =
        let w = both (eqb (section_of v k) s) _ m in
        stands_in_lem g s (eqb-true _ _ w.0) (stands_known v (inside g s p) k m) p y w.1
