-- States apart from what their loop has come to: lists that differ in points only lead to the same.
use Prim.Native.Nat.{ℕ}
use mathlib.Core.Path.{◌≡◌, refl, sym, ap, ◌∙◌}
use mathlib.Core.List.{List, [], ◌∷◌, ◌++◌}
use Rattle.std.specs.Prelude.{Option, Some as some, None as none, Result, Ok as next, Err as refused}
use mathlib.Core.Bool.{Bool, true, false, cond, ◌&&◌, false≢true}
use native.Mathlib.Omega.{arith}
use borrow.Author.Tests.{eqb-true}
use lib.Dec.{eqb}
use lib.IntN.{pos}
use Rattle.law.specs.Values.{Rec}
use Rattle.law.specs.Kinds.{section_of, role_of}
use Rattle.law.specs.declared.Role.{Role}
use Rattle.law.specs.declared.Role.TheVariants.{Opening as opening, Closing as closing, Title as title, Name as name, Lead as lead, Point as point, Prop as prop, Entry as entry, Part as part, Position as position, Unknown as unknown}
use Rattle.law.specs.declared.Rules.{Rules}
use Rattle.law.specs.declared.FileType.{FileType}
use Rattle.order_loops.specs.Loops.{loop_after, complete}
use Rattle.order_loops.specs.declared.LoopState.{LoopState}
use Rattle.order_loops.specs.declared.LoopState.TheVariants.{Round as round}
use Rattle.law.specs.Records.{many_loops}
use Rattle.order.specs.Marks.{point_of}
use Rattle.order.specs.Stages.{file_of, after}
use Rattle.order.specs.Automaton.{start, is_role, if_fit, after_point, only_if, advance, accepted, accepts, stands_in, may_stand}
use Rattle.order.specs.declared.Stage.{Stage}
use Rattle.order.specs.declared.Phase.{Phase}
use Rattle.order.specs.declared.Phase.TheVariants.{AwaitTitle as await_title, AwaitName as await_name, HeaderFull as header_full, AwaitLead as await_lead, InPoints as in_points, InProps as in_props, InList as in_list, AwaitPart as await_part, AwaitPosition as await_position}
use Rattle.order.specs.declared.State.{State}
use Rattle.order.specs.declared.State.TheVariants.{Between as between, Inside as inside}
use Rattle.order.specs.declared.Reason.TheVariants.{Misplaced as misplaced}
use Rattle.order.specs.declared.Reason.{Reason}
use Rattle.law.specs.Lists.{Line}
use Rattle.basics.proofs.Bools.{both}
use Rattle.order.proofs.Roles.{is_role_true}
use Rattle.shown_lists.proofs.CompletePoints.{Leads, here, step, in_step}
use Rattle.shown_lists.proofs.Complete.{permitted_accepted}
use Rattle.shown_told.proofs.LineComplete.{advanced}
use Rattle.law.specs.LineFaults.{is_point, without_points, Stands}

-- a point line by its role
point_role : (a : Role) → is_role a point ≡ is_point a
point_role opening = refl
point_role closing = refl
point_role title = refl
point_role name = refl
point_role lead = refl
point_role point = refl
point_role prop = refl
point_role entry = refl
point_role part = refl
point_role position = refl
point_role unknown = refl

pub point_true : (a : Role) → is_point a ≡ true → a ≡ point
point_true a e = is_role_true a point (point_role a ∙ e)

pub point_false : (a : Role) → is_point a ≡ false → is_role a point ≡ false
point_false a e = point_role a ∙ e

-- among points, as if a circle were complete
abbrev apart_in : Phase → Phase
apart_in await_title = await_title
apart_in (await_name t) = await_name t
apart_in (header_full t) = header_full t
apart_in await_lead = await_lead
apart_in (in_points l) = in_points (round (pos 0))
apart_in in_props = in_props
apart_in in_list = in_list
apart_in await_part = await_part
apart_in await_position = await_position

abbrev apart : State → State
apart (between g) = between g
apart (inside g s p) = inside g s (apart_in p)

pub next_same : {a b : State} → ◌≡◌ {A = Result State Reason} (next a) (next b) → a ≡ b
next_same {a} {b} e = cc

pub refused_next : {e : Reason} {a : State} → ◌≡◌ {A = Result State Reason} (refused e) (next a) → ⊥
refused_next {e} {a} h = let z : ◌≡◌ {A = ℕ} 0 1 = cc in omega arith

stands_in_lem : (p : Phase) (a : Role) → stands_in (apart_in p) a ≡ stands_in p a
stands_in_lem await_title a = refl
stands_in_lem (await_name t) a = refl
stands_in_lem (header_full t) a = refl
stands_in_lem await_lead a = refl
stands_in_lem (in_points l) a = refl
stands_in_lem in_props a = refl
stands_in_lem in_list a = refl
stands_in_lem await_part a = refl
stands_in_lem await_position a = refl

module _ (v : Rules) where
  stands_apart : (st : State) (k : ℕ) → may_stand v (apart st) k ≡ may_stand v st k
  unfolding may_stand
  stands_apart (between g) k = refl
  stands_apart (inside g s p) k = ap (λ (b : Bool). eqb (section_of v k) s && b) (stands_in_lem p (role_of v k))

  -- a record that moves a state inside a section is a line of that section
  pub is_line : (g : Stage) (s : ℕ) (p : Phase) (t : State) (r : Rec) → advance v (inside g s p) r ≡ next t → Line v (file_of g) s (role_of v r.kind) r × (stands_in p (role_of v r.kind) ≡ true)
  unfolding may_stand
  is_line g s p t r h =
      let d = advanced v (inside g s p) t r h in
      let w = both (eqb (section_of v r.kind) s) _ d.stands in
      (record { in_section = eqb-true _ _ w.0; has_role = refl; is_good = d.fits }, w.1)

  pub role_line : {t : FileType} {s : ℕ} {r : Rec} {a b : Role} → a ≡ b → Line v t s a r → Line v t s b r
  role_line e l = record { in_section = l.in_section; has_role = l.has_role ∙ e; is_good = l.is_good }

  -- a point stays among points
  point_to : (g : Stage) (s : ℕ) (t : State) (o : Option LoopState) → after_point g s o ≡ next t → apart t ≡ inside g s (in_points (round (pos 0)))
  point_to g s t none e = absurd (refused_next e)
  point_to g s t (some l) e = ap apart (sym (next_same e))

  -- where a point may stand
  pub among : (p : Phase) → stands_in p point ≡ true → (l : LoopState) × (p ≡ in_points l)
  among await_title h = absurd (false≢true h)
  among (await_name t) h = absurd (false≢true h)
  among (header_full t) h = absurd (false≢true h)
  among await_lead h = absurd (false≢true h)
  among (in_points l) h = (l, refl)
  among in_props h = absurd (false≢true h)
  among in_list h = absurd (false≢true h)
  among await_part h = absurd (false≢true h)
  among await_position h = absurd (false≢true h)

  pub point_from : (st t : State) (r : Rec) → advance v st r ≡ next t → role_of v r.kind ≡ point → (g : Stage) × (s : ℕ) × (l : LoopState) × (st ≡ inside g s (in_points l)) × (apart t ≡ apart st)
  unfolding may_stand
  point_from (between g) t r h e =
      let d = (advanced v (between g) t r h).stands in
      absurd (false≢true (rw e at d))
  point_from (inside g s p) t r h e =
      let w = is_line g s p t r h in
      let a = among p (rw e at w.1) in
      let x : advance v (inside g s (in_points a.0)) r ≡ next t = rw a.1 at h in
      let y = in_step v g (in_points a.0) (role_line e w.0) in
      (g, s, a.0, ap (inside g s) a.1, rw a.1 (point_to g s t (loop_after (many_loops s) a.0 (point_of r)) (sym y ∙ x)))

  -- any other record does what it does where the loop is complete
  only_complete : (p c d : Bool) (y z t : State)
      → if_fit p true (only_if d (next y)) (if_fit c true (only_if d (next z)) (refused misplaced)) ≡ next t
      → if_fit p true (only_if true (next y)) (if_fit c true (only_if true (next z)) (refused misplaced)) ≡ next t
  only_complete true c true y z t h = h
  only_complete true c false y z t h = absurd (refused_next h)
  only_complete false true true y z t h = h
  only_complete false true false y z t h = absurd (refused_next h)
  only_complete false false d y z t h = absurd (refused_next h)

  other_apart : (st t : State) (r : Rec) → advance v st r ≡ next t → is_role (role_of v r.kind) point ≡ false → advance v (apart st) r ≡ next t
  other_apart (between g) t r h n = h
  other_apart (inside g s await_title) t r h n = h
  other_apart (inside g s (await_name u)) t r h n = h
  other_apart (inside g s (header_full u)) t r h n = h
  other_apart (inside g s await_lead) t r h n = h
  other_apart (inside g s (in_points l)) t r h n =
      let w = (is_line g s (in_points l) t r h).0 in
      let a = role_of v r.kind in
      let x = rw n at (sym (in_step v g (in_points l) w) ∙ h) in
      in_step v g (in_points (round (pos 0))) w ∙ rw n (only_complete (is_role a prop) (is_role a closing) (complete l) (inside g s in_props) (between (after g s)) t x)
  other_apart (inside g s in_props) t r h n = h
  other_apart (inside g s in_list) t r h n = h
  other_apart (inside g s await_part) t r h n = h
  other_apart (inside g s await_position) t r h n = h

  -- so the records but for points say where a list leads, the loop aside
  abbrev after_of : Result State Reason → State → State
  after_of (next t) st = t
  after_of (refused e) st = st

  abbrev walked : State → List Rec → State
  walked st [] = st
  walked st (r ∷ rs) = walked (apart (after_of (advance v st r) st)) rs

  leads_walked : {st en : State} {rs : List Rec} → Leads v st rs en → apart en ≡ walked (apart st) (without_points v rs)
  leads_walked here = refl
  leads_walked {st} {en} (step {mid = t} {r = r} {rs = rs} e k) = go (is_point (role_of v r.kind)) refl (leads_walked k)
    where
      go : (b : Bool) → is_point (role_of v r.kind) ≡ b → apart en ≡ walked (apart t) (without_points v rs)
          → apart en ≡ walked (apart st) (cond b (without_points v rs) (r ∷ without_points v rs))
      go true i h = h ∙ ap (λ (x : State). walked x (without_points v rs)) (point_from st t r e (point_true (role_of v r.kind) i)).4
      go false i h = h ∙ ap (λ (o : Result State Reason). walked (apart (after_of o (apart st))) (without_points v rs)) (sym (other_apart st t r e (point_false (role_of v r.kind) i)))

  -- an accepted list leads to where its parts meet
  pub accepts_part : (qs ms : List Rec) (st : State) → accepts v st (qs ++ ms) ≡ true → (mid : State) × Leads v st qs mid × (accepts v mid ms ≡ true)
  accepts_part [] ms st h = (st, here, h)
  accepts_part (r ∷ qs) ms st h = go (accepts_part qs ms) (advance v st r) refl h
    where
      go : ((t : State) → accepts v t (qs ++ ms) ≡ true → (mid : State) × Leads v t qs mid × (accepts v mid ms ≡ true))
          → (o : Result State Reason) → advance v st r ≡ o → accepted o (λ t. accepts v t (qs ++ ms)) ≡ true → (mid : State) × Leads v st (r ∷ qs) mid × (accepts v mid ms ≡ true)
      go ih (refused e) q h = absurd (false≢true h)
      go ih (next t) q h = let w = ih t h in (w.0, step q w.1, w.2)

  pub accepts_one : (r : Rec) (ms : List Rec) (st : State) → accepts v st (r ∷ ms) ≡ true → (t : State) × (advance v st r ≡ next t)
  accepts_one r ms st h = go (advance v st r) refl h
    where
      go : (o : Result State Reason) → advance v st r ≡ o → accepted o (λ t. accepts v t ms) ≡ true → (t : State) × (advance v st r ≡ next t)
      go (refused e) q h = absurd (false≢true h)
      go (next t) q h = (t, q)

  -- what can stand by the rules may stand in the state
  pub stands_may : {rs : List Rec} {st : State} {k : ℕ} → Leads v start rs st → Stands v rs k → may_stand v st k ≡ true
  stands_may {rs} {st} {k} l s =
      let w = accepts_part s.before (s.this ∷ s.more) start (permitted_accepted v s.permitted) in
      let t = accepts_one s.this s.more w.0 w.2 in
      let m : may_stand v w.0 k ≡ true = ap (may_stand v w.0) (sym s.kind) ∙ (advanced v w.0 t.0 s.this t.1).stands in
      let e : apart w.0 ≡ apart st = leads_walked w.1 ∙ ap (walked (apart start)) s.same ∙ sym (leads_walked l) in
      sym (stands_apart st k) ∙ ap (λ (x : State). may_stand v x k) (sym e) ∙ stands_apart w.0 k ∙ m
