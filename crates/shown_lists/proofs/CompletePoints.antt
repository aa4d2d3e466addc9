-- The points of a section that the rules produce are accepted: they lead from no point to a complete loop.
use Prim.Native.Nat.{ℕ}
use mathlib.Core.Path.{◌≡◌, refl, sym, ap, ◌∙◌, subst}
use mathlib.Core.Logic.{◌≢◌, ◌⊎◌, inl, inr}
use mathlib.Core.List.{List, [], ◌∷◌, ◌++◌}
use Rattle.std.specs.Prelude.{Some as some, Ok as next}
use mathlib.Core.Bool.{Bool, true, false, cond}
use lib.IntN.{ℤ, pos, suc_ℤ}
use Rattle.basics.proofs.Integers.{eq_z_same, eq_z_differ}
use Rattle.basics.proofs.Bools.{eqb_self}
use Rattle.basics.specs.Integers.{eq_z}
use Rattle.law.specs.Values.{Rec}
use Rattle.law.specs.declared.Role.{Role}
use Rattle.law.specs.declared.Role.TheVariants.{Opening as opening, Point as point}
use Rattle.law.specs.declared.Rules.{Rules}
use Rattle.law.specs.declared.FileType.{FileType}
use Rattle.law.specs.Records.{shape_of, many_loops, Place, label_of, place_of, angle_of}
use Rattle.order.specs.Marks.{point_of}
use Rattle.law.specs.Limits.{whole_turn}
use Rattle.order_loops.specs.Loops.{same_place, goes_on, reached, loop_after, complete}
use Rattle.order.specs.Stages.{may_open, file_of}
use Rattle.order.specs.Automaton.{start_of, after_point, at_phase, advance, accepts}
use Rattle.order_loops.specs.declared.Place.{Place as Spot}
use Rattle.order.specs.declared.Stage.{Stage}
use Rattle.order_loops.specs.declared.LoopState.{LoopState}
use Rattle.order_loops.specs.declared.LoopState.TheVariants.{NoPoint as no_point, OnePoint as one_point, Away as away, Back as back, Round as round}
use Rattle.order.specs.declared.Phase.{Phase}
use Rattle.order.specs.declared.Phase.TheVariants.{InPoints as in_points}
use Rattle.order.specs.declared.State.{State}
use Rattle.order.specs.declared.State.TheVariants.{Between as between, Inside as inside}
use Rattle.law.specs.Lists.{Line, Step, Return, last, further, Loop, circle, path, Loops, final, another, Points, numbered, single}
use Rattle.shown_lists.proofs.Spots.{spot, held, spot_of, same_true, same_same, same_differ, suc_differs}

module _ (v : Rules) where
  -- a list of records carries one state to another
  pub data Leads : State → List Rec → State → Type 0 where
    here : {st : State} → Leads st [] st
    step : {st mid en : State} {r : Rec} {rs : List Rec} → advance v st r ≡ next mid → Leads mid rs en → Leads st (r ∷ rs) en

  pub leads_append : {st mid en : State} {rs ms : List Rec} → Leads st rs mid → Leads mid ms en → Leads st (rs ++ ms) en
  leads_append here l = l
  leads_append (step e k) l = step e (leads_append k l)

  pub leads_accepts : {st en : State} {rs : List Rec} → Leads st rs en → (ms : List Rec) → accepts v st (rs ++ ms) ≡ accepts v en ms
  leads_accepts here ms = refl
  leads_accepts (step e k) ms = rw e (leads_accepts k ms)

  module _ {s : ℕ} {r : Rec} (g : Stage) where
    pub open_step : Line v (file_of g) s opening r → may_open v g s ≡ true → advance v (between g) r ≡ next (inside g s (start_of (shape_of v s)))
    unfolding advance
    open_step l m = rw (l.has_role, l.is_good, l.in_section, m)

    pub in_step : {a : Role} (p : Phase) → Line v (file_of g) s a r → advance v (inside g s p) r ≡ at_phase g s p a true r
    unfolding advance
    in_step p l = rw (l.in_section, l.has_role, l.is_good, eqb_self s)

    pub point_step : (l m : LoopState) → Line v (file_of g) s point r → loop_after (many_loops s) l (point_of r) ≡ some m
        → advance v (inside g s (in_points l)) r ≡ next (inside g s (in_points m))
    point_step l m k e = in_step (in_points l) k ∙ ap (after_point g s) e

  step_goes_on : {t : FileType} {s : ℕ} {label : ℤ} {q : Spot} {r : Rec} → Step v t s label (spot q) r → goes_on label q (point_of r) ≡ true
  step_goes_on {t} {s} {label} {q} {r} k =
      rw (eq_z_same _ _ k.has_point_role.labelled, same_differ (spot_of r) q k.elsewhere, eq_z_differ _ _ k.not_360)

  -- a further point, from wherever the loop has come to
  pub goes_on_lem : (many : Bool) (label : ℤ) (f q : Spot) (r : Rec) → goes_on label q (point_of r) ≡ true
      → loop_after many (reached label f q) (point_of r) ≡ some (reached label f (spot_of r))
  unfolding loop_after
  goes_on_lem many label f q r h = go (same_place q f) refl
    where
      go : (b : Bool) → same_place q f ≡ b → loop_after many (cond b (back label f) (away label f q)) (point_of r) ≡ some (reached label f (spot_of r))
      go true e = let w : goes_on label f (point_of r) ≡ true = rw (same_true q f e) at h in rw w
      go false e = rw h

  closes_after : (many : Bool) (label : ℤ) (f : Spot) (r : Rec) → label_of r ≡ label → place_of r ≢ spot f → angle_of r ≡ whole_turn
      → loop_after many (one_point label f) (point_of r) ≡ some (round label)
  unfolding loop_after
  closes_after many label f r a b c = rw (eq_z_same _ _ a, same_differ (spot_of r) f b, eq_z_same _ _ c)

  pub second_after : (many : Bool) (label : ℤ) (f : Spot) (r : Rec) → label_of r ≡ label → place_of r ≢ spot f → angle_of r ≢ whole_turn
      → loop_after many (one_point label f) (point_of r) ≡ some (reached label f (spot_of r))
  unfolding loop_after
  second_after many label f r a b c = rw (eq_z_same _ _ a, same_differ (spot_of r) f b, eq_z_differ _ _ c)

  -- a loop that is complete, and from which a new one may begin
  data Done (label : ℤ) : LoopState → Type 0 where
    done_back : {f : Spot} → Done label (back label f)
    done_round : Done label (round label)

  done_complete : {label : ℤ} {l : LoopState} → Done label l → complete l ≡ true
  done_complete done_back = refl
  done_complete done_round = refl

  -- from l a first point with this label begins a loop
  Begins : Bool → LoopState → ℤ → Type 0
  Begins many l label = (r : Rec) → label_of r ≡ label → angle_of r ≡ pos 0 → loop_after many l (point_of r) ≡ some (one_point label (spot_of r))

  begins_many : Begins true no_point (pos 0)
  unfolding Begins loop_after eq_z
  begins_many r a b = rw (a, b) refl

  begins_one : (label : ℤ) → (label ≡ pos 0) ⊎ (label ≡ pos 1) → Begins false no_point label
  unfolding Begins loop_after eq_z
  begins_one label (inl e) r a b = rw (a, b, e) refl
  begins_one label (inr e) r a b = rw (a, b, e) refl

  begins_next : {label : ℤ} {l : LoopState} → Done label l → Begins true l (suc_ℤ label)
  unfolding Begins loop_after
  begins_next {label} done_back r a b = rw (a, b, eq_z_differ _ _ (suc_differs label), eq_z_same (suc_ℤ label) (suc_ℤ label) refl, eq_z_same (pos 0) (pos 0) refl)
  begins_next {label} done_round r a b = rw (a, b, eq_z_same (suc_ℤ label) (suc_ℤ label) refl, eq_z_same (pos 0) (pos 0) refl)

  module _ (g : Stage) (s : ℕ) where
    return_leads : {label : ℤ} {f q : Place} {rs : List Rec} → Return v (file_of g) s label f q rs
        → Leads (inside g s (in_points (reached label (held f) (held q)))) rs (inside g s (in_points (back label (held f))))
    return_leads {label} {f} (last {q} {r} k e) =
        let z : reached label (held f) (spot_of r) ≡ back label (held f) = rw (same_same (spot_of r) (held f) e) in
        step (point_step g _ _ k.has_point_role.line (goes_on_lem (many_loops s) label (held f) (held q) r (step_goes_on {q = held q} k) ∙ ap some z)) here
    return_leads {label} {f} (further {q} {r} k rest) =
        step (point_step g _ _ k.has_point_role.line (goes_on_lem (many_loops s) label (held f) (held q) r (step_goes_on {q = held q} k))) (return_leads rest)

    -- some points lead from one loop state to a complete one
    record Led (label : ℤ) (l : LoopState) (rs : List Rec) : Type 0 where
      stop : LoopState
      is_done : Done label stop
      is_led : Leads (inside g s (in_points l)) rs (inside g s (in_points stop))

    loop_leads : {label : ℤ} {rs : List Rec} (l : LoopState) → Begins (many_loops s) l label → Loop v (file_of g) s label rs → Led label l rs
    unfolding Begins
    loop_leads {label} l b (circle {a} {b = c} p z q e w) =
        record {
          stop = round label;
          is_done = done_round;
          is_led =
              step (point_step g _ _ p.line (b a p.labelled z))
              (step (point_step g _ _ q.line (closes_after (many_loops s) label (spot_of a) c q.labelled e w)) here);
        }
    loop_leads {label} l b (path {a} {b = c} p z q rest) =
        record {
          stop = back label (spot_of a);
          is_done = done_back;
          is_led =
              step (point_step g _ _ p.line (b a p.labelled z))
              (step (point_step g _ _ q.has_point_role.line (second_after (many_loops s) label (spot_of a) c q.has_point_role.labelled q.elsewhere q.not_360)) (return_leads rest));
        }

    -- the points of a section
    pub record Filled (l : LoopState) (rs : List Rec) : Type 0 where
      pub stop : LoopState
      pub is_complete : complete stop ≡ true
      pub is_led : Leads (inside g s (in_points l)) rs (inside g s (in_points stop))

    loops_lead : {label : ℤ} {rs : List Rec} (l : LoopState) → many_loops s ≡ true → Begins (many_loops s) l label → Loops v (file_of g) s label rs
        → Filled l rs
    loops_lead l m b (final k) =
        let w = loop_leads l b k in
        record { stop = w.stop; is_complete = done_complete w.is_done; is_led = w.is_led }
    loops_lead l m b (another {label} k rest) =
        let w = loop_leads l b k in
        let y = loops_lead w.stop m (subst (λ (x : Bool). Begins x w.stop (suc_ℤ label)) (sym m) (begins_next w.is_done)) rest in
        record { stop = y.stop; is_complete = y.is_complete; is_led = leads_append w.is_led y.is_led }

    pub points_lead : {rs : List Rec} → Points v (file_of g) s rs → Filled no_point rs
    points_lead (numbered m k) = loops_lead no_point m (subst (λ (x : Bool). Begins x no_point (pos 0)) (sym m) begins_many) k
    points_lead (single {label} m e k) =
        let w = loop_leads no_point (subst (λ (x : Bool). Begins x no_point label) (sym m) (begins_one label e)) k in
        record { stop = w.stop; is_complete = done_complete w.is_done; is_led = w.is_led }
