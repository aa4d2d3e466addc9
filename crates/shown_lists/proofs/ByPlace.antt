-- In a state, a data line that is not misplaced can have one kind only: its place, and whether it says PROP, decide.
use Prim.Native.Nat.{ℕ}
use mathlib.Core.Path.{◌≡◌, refl, sym, ap, ◌∙◌, subst}
use Rattle.std.specs.Prelude.{Option, Some as some, None as none, Result, Ok as next, Err as refused}
use mathlib.Core.Bool.{Bool, true, false, cond, false≢true}
use native.Mathlib.Omega.{arith}
use lib.Dec.{eqb}
use borrow.Author.Tests.{eqb-true}
use Rattle.rows.specs.declared.Point.{Point}
use Rattle.law.specs.Values.{Rec}
use Rattle.law.specs.Sections.{Shape, header, outline, component, keepout, listing, placements}
use Rattle.law.specs.Kinds.{kind_at, section_of, line_of, data_role, role_in, role_of}
use Rattle.law.specs.declared.Role.{Role}
use Rattle.law.specs.declared.Role.TheVariants.{Opening as opening, Closing as closing, Title as title, Name as name, Lead as lead, Point as point, Prop as prop, Entry as entry, Part as part, Position as position, Unknown as unknown}
use Rattle.law.specs.Fits.{under, well_formed}
use Rattle.law.specs.declared.Rules.{Rules}
use Rattle.law.specs.declared.FileType.{FileType}
use Rattle.law.specs.Records.{shape_of, many_loops, type_in}
use Rattle.order.specs.Marks.{point_of}
use Rattle.order_loops.specs.Loops.{loop_after, complete}
use Rattle.order.specs.Stages.{file_of}
use Rattle.order.specs.Places.{point_line, has_props, line_at}
use Rattle.order.specs.Automaton.{is_role, if_fit, after_point, only_if, at_phase, advance, may_stand, moved_in, moved}
use Rattle.order.specs.declared.Stage.{Stage}
use Rattle.order_loops.specs.declared.LoopState.{LoopState}
use Rattle.order.specs.declared.Phase.{Phase}
use Rattle.order.specs.declared.Phase.TheVariants.{AwaitTitle as await_title, AwaitName as await_name, HeaderFull as header_full, AwaitLead as await_lead, InPoints as in_points, InProps as in_props, InList as in_list, AwaitPart as await_part, AwaitPosition as await_position}
use Rattle.order.specs.declared.State.{State}
use Rattle.order.specs.declared.State.TheVariants.{Between as between, Inside as inside}
use Rattle.order.specs.declared.Reason.TheVariants.{Misplaced as misplaced, Unfit as unfit, BadLoop as bad_loop}
use Rattle.order.specs.declared.Reason.{Reason}
use Rattle.order.proofs.Steps.{advance_is}
use Rattle.order.proofs.Roles.{is_role_true}
use Rattle.shown_lists.proofs.Roles.{role_is, prop_component}
use Rattle.shown_lists.proofs.Tables.{kind_of_lem}

-- the line that has a role in a section of this form
abbrev line_for : Shape → Role → ℕ
line_for f opening = 0
line_for f closing = 9
line_for f title = 1
line_for f name = 2
line_for f lead = 1
line_for f point = point_line f
line_for f prop = 3
line_for f entry = 1
line_for f part = 1
line_for f position = 2
line_for f unknown = 0

-- a role that is known stands on its line: the first of some, or one of the others
first_line : (f : Shape) (n m : ℕ) (a b : Role) → line_for f a ≡ m → (is_role b unknown ≡ false → line_for f b ≡ n)
    → is_role (cond (eqb n m) a b) unknown ≡ false → line_for f (cond (eqb n m) a b) ≡ n
first_line f n m a b p q = go (eqb n m) refl
  where
    go : (x : Bool) → eqb n m ≡ x → is_role (cond x a b) unknown ≡ false → line_for f (cond x a b) ≡ n
    go true e h = p ∙ sym (eqb-true n m e)
    go false e h = q h

no_line : {A : Type 0} → is_role unknown unknown ≡ false → A
no_line h = absurd (false≢true (sym h))

data_line_lem : (f : Shape) (n : ℕ) → is_role (data_role f n) unknown ≡ false → line_for f (data_role f n) ≡ n
data_line_lem header n = first_line header n 1 title _ refl (first_line header n 2 name unknown refl no_line)
data_line_lem outline n = first_line outline n 1 lead _ refl (first_line outline n 2 point unknown refl no_line)
data_line_lem component n = first_line component n 1 lead _ refl (first_line component n 2 point _ refl (first_line component n 3 prop unknown refl no_line))
data_line_lem keepout n = first_line keepout n 1 point unknown refl no_line
data_line_lem listing n = first_line listing n 1 entry unknown refl no_line
data_line_lem placements n = first_line placements n 1 part _ refl (first_line placements n 2 position unknown refl no_line)

line_for_lem : (f : Shape) (n : ℕ) → is_role (role_in f n) unknown ≡ false → line_for f (role_in f n) ≡ n
line_for_lem f n = first_line f n 0 opening _ refl (first_line f n 9 closing (data_role f n) refl (data_line_lem f n))

module _ (v : Rules) where
  abbrev is_prop : Rec → Bool
  is_prop r = is_role (role_of v r.kind) prop

  -- r is the data line that line_at gives
  pub record ByPlace (s : ℕ) (p : Phase) (r : Rec) : Type 0 where
    pub line : ℕ
    pub given : line_at (shape_of v s) p (is_prop r) ≡ some line
    pub kind_is : r.kind ≡ kind_at v s line

  -- the kind with a role, by section and line
  pub kind_by_lem : {s : ℕ} (k : ℕ) → section_of v k ≡ s → (a : Role) → is_role a unknown ≡ false → role_of v k ≡ a → k ≡ kind_at v s (line_for (shape_of v s) a)
  kind_by_lem k in-s a u e =
      let f = shape_of v (section_of v k) in
      let known : is_role (role_of v k) unknown ≡ false = rw e u in
      let i : role_in f (line_of v k) ≡ a = sym (role_is v k known) ∙ e in
      let l : line_for f a ≡ line_of v k = subst (λ (x : Role). line_for f x ≡ line_of v k) i (line_for_lem f (line_of v k) (rw i u)) in
      let z : kind_at v (section_of v k) (line_for (shape_of v (section_of v k)) a) ≡ k = ap (kind_at v (section_of v k)) l ∙ kind_of_lem v k known in
      sym (subst (λ (i : ℕ). kind_at v i (line_for (shape_of v i) a) ≡ k) in-s z)

  module _ (g : Stage) (s : ℕ) (r : Rec) (in-s : section_of v r.kind ≡ s) where
    abbrev Not5 : Result State Reason → Type 0
    Not5 o = o ≡ refused misplaced → ⊥

    -- not misplaced: it has the role, or the other way is not misplaced
    not5 : {G : Type 0} (a : Role) (x y : Result State Reason) → (role_of v r.kind ≡ a → G) → (Not5 y → G)
        → Not5 (if_fit (is_role (role_of v r.kind) a) (well_formed (under v (file_of g)) r) x y) → G
    not5 {G} a x y k l = go (is_role (role_of v r.kind) a) refl
      where
        go : (b : Bool) → is_role (role_of v r.kind) a ≡ b → Not5 (if_fit b (well_formed (under v (file_of g)) r) x y) → G
        go true e h = k (is_role_true _ _ e)
        go false e h = l h

    never : {G : Type 0} → Not5 (refused misplaced) → G
    never h = absurd (h refl)

    a_line : (p : Phase) (a : Role) → is_role a unknown ≡ false → line_at (shape_of v s) p (is_role a prop) ≡ some (line_for (shape_of v s) a)
        → role_of v r.kind ≡ a → ByPlace s p r
    a_line p a u l e = record { line = line_for (shape_of v s) a; given = rw e l; kind_is = kind_by_lem r.kind in-s a u e }

    props_here : role_of v r.kind ≡ prop → has_props (shape_of v s) ≡ true
    props_here e = ap has_props (subst (λ (i : ℕ). shape_of v i ≡ component) in-s (prop_component v r.kind e))

    -- it is no closing line
    no_close : {G : Type 0} (x : Result State Reason) → is_role (role_of v r.kind) closing ≡ false
        → Not5 (if_fit (is_role (role_of v r.kind) closing) (well_formed (under v (file_of g)) r) x (refused misplaced)) → G
    no_close x c = not5 closing x _ (λ e. absurd (false≢true (sym (rw e at c)))) never

    phase_place : (p : Phase) → is_role (role_of v r.kind) closing ≡ false
        → Not5 (at_phase g s p (role_of v r.kind) (well_formed (under v (file_of g)) r) r) → ByPlace s p r
    phase_place await_title c h = not5 title _ _ (a_line await_title title refl refl) never h
    phase_place (await_name t) c h = not5 name _ _ (a_line (await_name t) name refl refl) never h
    phase_place (header_full t) c h = no_close _ c h
    phase_place await_lead c h = not5 lead _ _ (a_line await_lead lead refl refl) never h
    phase_place (in_points l) c h =
        not5 point _ _ (a_line (in_points l) point refl refl) (not5 prop _ _ (λ e. a_line (in_points l) prop refl (rw (props_here e)) e) (no_close _ c)) h
    phase_place in_props c h = not5 prop _ _ (λ e. a_line in_props prop refl (rw (props_here e)) e) (no_close _ c) h
    phase_place in_list c h = not5 entry _ _ (a_line in_list entry refl refl) (no_close _ c) h
    phase_place await_part c h = not5 part _ _ (a_line await_part part refl refl) (no_close _ c) h
    phase_place await_position c h = not5 position _ _ (a_line await_position position refl refl) never h

  -- a record inside a section that is not misplaced and no closing line is the data line of its place
  pub by_place : (g : Stage) (s : ℕ) (p : Phase) (r : Rec) → is_role (role_of v r.kind) closing ≡ false
      → (advance v (inside g s p) r ≡ refused misplaced → ⊥) → ByPlace s p r
  unfolding advance
  by_place g s p r c = go (eqb (section_of v r.kind) s) refl
    where
      go : (b : Bool) → eqb (section_of v r.kind) s ≡ b
          → (cond b (at_phase g s p (role_of v r.kind) (well_formed (under v (file_of g)) r) r) (refused misplaced) ≡ refused misplaced → ⊥)
          → ByPlace s p r
      go true e h = phase_place g s r (eqb-true _ _ e) p c h
      go false e h = absurd (h refl)

-- it can stand there
Stands : Result State Reason → Type 0
Stands o = o ≡ refused misplaced → ⊥

stands_next : (st : State) → Stands (next st)
unfolding Stands
stands_next st h = let z : ◌≡◌ {A = ℕ} 0 1 = cc in omega arith

stands_unfit : Stands (refused unfit)
unfolding Stands
stands_unfit h = let z : ◌≡◌ {A = ℕ} 0 1 = cc in omega arith

stands_bad : Stands (refused bad_loop)
unfolding Stands
stands_bad h = let z : ◌≡◌ {A = ℕ} 0 1 = cc in omega arith

stands_fit : (fit : Bool) (x : Result State Reason) → Stands x → Stands (cond fit x (refused unfit))
stands_fit true x h = h
stands_fit false x h = stands_unfit

stands_point : (g : Stage) (s : ℕ) (o : Option LoopState) → Stands (after_point g s o)
stands_point g s none = stands_bad
stands_point g s (some l) = stands_next _

stands_only : (b : Bool) (st : State) → Stands (only_if b (next st))
stands_only true st = stands_next st
stands_only false st = stands_bad

stands_moved : (v : Rules) (st : State) (k : ℕ) (t : FileType) (d : Point) → Stands (moved v st k t d)
unfolding moved
stands_moved v (between g) k t d = stands_next _
stands_moved v (inside g s p) k t d = go p
  where
    points : (b done : Bool) (o : Result State Reason) (st : State) → Stands o → Stands (cond b o (only_if done (next st)))
    points true done o st h = h
    points false done o st h = stands_only done st

    go : (p : Phase) → Stands (moved_in g s p (role_of v k) t d)
    go await_title = stands_next _
    go (await_name u) = stands_next _
    go (header_full u) = stands_next _
    go await_lead = stands_next _
    go (in_points l) = points (is_role (role_of v k) point) (complete l) _ _ (stands_point g s (loop_after (many_loops s) l d))
    go in_props = stands_next _
    go in_list = stands_next _
    go await_part = stands_next _
    go await_position = stands_next _

pub kind_by_place : (v : Rules) (g : Stage) (s : ℕ) (p : Phase) (r : Rec) → may_stand v (inside g s p) r.kind ≡ true
    → is_role (role_of v r.kind) closing ≡ false → ByPlace v s p r
unfolding Stands
kind_by_place v g s p r m c =
    by_place v g s p r c (λ h. stands_fit (well_formed (under v (file_of g)) r) _ (stands_moved v (inside g s p) r.kind (type_in r) (point_of r)) (sym (rw m at (advance_is v (inside g s p) r)) ∙ h))
