-- The file's type in a state is the one in the title line, wherever a field depends on it.
use Rattle.std.proofs.Common.{Result, Ok, Err}
use Prim.Native.Nat.{ℕ}
use mathlib.Core.Path.{◌≡◌, refl, sym, ap, ◌∙◌, subst}
use mathlib.Core.List.{List, [], ◌∷◌}
use Rattle.std.specs.Prelude.{Option, Some as some, None as none, Ok as next, Err as refused}
use mathlib.Core.Bool.{Bool, true, false, cond, ◌&&◌, ◌||◌, false≢true}
use borrow.Author.Tests.{eqb-true}
use lib.Dec.{eqb}
use lib.IntN.{ℤ}
use Rattle.law.specs.Fields.{Field, field}
use Rattle.law.specs.Values.{Rec}
use Rattle.form.specs.Values.{refused}
use Rattle.law.specs.Sections.{Shape, header, outline, component, keepout, listing, placements}
use Rattle.law.specs.Kinds.{section_of, role_of}
use Rattle.law.specs.declared.Role.{Role}
use Rattle.law.specs.declared.Role.TheVariants.{Opening as opening, Closing as closing, Title as title, Name as name, Lead as lead, Point as point, Prop as prop, Entry as entry, Part as part, Position as position}
use Rattle.law.specs.Layouts.{types_of}
use Rattle.law.specs.Fits.{under, kept, largest, within, well_formed, barred}
use Rattle.form.specs.Reading.{of_count, read_field, read_each, read_fields}
use Rattle.number.specs.Numbers.{read_number}
use Rattle.law.specs.Limits.{most_decimals}
use Rattle.number.specs.declared.NumberError.{NumberError}
use Rattle.number.specs.declared.NumberError.TheVariants.{NotNumber, TooFine}
use Rattle.law.specs.declared.Rules.{Rules}
use Rattle.law.specs.declared.Limit.{Limit}
use Rattle.law.specs.declared.Limit.TheVariants.{Length as L, NotBelow as L0, Above as Lp, Included as A, Rotation as R, Version as Ver}
use Rattle.law.specs.declared.Texts.TheVariants.{Plain, Reference, Hole}
use Rattle.law.specs.declared.FieldType.{FieldType}
use Rattle.law.specs.declared.FieldType.TheVariants.{Text as T, Date as D, Integer as I, Number as N, Word as W}
use Rattle.law.specs.declared.FileType.{FileType}
use Rattle.law.specs.declared.FileType.TheVariants.{Board as board, Panel as panel, Library as library}
use Rattle.order_loops.specs.Loops.{loop_after, complete}
use Rattle.order_loops.specs.declared.LoopState.{LoopState}
use Rattle.order_loops.specs.declared.LoopState.TheVariants.{NoPoint as no_point}
use Rattle.law.specs.Records.{shape_of, many_loops, type_in}
use Rattle.order.specs.Marks.{point_of}
use Rattle.order.specs.Stages.{file_of, may_open, after_headed, after}
use Rattle.order.specs.Automaton.{start, start_of, is_role, if_fit, after_title, after_point, only_if, at_phase, advance, type_at, stands_in, may_stand}
use Rattle.order.specs.declared.Stage.{Stage}
use Rattle.order.specs.declared.Stage.TheVariants.{Nothing as nothing, Headed as headed, Middle as middle, Finished as finished}
use Rattle.order.specs.declared.Phase.{Phase}
use Rattle.order.specs.declared.Phase.TheVariants.{AwaitTitle as await_title, AwaitName as await_name, HeaderFull as header_full, AwaitLead as await_lead, InPoints as in_points, InProps as in_props, InList as in_list, AwaitPart as await_part, AwaitPosition as await_position}
use Rattle.order.specs.declared.State.{State}
use Rattle.order.specs.declared.State.TheVariants.{Between as between, Inside as inside}
use Rattle.order.specs.declared.Reason.TheVariants.{Misplaced as misplaced}
use Rattle.order.specs.declared.Reason.{Reason}
use Rattle.basics.proofs.Bools.{both, not_both}
use Rattle.order.proofs.Roles.{is_role_true}
use Rattle.shown_lists.proofs.Roles.{is_header}
use Rattle.shown_lists.proofs.Fields.{no_reference}
use Rattle.shown_lists.proofs.Tables.{header_first, header_not_middle, no_header, laid}
use Rattle.shown_lists.proofs.CompletePoints.{Leads, here, step, in_step, open_step}
use Rattle.law.specs.Files.{titled}
use Rattle.shown_told.proofs.Fronts.{types_laid, stands_known}
use Rattle.shown_told.proofs.LineComplete.{advanced}
use Rattle.shown_told.proofs.Apart.{next_same, is_line, role_line}

-- behind the title line of a file of type t: the sections so far
abbrev Staged : FileType → Stage → Type 0
Staged t nothing = ⊥
Staged t (headed u) = u ≡ t
Staged t (middle u h n) = u ≡ t
Staged t (finished u) = u ≡ t

abbrev InPhase : FileType → Stage → Phase → Type 0
InPhase t g await_title = ⊥
InPhase t g (await_name u) = u ≡ t
InPhase t g (header_full u) = u ≡ t
InPhase t g await_lead = Staged t g
InPhase t g (in_points l) = Staged t g
InPhase t g in_props = Staged t g
InPhase t g in_list = Staged t g
InPhase t g await_part = Staged t g
InPhase t g await_position = Staged t g

abbrev Typed : FileType → State → Type 0
Typed t (between g) = Staged t g
Typed t (inside g s p) = InPhase t g p

abbrev TypedOf : FileType → Result State Reason → Type 0
TypedOf t (next st) = Typed t st
TypedOf t (refused e) = Unit {0}

fit_typed : (t : FileType) (b f : Bool) (x y : Result State Reason) → TypedOf t x → TypedOf t y → TypedOf t (if_fit b f x y)
fit_typed t true true x y p q = p
fit_typed t true false x y p q = tt
fit_typed t false f x y p q = q

only_typed : (t : FileType) (b : Bool) (x : Result State Reason) → TypedOf t x → TypedOf t (only_if b x)
only_typed t true x p = p
only_typed t false x p = tt

point_typed : (t : FileType) (g : Stage) (s : ℕ) (o : Option LoopState) → Staged t g → TypedOf t (after_point g s o)
point_typed t g s none i = tt
point_typed t g s (some l) i = i

headed_after : (t u : FileType) → u ≡ t → Staged t (after_headed u)
headed_after t board i = i
headed_after t panel i = i
headed_after t library i = i

after_typed : (t : FileType) (g : Stage) (s : ℕ) → Staged t g → Staged t (after g s)
unfolding after
after_typed t nothing s i = absurd i
after_typed t (headed u) s i = headed_after t u i
after_typed t (middle u h n) s i = go (eqb s 13)
  where
    go : (b : Bool) → Staged t (cond b (finished u) (middle u (h || eqb s 11) (n || eqb s 12)))
    go true = i
    go false = i
after_typed t (finished u) s i = i

phase_typed : (t : FileType) (g : Stage) (s : ℕ) (p : Phase) (a : Role) (f : Bool) (r : Rec) → InPhase t g p → TypedOf t (at_phase g s p a f r)
phase_typed t g s await_title a f r i = absurd i
phase_typed t g s (await_name u) a f r i = fit_typed t (is_role a name) f (next (inside g s (header_full u))) (refused misplaced) i tt
phase_typed t g s (header_full u) a f r i = fit_typed t (is_role a closing) f (next (between (headed u))) (refused misplaced) i tt
phase_typed t g s await_lead a f r i = fit_typed t (is_role a lead) f (next (inside g s (in_points no_point))) (refused misplaced) i tt
phase_typed t g s (in_points l) a f r i =
    fit_typed t (is_role a point) f (after_point g s (loop_after (many_loops s) l (point_of r))) _ (point_typed t g s (loop_after (many_loops s) l (point_of r)) i)
    (fit_typed t (is_role a prop) f (only_if (complete l) (next (inside g s in_props))) _ (only_typed t (complete l) (next (inside g s in_props)) i)
    (fit_typed t (is_role a closing) f (only_if (complete l) (next (between (after g s)))) (refused misplaced) (only_typed t (complete l) (next (between (after g s))) (after_typed t g s i)) tt))
phase_typed t g s in_props a f r i = fit_typed t (is_role a prop) f (next (inside g s in_props)) _ i (fit_typed t (is_role a closing) f (next (between (after g s))) (refused misplaced) (after_typed t g s i) tt)
phase_typed t g s in_list a f r i = fit_typed t (is_role a entry) f (next (inside g s in_list)) _ i (fit_typed t (is_role a closing) f (next (between (after g s))) (refused misplaced) (after_typed t g s i) tt)
phase_typed t g s await_part a f r i = fit_typed t (is_role a part) f (next (inside g s await_position)) _ i (fit_typed t (is_role a closing) f (next (between (after g s))) (refused misplaced) (after_typed t g s i) tt)
phase_typed t g s await_position a f r i = fit_typed t (is_role a position) f (next (inside g s await_part)) (refused misplaced) i tt

abbrev is_ref : FieldType → Bool
is_ref (T Plain) = false
is_ref (T Reference) = true
is_ref (T Hole) = false
is_ref D = false
is_ref I = false
is_ref (N l) = false
is_ref (W l) = false

no_reference_lem : (t : FieldType) (ts : List FieldType) → no_reference (t ∷ ts) ≡ true → (is_ref t ≡ false) × (no_reference ts ≡ true)
no_reference_lem (T Plain) ts h = (refl, h)
no_reference_lem (T Reference) ts h = absurd (false≢true h)
no_reference_lem (T Hole) ts h = (refl, h)
no_reference_lem D ts h = (refl, h)
no_reference_lem I ts h = (refl, h)
no_reference_lem (N l) ts h = (refl, h)
no_reference_lem (W l) ts h = (refl, h)

module _ (v : Rules) where
  -- behind the header no header opens
  shut : (t : FileType) (g : Stage) → Staged t g → may_open v g 1 ≡ false
  unfolding may_open
  shut t nothing i = absurd i
  shut t (headed board) i = refl
  shut t (headed panel) i = refl
  shut t (headed library) i = refl
  shut t (middle u h n) i = rw (header_not_middle v)
  shut t (finished u) i = refl

  opened : (t : FileType) (g : Stage) (f : Shape) → is_header f ≡ false → Staged t g → InPhase t g (start_of f)
  opened t g header h i = absurd (false≢true (sym h))
  opened t g outline h i = i
  opened t g component h i = i
  opened t g keepout h i = i
  opened t g listing h i = i
  opened t g placements h i = i

  open_typed : (t : FileType) (g : Stage) (s : ℕ) → Staged t g → may_open v g s ≡ true → InPhase t g (start_of (shape_of v s))
  open_typed t g s i m = opened t g (shape_of v s) (no_header v s (go (eqb s 1) refl)) i
    where
      go : (b : Bool) → eqb s 1 ≡ b → b ≡ false
      go true e = absurd (not_both (subst (λ (x : ℕ). may_open v g x ≡ true) (eqb-true s 1 e) m) (shut t g i))
      go false e = refl

  typed : (t : FileType) (st : State) (r : Rec) → Typed t st → TypedOf t (advance v st r)
  unfolding advance
  typed t (between g) r i = go (is_role (role_of v r.kind) opening) (may_open v g s) refl
    where
      s : ℕ
      s = section_of v r.kind

      go : (a b : Bool) → may_open v g s ≡ b → TypedOf t (if_fit (a && b) (well_formed (under v (file_of g)) r) (next (inside g s (start_of (shape_of v s)))) (refused misplaced))
      go true true e = fit_typed t true (well_formed (under v (file_of g)) r) (next (inside g s (start_of (shape_of v s)))) (refused misplaced) (open_typed t g s i e) tt
      go true false e = tt
      go false b e = tt
  typed t (inside g s p) r i = go (eqb (section_of v r.kind) s)
    where
      go : (b : Bool) → TypedOf t (cond b (at_phase g s p (role_of v r.kind) (well_formed (under v (file_of g)) r) r) (refused misplaced))
      go true = phase_typed t g s p (role_of v r.kind) (well_formed (under v (file_of g)) r) r i
      go false = tt

  leads_typed : (t : FileType) {st en : State} {rs : List Rec} → Leads v st rs en → Typed t st → Typed t en
  leads_typed t here i = i
  leads_typed t (step {st = st} {r = r} e k) i = leads_typed t k (subst (TypedOf t) e (typed t st r i))

  title_typed : (g : Stage) (t : FileType) → InPhase t g (after_title t)
  title_typed g board = refl
  title_typed g panel = refl
  title_typed g library = refl

  -- the first two records
  opens : (st : State) (r : Rec) → advance v start r ≡ next st → st ≡ inside nothing 1 await_title
  unfolding may_stand may_open
  opens st r e =
      let d = advanced v start st r e in
      let w = both (is_role (role_of v r.kind) opening) _ d.stands in
      let z : section_of v r.kind ≡ 1 = eqb-true _ _ w.1 in
      let o = open_step v nothing (record { in_section = refl; has_role = is_role_true _ _ w.0; is_good = d.fits }) w.1 in
      next_same (sym e ∙ o ∙ ap next (rw (z, header_first v)))

  titles : (st : State) (r : Rec) → advance v (inside nothing 1 await_title) r ≡ next st → st ≡ inside nothing 1 (after_title (type_in r))
  titles st r e =
      let w = is_line v nothing 1 await_title st r e in
      let z : role_of v r.kind ≡ title = is_role_true _ _ w.1 in
      next_same (sym e ∙ in_step v nothing await_title (role_line v z w.0))

  staged_file : (t : FileType) (g : Stage) → Staged t g → file_of g ≡ t
  staged_file t nothing i = absurd i
  staged_file t (headed u) i = i
  staged_file t (middle u h n) i = i
  staged_file t (finished u) i = i

  in_part : (t : FileType) (g : Stage) (p : Phase) → stands_in p part ≡ true → InPhase t g p → file_of g ≡ t
  in_part t g await_title h i = absurd i
  in_part t g (await_name u) h i = absurd (false≢true h)
  in_part t g (header_full u) h i = absurd (false≢true h)
  in_part t g await_lead h i = absurd (false≢true h)
  in_part t g (in_points l) h i = absurd (false≢true h)
  in_part t g in_props h i = absurd (false≢true h)
  in_part t g in_list h i = absurd (false≢true h)
  in_part t g await_part h i = staged_file t g i
  in_part t g await_position h i = absurd (false≢true h)

  -- what a part may follow is of the type that the title says
  module _ (k : ℕ) (e : role_of v k ≡ part) where
    part_in_lem : (t : FileType) (st : State) → may_stand v st k ≡ true → Typed t st → type_at st ≡ t
    unfolding may_stand
    part_in_lem t (between g) m i = absurd (false≢true (rw e at m))
    part_in_lem t (inside g s p) m i = in_part t g p (rw e at (both (eqb (section_of v k) s) _ m).1) i

    part_not_first : may_stand v (inside nothing 1 await_title) k ≡ true → ⊥
    unfolding may_stand
    part_not_first m = false≢true (rw e at (both (eqb (section_of v k) 1) _ m).1)

    part_not_start : may_stand v start k ≡ true → ⊥
    unfolding may_stand
    part_not_start m = false≢true (rw e at m)

    part_typed : {st : State} {rs : List Rec} → Leads v start rs st → may_stand v st k ≡ true → type_at st ≡ titled rs
    part_typed here m = absurd (part_not_start m)
    part_typed (step {mid = st} {r = o} f here) m = absurd (part_not_first (subst (λ (x : State). may_stand v x k ≡ true) (opens st o f) m))
    part_typed {st} (step {mid = x} {r = o} f (step {mid = y} {r = a} h l)) m =
        let z = titles y a (subst (λ (w : State). advance v w a ≡ next y) (opens x o f) h) in
        part_in_lem (type_in a) st m (leads_typed (type_in a) l (subst (Typed (type_in a)) (sym z) (title_typed nothing (type_in a))))

  -- Fields without a reference are read the same in every file
  module _ (a b : FileType) where
    within_any : (l : Limit) (z : ℤ) → within (under v a) l z ≡ within (under v b) l z
    unfolding within
    within_any L z = refl
    within_any L0 z = refl
    within_any Lp z = refl
    within_any A z = refl
    within_any R z = refl
    within_any Ver z = refl

    count_any : (l : Limit) (x : Result ℤ NumberError) → of_count (under v a) l x ≡ of_count (under v b) l x
    count_any l (Ok z) = rw (within_any l z)
    count_any l (Err NotNumber) = refl
    count_any l (Err TooFine) = refl

    field_any : (t : FieldType) (f : Field) → is_ref t ≡ false → read_field (under v a) t f ≡ read_field (under v b) t f
    unfolding read_field kept barred
    field_any (T Plain) (field q s) h = refl
    field_any (T Reference) f h = absurd (false≢true (sym h))
    field_any (T Hole) (field q s) h = refl
    field_any D (field true s) h = refl
    field_any D (field false s) h = refl
    field_any I (field true s) h = refl
    field_any I (field false s) h = refl
    field_any (N l) (field true s) h = refl
    field_any (N l) (field false s) h = count_any l (read_number most_decimals (largest l) s)
    field_any (W l) (field true s) h = refl
    field_any (W l) (field false s) h = refl

    each_any : (ts : List FieldType) (fs : List Field) → no_reference ts ≡ true → read_each (under v a) ts fs ≡ read_each (under v b) ts fs
    unfolding read_each
    each_any [] [] h = refl
    each_any [] (f ∷ fs) h = refl
    each_any (t ∷ ts) [] h = refl
    each_any (t ∷ ts) (f ∷ fs) h =
        let w = no_reference_lem t ts h in
        rw (field_any t f w.0, each_any ts fs w.1)

    fields_any : (ts : List FieldType) (fs : List Field) → no_reference ts ≡ true → read_fields (under v a) ts fs ≡ read_fields (under v b) ts fs
    unfolding read_fields
    fields_any ts fs h = rw (each_any ts fs h)

  -- so a line that may stand is read by the type in the title line
  pub titled_fields : {st : State} {rs : List Rec} (k : ℕ) (fs : List Field) → Leads v start rs st → may_stand v st k ≡ true
      → read_fields (under v (type_at st)) (types_of v k) fs ≡ read_fields (under v (titled rs)) (types_of v k) fs
  titled_fields {st} {rs} k fs l m = go (is_role (role_of v k) part) refl
    where
      go : (b : Bool) → is_role (role_of v k) part ≡ b → read_fields (under v (type_at st)) (types_of v k) fs ≡ read_fields (under v (titled rs)) (types_of v k) fs
      go true e = ap (λ (t : FileType). read_fields (under v t) (types_of v k) fs) (part_typed k (is_role_true _ _ e) l m)
      go false e =
          let d = laid v k (stands_known v st k m) in
          fields_any (type_at st) (titled rs) (types_of v k) fs (rw (types_laid v k d.layout d.is_layout) (d.free e))
