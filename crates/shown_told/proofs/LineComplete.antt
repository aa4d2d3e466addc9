-- A line that spells a record which may stand is taken to say it, and a free line between sections to say nothing.
use Rattle.std.proofs.Common.{Some}
use Prim.Native.Nat.{ℕ}
use mathlib.Core.Path.{◌≡◌, refl, sym, ◌∙◌, subst}
use mathlib.Core.List.{List, ◌∷◌}
use mathlib.Core.Option.{Option, none, some}
use Rattle.std.specs.Prelude.{Ok as next, Err as stops}
use mathlib.Core.Bool.{Bool, true, false, cond, not, ◌||◌, false≢true}
use native.Mathlib.Omega.{arith}
use lib.Dec.{eqb}
use lib.IntN.{ℤ}
use borrow.Author.Tests.{not-true}
use Rattle.basics.proofs.Bytes.{bytes_true, bytes_same}
use Rattle.basics.proofs.Bools.{both, not_both}
use Rattle.law.specs.Fields.{Field, field}
use Rattle.law.specs.Lines.{Free}
use Rattle.number.specs.Numbers.{digit_here}
use Rattle.law.specs.Integers.{SpellsInteger}
use Rattle.number.specs.Integers.{unsigned, read_integer}
use Rattle.number_read.proofs.IntegerSpelling.{integer_complete}
use Rattle.law.specs.Values.{Value, Rec}
use Rattle.form.specs.Values.{good}
use Rattle.law.specs.Sections.{SectionForm, Shape, section_at}
use Rattle.law.specs.declared.Role.TheVariants as role
use Rattle.law.specs.Kinds.{section_of, role_of}
use Rattle.law.specs.declared.Role.{Role}
use Rattle.law.specs.declared.Role.TheVariants.{Unknown as unknown}
use Rattle.law.specs.Words.{prop_word, same_bytes, folded}
use Rattle.law.specs.Layouts.{Front, types_of, open_word, close_word}
use Rattle.law.specs.Fits.{under, well_formed, WellFormed}
use Rattle.form.specs.Reading.{read_fields, data_line, key_line, line_as, keyword_of}
use Rattle.law.specs.declared.Rules.{Rules}
use Rattle.law.specs.declared.Context.{Context}
use Rattle.law.specs.declared.FieldType.{FieldType}
use Rattle.line_rows.specs.LineKinds.{is_prop}
use Rattle.law.specs.Records.{shape_of, type_in, Named}
use Rattle.order.specs.Marks.{point_of}
use Rattle.order.specs.Places.{line_at, data_kind, key_kind}
use Rattle.order.specs.Automaton.{is_role, type_at, stands_in, may_stand, moved, advance, admit}
use Rattle.order.specs.declared.Phase.{Phase}
use Rattle.order.specs.declared.Phase.TheVariants.{AwaitTitle, AwaitName, HeaderFull, AwaitLead, InPoints, InProps, InList, AwaitPart, AwaitPosition}
use Rattle.order.specs.declared.Stage.{Stage}
use Rattle.order.specs.declared.State.{State}
use Rattle.order.specs.declared.State.TheVariants.{Between as between, Inside as inside}
use Rattle.order.specs.declared.Reason.TheVariants.{Misplaced as misplaced, Unfit as unfit}
use Rattle.order.proofs.Steps.{advance_is}
use Rattle.order.proofs.Roles.{is_role_true}
use Rattle.shown_lists.proofs.Roles.{is_some, is_section, role_known}
use Rattle.shown_lists.proofs.FirstLine.{taken}
use Rattle.shown_lists.proofs.ByPlace.{kind_by_lem, kind_by_place}
use Rattle.law.specs.RecordSpelling.{as_text, as_date, as_integer, as_number, as_word, SpellsFields, none as no_fields, more, SpellsRecord, as_line}
use Rattle.shown_spelling.proofs.ValueSpelling.{values_sound}
use Rattle.shown_spelling.proofs.LineSpelling.{Looks, line_looks}
use Rattle.shown_spelling.proofs.KeywordLaws.{IsSection, keyword_at, section_named}
use Rattle.shown_told.specs.Told.{nothing, says, said_at, own_fields, line_says}
use Rattle.shown_told.proofs.Fronts.{front_at, is_data, front_is, types_laid, stands_known, integer_first, point_labelled}
use Rattle.shown_told.proofs.FreeLines.{free_line_lem}
use Rattle.law.specs.WordSpelling.{AnyCase, same, small}
use Rattle.shown_spelling.proofs.WordSpelling.{case_folds, any_case}

-- A record that moves a state may stand there and is well formed
pub record Stood (v : Rules) (st : State) (r : Rec) : Type 0 where
  pub stands : may_stand v st r.kind ≡ true
  pub fits : WellFormed (under v (type_at st)) r

pub advanced : (v : Rules) (st t : State) (r : Rec) → advance v st r ≡ next t → Stood v st r
advanced v st t r h = go (may_stand v st r.kind) (well_formed (under v (type_at st)) r) refl refl (sym (advance_is v st r) ∙ h)
  where
    go : (m w : Bool) → may_stand v st r.kind ≡ m → well_formed (under v (type_at st)) r ≡ w
        → cond m (cond w (moved v st r.kind (type_in r) (point_of r)) (stops unfit)) (stops misplaced) ≡ next t → Stood v st r
    go true true i f e = record { stands = i; fits = f }
    go true false i f e = let z : ◌≡◌ {A = ℕ} 0 1 = cc in absurd (omega arith)
    go false w i f e = let z : ◌≡◌ {A = ℕ} 0 1 = cc in absurd (omega arith)

-- PROP is no integer, so a point's line does not begin with it
prop_no_integer : {z : ℤ} {s : List ℕ} → SpellsInteger z s → AnyCase prop_word s → ⊥
unfolding read_integer unsigned digit_here
prop_no_integer {z} r (same {s = s} h m) =
    let i : read_integer (80 ∷ s) ≡ Some (record { 0 = z }) = integer_complete r in
    let y : ◌≡◌ {A = ℕ} 0 1 = cc in
    omega arith
prop_no_integer {z} r (small {s = s} h m) =
    let i : read_integer (112 ∷ s) ≡ Some (record { 0 = z }) = integer_complete r in
    let y : ◌≡◌ {A = ℕ} 0 1 = cc in
    omega arith

label_not_prop : {c : Context} {ts : List FieldType} {vs : List Value} {fs : List Field} → SpellsFields c ts vs fs → integer_first ts ≡ true → is_prop fs ≡ false
label_not_prop no_fields h = absurd (false≢true h)
label_not_prop (more (as_text e) q) h = absurd (false≢true h)
label_not_prop (more (as_date r) q) h = absurd (false≢true h)
label_not_prop (more (as_integer {s = s} r) q) h = go (same_bytes prop_word (folded s)) refl
  where
    go : (b : Bool) → same_bytes prop_word (folded s) ≡ b → b ≡ false
    go true e = absurd (prop_no_integer r (any_case (bytes_true prop_word (folded s) e)))
    go false e = refl
label_not_prop (more (as_number r e) q) h = absurd (false≢true h)
label_not_prop (more (as_word r) q) h = absurd (false≢true h)

-- Where a place asks whether a line begins with PROP, the role of the record answers
module _ (a : Role) (b : Bool) (c : is_role a role.Closing ≡ false) (is-prop : is_role a role.Prop ≡ true → b ≡ true) (has_point_role : a ≡ role.Point → b ≡ false) where
  prop_or : (is_role a role.Prop ≡ false → a ≡ role.Point) → is_role a role.Prop ≡ b
  prop_or k = go (is_role a role.Prop) refl
    where
      go : (d : Bool) → is_role a role.Prop ≡ d → d ≡ b
      go true e = sym (is-prop e)
      go false e = sym (has_point_role (k e))

  among_points_lem : (x : Bool) → is_role a role.Point ≡ x → is_role a role.Prop ≡ false → (x || is_role a role.Prop || is_role a role.Closing) ≡ true → a ≡ role.Point
  among_points_lem true e f h = is_role_true a role.Point e
  among_points_lem false e f h = absurd (false≢true (rw (f, c) at h))

  same_line : (f : Shape) (p : Phase) → stands_in p a ≡ true → line_at f p (is_role a role.Prop) ≡ line_at f p b
  same_line f AwaitTitle h = refl
  same_line f (AwaitName t) h = refl
  same_line f (HeaderFull t) h = refl
  same_line f AwaitLead h = refl
  same_line f (InPoints l) h = rw (prop_or (λ e. among_points_lem (is_role a role.Point) refl e h))
  same_line f InProps h = rw (prop_or (λ e. absurd (false≢true (rw (e, c) at h))))
  same_line f InList h = refl
  same_line f AwaitPart h = refl
  same_line f AwaitPosition h = refl

-- a section of the table has a name
pub named : (v : Rules) (s : ℕ) → is_section v s ≡ true → IsSection s
named v s = go (section_at v s) refl
  where
    go : (o : Option SectionForm) → section_at v s ≡ o → is_some o ≡ true → IsSection s
    go none e h = absurd (false≢true h)
    go (some d) e h = section_named v s e

module _ (v : Rules) (r : Rec) where
  abbrev its : Role
  its = role_of v r.kind

  -- the kind of a data line is that of its place
  place_kind : (st : State) (b : Bool) → may_stand v st r.kind ≡ true → is_data its ≡ true → (is_role its role.Prop ≡ true → b ≡ true) → (its ≡ role.Point → b ≡ false)
      → data_kind v st b ≡ r.kind
  unfolding data_kind may_stand
  place_kind (between g) b m d p q =
      let e = is_role_true its role.Opening (both (is_role its role.Opening) _ m).0 in
      absurd (false≢true (rw e at d))
  place_kind (inside g s p) b m d q i =
      let c = not-true (is_role its role.Closing) (both (not (is_role its role.Opening)) _ d).1 in
      let w = kind_by_place v g s p r m c in
      let e : line_at (shape_of v s) p b ≡ Some w.line = sym (same_line its b c q i (shape_of v s) p (both (eqb (section_of v r.kind) s) _ m).1) ∙ w.given in
      rw e (sym w.kind_is)

  module _ (used : List Named) (st t : State) (l : List ℕ) (m : may_stand v st r.kind ≡ true) (j : admit v used st r ≡ next t)
      (fs : List Field) (reads : read_fields (under v (type_at st)) (types_of v r.kind) fs ≡ good r.values) where
    known : is_role its unknown ≡ false
    known = stands_known v st r.kind m

    at_kind : (k : ℕ) → k ≡ r.kind → said_at v used st k fs ≡ says r t
    unfolding said_at
    at_kind k e = rw (e, m, reads, j)

    -- the keywords of its section
    key_says : (w : List ℕ) → key_kind v (keyword_of w) ≡ r.kind → line_as l ≡ key_line w fs → line_says v used st l ≡ says r t
    unfolding line_says
    key_says w k e = rw e (at_kind (key_kind v (keyword_of w)) k)

    section_is : IsSection (section_of v r.kind)
    section_is = named v (section_of v r.kind) (role_known v r.kind known)

    open_kind : its ≡ role.Opening → key_kind v (keyword_of (46 ∷ open_word (section_of v r.kind))) ≡ r.kind
    unfolding key_kind
    open_kind e = rw (keyword_at (section_of v r.kind) section_is).0 (sym (kind_by_lem v r.kind refl role.Opening refl e))

    close_kind : its ≡ role.Closing → key_kind v (keyword_of (46 ∷ close_word (section_of v r.kind))) ≡ r.kind
    unfolding key_kind
    close_kind e = rw (keyword_at (section_of v r.kind) section_is).1 (sym (kind_by_lem v r.kind refl role.Closing refl e))

    -- data lines: gs are the line's fields, fs the record's
    data_says : (gs : List Field) → data_kind v st (is_prop gs) ≡ r.kind → own_fields v r.kind gs ≡ fs → line_as l ≡ data_line gs → line_says v used st l ≡ says r t
    unfolding line_says
    data_says gs k o e = rw (e, k, o) (at_kind r.kind refl)

    plain_says : (a : Role) → its ≡ a → is_data a ≡ true → is_role a role.Prop ≡ false → line_as l ≡ data_line fs → line_says v used st l ≡ says r t
    plain_says a e d p = data_says fs (place_kind st (is_prop fs) m (rw e d) (λ h. absurd (not_both h (rw e p))) at_point) (rw (e, p))
      where
        at_point : its ≡ role.Point → is_prop fs ≡ false
        at_point i = label_not_prop (values_sound (types_of v r.kind) fs reads) (point_labelled v r.kind i)

    prop_says : its ≡ role.Prop → (w : List ℕ) → AnyCase prop_word w → line_as l ≡ data_line (field false w ∷ fs) → line_says v used st l ≡ says r t
    prop_says e w h = data_says (field false w ∷ fs) (place_kind st (same_bytes prop_word (folded w)) m (rw e) (λ i. bytes_same prop_word (folded w) (sym (case_folds h))) not_point) (rw e)
      where
        not_point : its ≡ role.Point → same_bytes prop_word (folded w) ≡ false
        not_point i = let z : ◌≡◌ {A = ℕ} 0 1 = cc in absurd (omega arith)

    role_says : (a : Role) → its ≡ a → Looks (front_at a (section_of v r.kind)) fs (line_as l) → line_says v used st l ≡ says r t
    role_says role.Opening e x = key_says _ (open_kind e) x
    role_says role.Closing e x = key_says _ (close_kind e) x
    role_says role.Title e x = plain_says role.Title e refl refl x
    role_says role.Name e x = plain_says role.Name e refl refl x
    role_says role.Lead e x = plain_says role.Lead e refl refl x
    role_says role.Point e x = plain_says role.Point e refl refl x
    role_says role.Prop e x = prop_says e x.0 x.1 x.2
    role_says role.Entry e x = plain_says role.Entry e refl refl x
    role_says role.Part e x = plain_says role.Part e refl refl x
    role_says role.Position e x = plain_says role.Position e refl refl x
    role_says role.Unknown e x = absurd (not_both (rw e) known)

-- a line that spells a record which takes the state to the next is taken to say it
pub line_complete : (v : Rules) (used : List Named) (st t : State) (r : Rec) (l : List ℕ) → admit v used st r ≡ next t → SpellsRecord (under v (type_at st)) r l
    → line_says v used st l ≡ says r t
line_complete v used st t r l j (as_line {l = x} e p) =
    let m = (advanced v st t r (taken v used st t r j).moves).stands in
    let n = line_looks p in
    role_says v r used st t l m j n.fs (rw (types_laid v r.kind x e) n.reads) (role_of v r.kind) refl
    (subst (λ (f : Front). Looks f n.fs (line_as l)) (front_is v r.kind x e) n.looks)

-- a free line between sections is taken to say nothing
pub nothing_complete : (v : Rules) (used : List Named) (g : Stage) {l : List ℕ} → Free l → line_says v used (between g) l ≡ nothing
unfolding line_says
nothing_complete v used g f = rw (free_line_lem f)
