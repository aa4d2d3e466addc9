-- What a line is taken to say, its bytes spell: the record may stand there, and a line that says nothing is free and stands between sections.
use Prim.Native.Nat.{ℕ}
use mathlib.Core.Path.{◌≡◌, refl, sym, subst}
use mathlib.Core.List.{List, [], ◌∷◌}
use Rattle.std.specs.Prelude.{Option, Some as some, None as none, Result, Ok as next, Err as stops}
use mathlib.Core.Bool.{Bool, true, false, cond, not, ◌&&◌, ◌||◌, false≢true}
use native.Mathlib.Omega.{arith}
use borrow.Author.Tests.{leb-true}
use lib.Dec.{leb}
use lib.ListN.{drop}
use Rattle.basics.proofs.Bytes.{bytes_same}
use Rattle.basics.proofs.Bools.{both, other, not_both}
use Rattle.law.specs.Fields.{Field, field}
use Rattle.law.specs.Lines.{Free}
use Rattle.law.specs.Values.{Value, Rec}
use Rattle.form.specs.Values.{Reply, good, refused}
use Rattle.law.specs.Sections.{Shape, header, outline, component, keepout, listing, placements}
use Rattle.law.specs.declared.Role.TheVariants as role
use Rattle.law.specs.Kinds.{kind_at, section_of, role_in, role_of}
use Rattle.law.specs.declared.Role.{Role}
use Rattle.law.specs.declared.Role.TheVariants.{Unknown as unknown}
use Rattle.law.specs.Layouts.{open_word, close_word, types_of}
use Rattle.law.specs.Fits.{under}
use Rattle.form.specs.Reading.{read_fields, Line, free, bad, key_line, data_line, line_as, after_prop, after, read_line, keyword_of}
use Rattle.law.specs.declared.Rules.{Rules}
use Rattle.form.specs.declared.Keyword.{Keyword}
use Rattle.form.specs.declared.Keyword.TheVariants.{Opening, Closing, Unknown}
use Rattle.line_rows.specs.LineKinds.{is_prop}
use Rattle.law.specs.Records.{shape_of, Named}
use Rattle.order.specs.Places.{point_line, has_props, line_at, kind_by, data_kind, key_kind}
use Rattle.order.specs.Automaton.{is_role, type_at, may_stand, admit}
use Rattle.order.specs.declared.Phase.{Phase}
use Rattle.order.specs.declared.Phase.TheVariants.{AwaitTitle, AwaitName, HeaderFull, AwaitLead, InPoints, InProps, InList, AwaitPart, AwaitPosition}
use Rattle.order.specs.declared.Stage.{Stage}
use Rattle.order.specs.declared.State.{State}
use Rattle.order.specs.declared.State.TheVariants.{Between as between, Inside as inside}
use Rattle.order.specs.declared.Reason.{Reason}
use Rattle.shown_lists.proofs.Tables.{section_at_lem, role_at, laid}
use Rattle.law.specs.RecordSpelling.{SpellsRecord}
use Rattle.shown_spelling.proofs.KeywordLaws.{KeywordIs, keyword_is}
use Rattle.shown_spelling.proofs.RecordSpelling.{record_sound}
use Rattle.shown_told.specs.Told.{Said, nothing, says, wrong, free_in, said_of, said_by, said_at, own_fields, said_as, line_says}
use Rattle.shown_told.proofs.Fronts.{front_at, is_data, front_is, types_laid, stands_known, zero_unknown, kind_section}
use Rattle.shown_told.proofs.FreeLines.{line_free}

-- Data lines: the line that a place gives has a role of data, and that of a property only where b says that the line begins with PROP
abbrev given_by : Shape → Bool → ℕ → Bool
given_by f b n = leb n 9 && (is_data (role_in f n) && (not (is_role (role_in f n) role.Prop) || b))

abbrev Given : Shape → Bool → ℕ → Type 0
Given f b n = given_by f b n ≡ true

first_given : (f : Shape) (b : Bool) → Given f b 1
first_given header b = refl
first_given outline b = refl
first_given component b = refl
first_given keepout b = refl
first_given listing b = refl
first_given placements b = refl

second_given : (f : Shape) (b : Bool) → Given f b 2
second_given header b = refl
second_given outline b = refl
second_given component b = refl
second_given keepout b = refl
second_given listing b = refl
second_given placements b = refl

third_given : (f : Shape) → Given f true 3
third_given header = refl
third_given outline = refl
third_given component = refl
third_given keepout = refl
third_given listing = refl
third_given placements = refl

point_given : (f : Shape) (b : Bool) → Given f b (point_line f)
point_given header b = second_given header b
point_given outline b = second_given outline b
point_given component b = second_given component b
point_given keepout b = first_given keepout b
point_given listing b = second_given listing b
point_given placements b = second_given placements b

module _ (f : Shape) (b : Bool) where
  given_at : (m n : ℕ) → Given f b m → some m ≡ some n → Given f b n
  given_at m n h e = let z : m ≡ n = cc in rw z at h

  given_third : (n : ℕ) (o : Option ℕ) → (o ≡ some n → Given f b n) → cond (b && has_props f) (some 3) o ≡ some n → Given f b n
  given_third n o k = go (b && has_props f) refl
    where
      go : (c : Bool) → (b && has_props f) ≡ c → cond c (some 3) o ≡ some n → Given f b n
      go true i e = given_at 3 n (rw (both b (has_props f) i).0 (third_given f)) e
      go false i e = k e

  given : (p : Phase) (n : ℕ) → line_at f p b ≡ some n → Given f b n
  given AwaitTitle n e = given_at 1 n (first_given f b) e
  given (AwaitName t) n e = given_at 2 n (second_given f b) e
  given (HeaderFull t) n e = cc
  given AwaitLead n e = given_at 1 n (first_given f b) e
  given (InPoints l) n e = given_third n (some (point_line f)) (given_at (point_line f) n (point_given f b)) e
  given InProps n e = given_third n none (λ i. cc) e
  given InList n e = given_at 1 n (first_given f b) e
  given AwaitPart n e = given_at 1 n (first_given f b) e
  given AwaitPosition n e = given_at 2 n (second_given f b) e

-- the fields that a data line has behind what its role puts before them
prop_after : (fs : List Field) → is_prop fs ≡ true → after_prop fs ≡ good (drop 1 fs)
prop_after [] h = absurd (false≢true h)
prop_after (field true s ∷ fs) h = absurd (false≢true h)
prop_after (field false s ∷ fs) h = rw h

role_after : (a : Role) (s : ℕ) (fs : List Field) → is_data a ≡ true → (is_role a role.Prop ≡ true → is_prop fs ≡ true)
    → after (front_at a s) (data_line fs) ≡ good (cond (is_role a role.Prop) (drop 1 fs) fs)
role_after role.Opening s fs d h = absurd (false≢true d)
role_after role.Closing s fs d h = absurd (false≢true d)
role_after role.Title s fs d h = refl
role_after role.Name s fs d h = refl
role_after role.Lead s fs d h = refl
role_after role.Point s fs d h = refl
role_after role.Prop s fs d h = prop_after fs (h refl)
role_after role.Entry s fs d h = refl
role_after role.Part s fs d h = refl
role_after role.Position s fs d h = refl
role_after role.Unknown s fs d h = refl

module _ (v : Rules) where
  -- a line of kind k has these fields behind its front
  abbrev pub Behind : ℕ → Line → List Field → Type 0
  Behind k l gs = after (front_at (role_of v k) (section_of v k)) l ≡ good gs

  abbrev pub Known : ℕ → Type 0
  Known k = is_role (role_of v k) unknown ≡ false

  zero_not : {A : Type 0} → Known 0 → A
  zero_not h = absurd (not_both (rw (zero_unknown v)) h)

  data_behind : (s : ℕ) (fs : List Field) (o : Option ℕ) → ((n : ℕ) → o ≡ some n → Given (shape_of v s) (is_prop fs) n) → Known (kind_by v s o)
      → Behind (kind_by v s o) (data_line fs) (own_fields v (kind_by v s o) fs)
  data_behind s fs none g h = zero_not h
  data_behind s fs (some n) g h =
      let x = both (leb n 9) _ (g n refl) in
      let y = both (is_data (role_in (shape_of v s) n)) _ x.1 in
      let l = leb-true n 9 x.0 in
      let e : role_of v (kind_at v s n) ≡ role_in (shape_of v s) n = role_at v s n (kind_section v s n l h) l in
      rw e (role_after (role_in (shape_of v s) n) _ fs y.0 (λ p. other (not (is_role (role_in (shape_of v s) n) role.Prop)) (is_prop fs) (rw p) y.1))

  pub data_known : (st : State) (fs : List Field) → Known (data_kind v st (is_prop fs)) → Behind (data_kind v st (is_prop fs)) (data_line fs) (own_fields v (data_kind v st (is_prop fs)) fs)
  unfolding data_kind
  data_known (between g) fs h = zero_not h
  data_known (inside g s p) fs h = data_behind s fs (line_at (shape_of v s) p (is_prop fs)) (given (shape_of v s) (is_prop fs) p) h

  -- Keyword lines
  pub key_behind : (w : List ℕ) (fs : List Field) (q : Keyword) → KeywordIs q w → Known (key_kind v q) → Behind (key_kind v q) (key_line w fs) fs
  unfolding key_kind
  key_behind w fs (Opening s) i h =
      let k = kind_section v s 0 (omega arith) h in
      rw (role_at v s 0 k (omega arith), section_at_lem v s 0 k (omega arith), bytes_same (46 ∷ open_word s) w (sym i.1))
  key_behind w fs (Closing s) i h =
      let k = kind_section v s 9 (omega arith) h in
      rw (role_at v s 9 k (omega arith), section_at_lem v s 9 k (omega arith), bytes_same (46 ∷ close_word s) w (sym i.1))
  key_behind w fs Unknown i h = zero_not h

  -- What an answer says of the line
  module _ (used : List Named) (st : State) (l : List ℕ) where
    abbrev Means : Said → Type 0
    Means nothing = (g : Stage) × (st ≡ between g) × Free l
    Means (says r t) = SpellsRecord (under v (type_at st)) r l × (admit v used st r ≡ next t)
    Means (wrong n) = Unit {0}

    pub record_spelled : (k : ℕ) (gs : List Field) (vs : List Value) → Known k → Behind k (line_as l) gs → read_fields (under v (type_at st)) (types_of v k) gs ≡ good vs
        → SpellsRecord (under v (type_at st)) (record { kind = k; values = vs }) l
    unfolding read_line
    record_spelled k gs vs h b e =
        let d = laid v k h in
        let m = d.layout in
        record_sound (record { layout = m; known = d.is_layout; reads = rw (front_is v k m d.is_layout, b) (rw (types_laid v k m d.is_layout) at e) })

    at_means : (k : ℕ) (gs : List Field) → (Known k → Behind k (line_as l) gs) → Means (said_at v used st k gs)
    unfolding said_at
    at_means k gs b = go (may_stand v st k) (read_fields (under v (type_at st)) (types_of v k) gs) refl refl
      where
        judged : (r : Rec) (o : Result State Reason) → admit v used st r ≡ o → SpellsRecord (under v (type_at st)) r l → Means (said_of r o)
        judged r (next t) j p = (p, j)
        judged r (stops e) j p = tt

        go : (m : Bool) (a : Reply (List Value)) → may_stand v st k ≡ m → read_fields (under v (type_at st)) (types_of v k) gs ≡ a → Means (cond m (said_by v used st k a) (wrong 5))
        go true (good vs) i e =
            let h = stands_known v st k i in
            judged (record { kind = k; values = vs }) _ refl (record_spelled k gs vs h (b h) e)
        go true (refused n) i e = tt
        go false a i e = tt

    free_means : (s : State) → st ≡ s → Free l → Means (free_in s)
    free_means (between g) e f = (g, e, f)
    free_means (inside g s p) e f = tt

    as_means : (x : Line) → line_as l ≡ x → Means (said_as v used st x)
    as_means free e = free_means st refl (line_free e)
    as_means (bad n) e = tt
    as_means (key_line w fs) e = at_means (key_kind v (keyword_of w)) fs (λ h. rw e (key_behind w fs (keyword_of w) (keyword_is w) h))
    as_means (data_line fs) e = let k = data_kind v st (is_prop fs) in at_means k (own_fields v k fs) (λ h. rw e (data_known st fs h))

    line_means : Means (line_says v used st l)
    unfolding line_says
    line_means = as_means (line_as l) refl

    -- a line that is taken to say a record spells it, and the record takes the state to the next
    pub line_sound : (r : Rec) (t : State) → line_says v used st l ≡ says r t → SpellsRecord (under v (type_at st)) r l × (admit v used st r ≡ next t)
    line_sound r t e = subst Means e line_means

    -- a line that is taken to say nothing is free, and no section is open
    pub line_nothing : line_says v used st l ≡ nothing → (g : Stage) × (st ≡ between g) × Free l
    line_nothing e = subst Means e line_means
