-- The canonical line of a well_formed_lem record spells it, so reading it gives the record back, and no two records of a kind share one.
use Prim.Native.Nat.{ℕ}
use mathlib.Core.Path.{◌≡◌, refl}
use mathlib.Core.List.{List, [], ◌∷◌, ◌++◌, append-nil}
use mathlib.Core.Option.{Option, none, some}
use mathlib.Core.Bool.{true, false, not, false≢true}
use borrow.Author.Tests.{not-true}
use lib.Dec.{eqb}
use Rattle.basics.proofs.Lists.{all_sound}
use Rattle.basics.proofs.Bools.{and_left, and_right, neither}
use Rattle.law.specs.Bytes as by
use Rattle.law.specs.Bytes.{permitted, All, begins}
use Rattle.law.specs.Fields.{Field, field, Spells, bare, quoted, Spelled}
use Rattle.law.specs.Fields as sp
use Rattle.law.specs.Values.{Value, Rec}
use Rattle.law.specs.Words.{prop_word}
use Rattle.law.specs.Layouts.{Front, keyword, prop, plain, Layout, layout_of}
use Rattle.law.specs.Fits.{fits, fits_all, fits_by, well_formed, WellFormed}
use Rattle.law.specs.declared.Context.{Context}
use Rattle.law.specs.declared.FieldType.{FieldType}
use Rattle.law.specs.RecordSpelling.{SpellsFields, none as no_fields, more, is_data, SpellsLine, with_keyword, with_prop, as_data, SpellsRecord, as_line}
use Rattle.law.specs.Canonical.{canonical_fields, written, joined, canonical_line, canonical_record}
use Rattle.shown_spelling.proofs.BareBytes.{tight, safe, name_byte, all_append, all_map, tight_bare, tight_permitted, text_permitted, text_quoted, tight_name, name_case}
use Rattle.shown_spelling.proofs.Tables.{good_front, layout_front}
use Rattle.shown_spelling.proofs.RecordSpelling.{record_unique}
use Rattle.shown_spelling.proofs.CanonicalFields.{Writes, as_bare, as_quoted, field_canon}

-- Fields that stand in a line as they are written
record Fine (f : Field) : Type 0 where
  spells : Spells f (written f)
  clean : All permitted (written f)

data Fines : List Field → Type 0 where
  no : Fines []
  fine : {f : Field} {fs : List Field} → Fine f → Fines fs → Fines (f ∷ fs)

tight_fine : {b : ℕ} {s : List ℕ} → All tight (b ∷ s) → Fine (field false (b ∷ s))
unfolding written
tight_fine a = record { spells = bare (all_map tight_bare a); clean = all_map tight_permitted a }

bare_fine : (s : List ℕ) → All tight s → safe s ≡ true → Fine (field false s)
bare_fine [] a h = absurd (false≢true h)
bare_fine (b ∷ s) a h = tight_fine a

writes_fine : {f : Field} → Writes f → Fine f
unfolding written permitted
writes_fine (as_bare {s} a h) = bare_fine s a h
writes_fine (as_quoted a) = record { spells = quoted (all_map text_quoted a); clean = by.one refl (all_append (all_map text_permitted a) (by.one refl by.none)) }

joined_spelled : {fs : List Field} → Fines fs → Spelled fs (joined fs)
unfolding joined
joined_spelled no = sp.end
joined_spelled (fine p no) = sp.last p.spells
joined_spelled (fine p (fine q r)) = sp.next p.spells (sp.space (joined_spelled (fine q r)))

joined_clean : {fs : List Field} → Fines fs → All permitted (joined fs)
unfolding joined permitted
joined_clean no = by.none
joined_clean (fine p no) = p.clean
joined_clean (fine p (fine q r)) = all_append p.clean (by.one refl (joined_clean (fine q r)))

-- A data line begins with its first field
first_data : {f : Field} (fs : List Field) → Writes f → is_data (f ∷ fs) ≡ true
unfolding is_data begins
first_data fs (as_bare {s} a h) = go s h
  where
    go : (s : List ℕ) → safe s ≡ true → not (begins 46 s) ≡ true
    go [] h = refl
    go (b ∷ s) h = rw (neither (eqb b 35) _ (not-true _ h)).1
first_data fs (as_quoted a) = refl

append_first : (s t : List ℕ) → safe s ≡ true → begins 35 (s ++ t) ≡ false
unfolding begins
append_first [] t h = absurd (false≢true h)
append_first (b ∷ s) t h = (neither (eqb b 35) _ (not-true _ h)).0

joined_first : {f : Field} (fs : List Field) → Writes f → begins 35 (joined (f ∷ fs)) ≡ false
unfolding joined written begins
joined_first [] (as_bare {s} a h) = rw append-nil at (append_first s [] h)
joined_first [] (as_quoted a) = refl
joined_first (g ∷ fs) (as_bare {s} a h) = append_first s (32 ∷ joined (g ∷ fs)) h
joined_first (g ∷ fs) (as_quoted a) = refl

module _ (c : Context) where
  record Canons (ts : List FieldType) (vs : List Value) : Type 0 where
    spells : SpellsFields c ts vs (canonical_fields c.rules ts vs)
    fines : Fines (canonical_fields c.rules ts vs)

  fields_canon : (ts : List FieldType) (vs : List Value) → fits_all c ts vs ≡ true → Canons ts vs
  unfolding fits_all canonical_fields
  fields_canon [] [] h = record { spells = no_fields; fines = no }
  fields_canon [] (v ∷ vs) h = absurd (false≢true h)
  fields_canon (t ∷ ts) [] h = absurd (false≢true h)
  fields_canon (t ∷ ts) (v ∷ vs) h =
      let p = field_canon c t v (and_left (fits c t v) _ h) in
      let r = fields_canon ts vs (and_right (fits c t v) _ h) in
      record { spells = more p.spells r.spells; fines = fine (writes_fine p.writes) r.fines }

  line_canon : (f : Front) (ts : List FieldType) (vs : List Value) → good_front f ts ≡ true → fits_all c ts vs ≡ true → SpellsLine c f ts vs (canonical_line c.rules f ts vs)
  unfolding canonical_line good_front fits_all canonical_fields permitted
  line_canon (keyword k) ts vs h g =
      let r = fields_canon ts vs g in
      let a = all_sound name_byte k h in
      let p : Fines (field false (46 ∷ k) ∷ canonical_fields c.rules ts vs) = fine (tight_fine (by.one refl (all_map tight_name a))) r.fines in
      with_keyword (name_case k a) r.spells (joined_spelled p) (joined_clean p)
  line_canon prop ts vs h g =
      let r = fields_canon ts vs g in
      let a : All name_byte prop_word = by.one refl (by.one refl (by.one refl (by.one refl by.none))) in
      let p : Fines (field false prop_word ∷ canonical_fields c.rules ts vs) = fine (tight_fine (all_map tight_name a)) r.fines in
      with_prop (name_case prop_word a) r.spells (joined_spelled p) (joined_clean p)
  line_canon plain [] vs h g = absurd (false≢true h)
  line_canon plain (t ∷ ts) [] h g = absurd (false≢true g)
  line_canon plain (t ∷ ts) (v ∷ vs) h g =
      let r = fields_canon (t ∷ ts) (v ∷ vs) g in
      let w = (field_canon c t v (and_left (fits c t v) _ g)).writes in
      let fs = canonical_fields c.rules ts vs in
      as_data (first_data fs w) (joined_first fs w) r.spells (joined_spelled r.fines) (joined_clean r.fines)

  record_canon : (r : Rec) (l : Layout) → layout_of c.rules r.kind ≡ some l → WellFormed c r → SpellsLine c l.front l.types r.values (canonical_record c.rules r)
  unfolding well_formed canonical_record
  record_canon r l e h = rw e (line_canon l.front l.types r.values (layout_front c.rules r.kind l e) (rw e at h))

  -- It spells the record
  pub canonical_spells : (r : Rec) → WellFormed c r → SpellsRecord c r (canonical_record c.rules r)
  unfolding well_formed
  canonical_spells r h = go (layout_of c.rules r.kind) refl h
    where
      go : (o : Option Layout) → layout_of c.rules r.kind ≡ o → fits_by c o r.values ≡ true → SpellsRecord c r (canonical_record c.rules r)
      go none e g = absurd (false≢true g)
      go (some l) e g = as_line e (record_canon r l e h)

  -- two records of a kind with equal canonical lines are equal
  pub canonical_unique : (q r : Rec) → WellFormed c q → WellFormed c r → q.kind ≡ r.kind → canonical_record c.rules q ≡ canonical_record c.rules r → q ≡ r
  canonical_unique q r g h k e = record_unique k (rw e at (canonical_spells q g)) (canonical_spells r h)
