-- A record's line is read exactly where the rules spell it.
use Prim.Native.Nat.{ℕ}
use mathlib.Core.Path.{◌≡◌, refl, ap, ◌∙◌}
use mathlib.Core.List.{List, [], ◌∷◌}
use mathlib.Core.Option.{Option, none, some}
use mathlib.Core.Bool.{Bool, true, false, cond, false≢true}
use borrow.Author.Tests.{eqb-true, not-true}
use lib.Dec.{eqb}
use Rattle.basics.proofs.Bytes.{bytes_true, bytes_same}
use Rattle.basics.proofs.Lists.{all_sound, all_complete}
use Rattle.law.specs.Bytes.{permitted, All, all_of, begins}
use Rattle.law.specs.Fields.{Field, field, bare, Spelled, space, last, next}
use Rattle.text_fields.specs.Fields.{fields_of}
use Rattle.text_fields.proofs.FieldSpelling.{fields_sound, fields_complete}
use Rattle.law.specs.Values.{Value}
use Rattle.form.specs.Values.{Reply, good, refused}
use Rattle.law.specs.declared.refusals.Refusal.TheVariants.{Misplaced, ForbiddenByte}
use Rattle.law.specs.Words.{prop_word, same_bytes, folded}
use Rattle.law.specs.Layouts.{Front, keyword, prop, plain}
use Rattle.form.specs.Reading.{read_fields, Line, free, bad, key_line, data_line, by_first, by_fields, line_as, after_prop, after, fields_by, read_line}
use Rattle.law.specs.declared.Context.{Context}
use Rattle.law.specs.declared.FieldType.{FieldType}
use Rattle.law.specs.WordSpelling.{AnyCase, same, small}
use Rattle.law.specs.RecordSpelling.{SpellsFields, is_data, SpellsLine, with_keyword, with_prop, as_data}
use Rattle.shown_spelling.proofs.Logic.{refused_good, cond_good}
use Rattle.shown_spelling.proofs.WordSpelling.{case_folds, any_case}
use Rattle.shown_spelling.proofs.ValueSpelling.{values_sound, values_complete}

-- What `line_as` answers, as a property of the answer
record KeyLine (s w : List ℕ) (fs : List Field) : Type 0 where
  v : List ℕ
  folds : w ≡ folded (46 ∷ v)
  spelled : Spelled (field false (46 ∷ v) ∷ fs) s
  clean : All permitted s

record DataLine (s : List ℕ) (fs : List Field) : Type 0 where
  hash : begins 35 s ≡ false
  data_first : is_data fs ≡ true
  spelled : Spelled fs s
  clean : All permitted s

abbrev LineBy : List ℕ → Line → Type 0
LineBy s free = Unit {0}
LineBy s (bad n) = Unit {0}
LineBy s (key_line w fs) = KeyLine s w fs
LineBy s (data_line fs) = DataLine s fs

pub begins_cons : (a : ℕ) (v : List ℕ) → begins a v ≡ true → (u : List ℕ) × (v ≡ a ∷ u)
unfolding begins
begins_cons a [] h = absurd (false≢true h)
begins_cons a (b ∷ u) h = (u, ap (λ (x : ℕ). x ∷ u) (eqb-true b a h))

module _ (s : List ℕ) (k : begins 35 s ≡ false) (a : All permitted s) where
  by_bare : (v : List ℕ) (fs : List Field) (t : Bool) → begins 46 v ≡ t → Spelled (field false v ∷ fs) s → LineBy s (cond t (key_line (folded v) fs) (data_line (field false v ∷ fs)))
  unfolding is_data
  by_bare v fs true h r =
      let g = begins_cons 46 v h in
      record { v = g.0; folds = ap folded g.1; spelled = rw g.1 at r; clean = a }
  by_bare v fs false h r = record { hash = k; data_first = rw h; spelled = r; clean = a }

  by_first_lem : (fs : List Field) → Spelled fs s → LineBy s (by_first fs)
  unfolding is_data
  by_first_lem [] r = tt
  by_first_lem (field true v ∷ fs) r = record { hash = k; data_first = refl; spelled = r; clean = a }
  by_first_lem (field false v ∷ fs) r = by_bare v fs (begins 46 v) refl r

  by_fields_lem : (o : Option (List Field)) → fields_of s ≡ o → LineBy s (by_fields o)
  by_fields_lem none h = tt
  by_fields_lem (some fs) h = by_first_lem fs (fields_sound s fs h)

line_by_lem : (s : List ℕ) → LineBy s (line_as s)
unfolding line_as
line_by_lem s = go (begins 35 s) refl (all_of permitted s) refl
  where
    go : (t : Bool) → begins 35 s ≡ t → (u : Bool) → all_of permitted s ≡ u → LineBy s (cond t free (cond u (by_fields (fields_of s)) (bad ForbiddenByte)))
    go true h u i = tt
    go false h true i = by_fields_lem s h (all_sound permitted s i) (fields_of s) refl
    go false h false i = tt

-- Sound
module _ {c : Context} where
  by_good : (f : Front) (ts : List FieldType) (l : Line) {vs : List Value} → fields_by c ts (after f l) ≡ good vs → (fs : List Field) × (after f l ≡ good fs) × SpellsFields c ts vs fs
  by_good f ts l {vs} e = go (after f l) refl e
    where
      go : (r : Reply (List Field)) → after f l ≡ r → fields_by c ts r ≡ good vs → (fs : List Field) × (after f l ≡ good fs) × SpellsFields c ts vs fs
      go (good fs) h e = (fs, h, values_sound ts fs e)
      go (refused n) h e = absurd (refused_good e)

  key_sound : (k : List ℕ) {ts : List FieldType} {vs : List Value} {s w : List ℕ} {fs gs : List Field} → KeyLine s w gs → cond (same_bytes (46 ∷ k) w) (good gs) (refused Misplaced) ≡ good fs → SpellsFields c ts vs fs → SpellsLine c (keyword k) ts vs s
  unfolding folded
  key_sound k {ts} {vs} {s} {w} {fs} {gs} l e r =
      let g = cond_good Misplaced (same_bytes (46 ∷ k) w) e in
      let x : 46 ∷ k ≡ 46 ∷ folded l.v = bytes_true (46 ∷ k) w g.0 ∙ l.folds in
      let y : k ≡ folded l.v = cc in
      let z : fs ≡ gs = cc g.1 in
      let m : AnyCase k l.v = any_case y in
      let p : Spelled (field false (46 ∷ l.v) ∷ fs) s = rw z l.spelled in
      with_keyword m r p l.clean

  prop_sound : {ts : List FieldType} {vs : List Value} {s : List ℕ} {fs : List Field} (gs : List Field) → DataLine s gs → after_prop gs ≡ good fs → SpellsFields c ts vs fs → SpellsLine c prop ts vs s
  prop_sound [] l e r = absurd (refused_good e)
  prop_sound (field true v ∷ gs) l e r = absurd (refused_good e)
  prop_sound {s = s} {fs = fs} (field false v ∷ gs) l e r =
      let g = cond_good Misplaced (same_bytes prop_word (folded v)) e in
      let z : fs ≡ gs = cc g.1 in
      with_prop {p = v} {s = s} (any_case (bytes_true prop_word (folded v) g.0)) r (rw z l.spelled) l.clean

  after_sound : (f : Front) {ts : List FieldType} {vs : List Value} {s : List ℕ} {fs : List Field} (l : Line) → LineBy s l → after f l ≡ good fs → SpellsFields c ts vs fs → SpellsLine c f ts vs s
  after_sound f free p e r = absurd (refused_good e)
  after_sound f (bad n) p e r = absurd (refused_good e)
  after_sound (keyword k) (key_line w gs) p e r = key_sound k p e r
  after_sound (keyword k) (data_line gs) p e r = absurd (refused_good e)
  after_sound prop (key_line w gs) p e r = absurd (refused_good e)
  after_sound prop (data_line gs) p e r = prop_sound gs p e r
  after_sound plain (key_line w gs) p e r = absurd (refused_good e)
  after_sound plain {s = s} {fs = fs} (data_line gs) p e r =
      let z : fs ≡ gs = cc in
      as_data {fs = fs} {s = s} (rw z p.data_first) p.hash r (rw z p.spelled) p.clean

  -- What reads as the values of a record spells them
  pub line_sound : (f : Front) (ts : List FieldType) (s : List ℕ) {vs : List Value} → read_line c f ts s ≡ good vs → SpellsLine c f ts vs s
  unfolding read_line
  line_sound f ts s e =
      let g = by_good f ts (line_as s) e in
      after_sound f (line_as s) (line_by_lem s) g.1 g.2

-- Complete: a line whose first field is bare begins with a space or with that field
first_byte : {b : ℕ} {v : List ℕ} {fs : List Field} {s : List ℕ} (a : ℕ) → Spelled (field false (b ∷ v) ∷ fs) s → eqb b a ≡ false → eqb 32 a ≡ false → begins a s ≡ false
unfolding begins
first_byte a (space r) h k = k
first_byte a (last (bare p)) h k = h
first_byte a (next (bare p) r) h k = h

line_fields : {s : List ℕ} {fs : List Field} → begins 35 s ≡ false → All permitted s → Spelled fs s → line_as s ≡ by_first fs
unfolding line_as
line_fields {s} {fs} h a r = rw (h, all_complete permitted a, fields_complete s fs r)

-- PROP begins in no letter case with # or a period
record Head (p : List ℕ) : Type 0 where
  b : ℕ
  q : List ℕ
  is : p ≡ b ∷ q
  hash : eqb b 35 ≡ false
  period : eqb b 46 ≡ false

prop_head : {p : List ℕ} → AnyCase prop_word p → Head p
prop_head (same {s = s} h r) = record { b = 80; q = s; is = refl; hash = refl; period = refl }
prop_head (small {s = s} h r) = record { b = 112; q = s; is = refl; hash = refl; period = refl }

key_line_lem : {k w : List ℕ} {fs : List Field} {s : List ℕ} → AnyCase k w → Spelled (field false (46 ∷ w) ∷ fs) s → All permitted s → line_as s ≡ key_line (46 ∷ k) fs
unfolding begins folded
key_line_lem m p a = line_fields (first_byte 35 p refl refl) a p ∙ rw (case_folds m)

prop_line : {p : List ℕ} {fs : List Field} {s : List ℕ} → AnyCase prop_word p → Spelled (field false p ∷ fs) s → All permitted s → line_as s ≡ data_line (field false p ∷ fs)
unfolding begins
prop_line {p} h q a =
    let e = prop_head h in
    line_fields (first_byte 35 (rw e.is at q) e.hash refl) a q ∙ rw (e.is, e.period)

data_line_lem : {s : List ℕ} (fs : List Field) → is_data fs ≡ true → begins 35 s ≡ false → Spelled fs s → All permitted s → line_as s ≡ data_line fs
unfolding is_data
data_line_lem [] d h q a = absurd (false≢true d)
data_line_lem (field true v ∷ fs) d h q a = line_fields h a q
data_line_lem (field false v ∷ fs) d h q a = line_fields h a q ∙ rw (not-true (begins 46 v) d)

-- What a line of a front and fields looks like
abbrev pub Looks : Front → List Field → Line → Type 0
Looks (keyword k) fs l = l ≡ key_line (46 ∷ k) fs
Looks prop fs l = (p : List ℕ) × AnyCase prop_word p × (l ≡ data_line (field false p ∷ fs))
Looks plain fs l = l ≡ data_line fs

after_looks : (f : Front) (fs : List Field) (l : Line) → Looks f fs l → after f l ≡ good fs
after_looks (keyword k) fs l e = rw (e, bytes_same (46 ∷ k) (46 ∷ k) refl)
after_looks prop fs l e = rw (e.2, case_folds e.1, bytes_same prop_word prop_word refl)
after_looks plain fs l e = rw e

-- What a record's line looks like, and that its fields read as the record's values
pub record Lined (c : Context) (f : Front) (ts : List FieldType) (vs : List Value) (s : List ℕ) : Type 0 where
  pub fs : List Field
  pub looks : Looks f fs (line_as s)
  pub reads : read_fields c ts fs ≡ good vs

abbrev pub is_keyword : Front → Bool
is_keyword (keyword k) = true
is_keyword prop = false
is_keyword plain = false

abbrev pub is_key_line : Line → Bool
is_key_line free = false
is_key_line (bad n) = false
is_key_line (key_line w fs) = true
is_key_line (data_line fs) = false

-- what can be seen of it without its fields
pub record First (f : Front) (s : List ℕ) : Type 0 where
  pub hash : begins 35 s ≡ false
  pub clean : All permitted s
  pub keyed : is_key_line (line_as s) ≡ is_keyword f

module _ {c : Context} where
  pub line_looks : {f : Front} {ts : List FieldType} {vs : List Value} {s : List ℕ} → SpellsLine c f ts vs s → Lined c f ts vs s
  line_looks (with_keyword {fs = fs} m r p a) = record { fs = fs; looks = key_line_lem m p a; reads = values_complete r }
  line_looks (with_prop {p = w} {fs = fs} h r p a) = record { fs = fs; looks = (w, h, prop_line h p a); reads = values_complete r }
  line_looks (as_data {fs = fs} d h r p a) = record { fs = fs; looks = data_line_lem fs d h p a; reads = values_complete r }

  -- What spells the values of a record reads as them
  pub line_complete : {f : Front} {ts : List FieldType} {vs : List Value} {s : List ℕ} → SpellsLine c f ts vs s → read_line c f ts s ≡ good vs
  unfolding read_line
  line_complete {f} {s = s} p = let l = line_looks p in rw (after_looks f l.fs (line_as s) l.looks) l.reads

  -- So a line spells the values of one record of a front and types at most
  pub line_unique : {f : Front} {ts : List FieldType} {vs us : List Value} {s : List ℕ} → SpellsLine c f ts vs s → SpellsLine c f ts us s → vs ≡ us
  line_unique p q = let e = line_complete p in let f = line_complete q in cc

  -- It is no comment, has no forbidden byte, and is a keyword line exactly if its front is a keyword
  pub line_first : {f : Front} {ts : List FieldType} {vs : List Value} {s : List ℕ} → SpellsLine c f ts vs s → First f s
  unfolding begins
  line_first (with_keyword m r p a) = record { hash = first_byte 35 p refl refl; clean = a; keyed = rw (key_line_lem m p a) }
  line_first (with_prop {p = w} h r p a) = let e = prop_head h in record { hash = first_byte 35 (rw e.is at p) e.hash refl; clean = a; keyed = rw (prop_line h p a) }
  line_first (as_data {fs = fs} d h r p a) = record { hash = h; clean = a; keyed = rw (data_line_lem fs d h p a) }
