-- A record's line is no free line: inside a section every line is a record's, and lines spell one list of records of given kinds.
use Prim.Native.Nat.{ℕ}
use mathlib.Core.Path.{◌≡◌, refl, sym, ap, subst}
use mathlib.Core.List.{List, [], ◌∷◌}
use mathlib.Core.Option.{Option, some}
use mathlib.Core.Bool.{Bool, true, false, cond}
use borrow.Author.Tests.{eqb-true}
use Rattle.law.specs.declared.refusals.Refusal.TheVariants.{ForbiddenByte}
use Rattle.law.specs.Bytes.{permitted, is_space, all_of, begins, All, none, one}
use Rattle.law.specs.Fields.{Field, Spelled, end as no_field, space}
use Rattle.law.specs.Lines.{Free, blank, comment}
use Rattle.text_fields.specs.Fields.{fields_of}
use Rattle.text_fields.proofs.FieldSpelling.{fields_complete}
use Rattle.law.specs.Values.{Value, Rec}
use Rattle.form.specs.Values.{good}
use Rattle.law.specs.Kinds.{role_of}
use Rattle.law.specs.Layouts.{Front}
use Rattle.form.specs.Reading.{free as free_line, bad, by_fields, after, fields_by, line_as, read_line}
use Rattle.law.specs.declared.Context.{Context}
use Rattle.law.specs.declared.FieldType.{FieldType}
use Rattle.law.specs.RecordSpelling.{SpellsRecord}
use Rattle.law.specs.LineSpelling.{Where, inside, leads_to, SpellsLines, end, free, line}
use Rattle.shown_spelling.proofs.Logic.{refused_good}
use Rattle.shown_spelling.proofs.RecordSpelling.{record_complete, record_unique}

pub spaces_spell : {l : List ℕ} → All is_space l → Spelled [] l
spaces_spell none = no_field
spaces_spell (one {b = b} e a) = rw (eqb-true b 32 e) (space (spaces_spell a))

-- a line that begins with #, or has no field, is read as no record
module _ (c : Context) (f : Front) (ts : List FieldType) {vs : List Value} where
  no_record : (hash clean : Bool) (o : Option (List Field)) → o ≡ some [] → fields_by c ts (after f (cond hash free_line (cond clean (by_fields o) (bad ForbiddenByte)))) ≡ good vs → ⊥
  no_record true clean o e h = refused_good h
  no_record false true o e h = let z : fields_by c ts (after f (by_fields (some []))) ≡ good vs = rw e at h in refused_good z
  no_record false false o e h = refused_good h

  not_read : {l : List ℕ} → Free l → read_line c f ts l ≡ good vs → ⊥
  unfolding read_line line_as begins
  not_read (blank {l} a) h = no_record (begins 35 l) (all_of permitted l) (fields_of l) (fields_complete l [] (spaces_spell a)) h
  not_read comment h = refused_good h

pub record_not_free : {c : Context} {r : Rec} {l : List ℕ} → SpellsRecord c r l → Free l → ⊥
record_not_free {c} p a = let x = record_complete p in not_read c x.layout.front x.layout.types a x.reads

-- no free line inside a section
pub none_inside : {c : Context} {rs : List Rec} {l : List ℕ} {ls : List (List ℕ)} → SpellsLines c inside rs (l ∷ ls) → Free l → ⊥
none_inside (line p m) a = record_not_free p a

abbrev kinds_of : List Rec → List ℕ
kinds_of [] = []
kinds_of (r ∷ rs) = r.kind ∷ kinds_of rs

abbrev first_of : List ℕ → ℕ
first_of [] = 0
first_of (k ∷ ks) = k

abbrev rest_of : List ℕ → List ℕ
rest_of [] = []
rest_of (k ∷ ks) = ks

-- lines spell one list of records whose kinds are these
pub spelled_unique : {c : Context} {w : Where} {ls : List (List ℕ)} {rs qs : List Rec} → SpellsLines c w rs ls → SpellsLines c w qs ls → kinds_of rs ≡ kinds_of qs → rs ≡ qs
spelled_unique end end e = refl
spelled_unique (free a m) (free b n) e = spelled_unique m n e
spelled_unique (free a m) (line q n) e = absurd (record_not_free q a)
spelled_unique (line p m) (free b n) e = absurd (record_not_free p b)
spelled_unique {c} {w} (line {r = r} {ls = ls} p m) (line {r = q} {rs = qs} x n) e =
    let k : r.kind ≡ q.kind = ap first_of e in
    let y : SpellsLines c (leads_to (role_of c.rules r.kind) w) qs ls = subst (λ (i : ℕ). SpellsLines c (leads_to (role_of c.rules i) w) qs ls) (sym k) n in
    rw (record_unique k p x, spelled_unique m y (ap rest_of e))
