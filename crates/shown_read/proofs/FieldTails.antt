-- The fields of a line as `line_as` takes them, and that the fields behind the first stand from the place behind it on.
use Prim.Native.Nat.{ℕ, ◌≤◌}
use mathlib.Core.Path.{◌≡◌, refl, ap, ◌∙◌}
use mathlib.Core.List.{List, [], ◌∷◌}
use mathlib.Core.Option.{Option, none, some}
use mathlib.Core.Bool.{Bool, true, false, cond}
use native.Mathlib.Omega.{arith}
use lib.ListN.{length, take, drop}
use Rattle.basics.proofs.Bools.{none_some}
use Rattle.law.specs.Refusals.{number_of}
use Rattle.law.specs.declared.refusals.Refusal.TheVariants.{ForbiddenByte}
use Rattle.law.specs.Bytes.{permitted, all_of, begins}
use Rattle.law.specs.Fields.{Field, field}
use Rattle.text_fields.specs.FirstField.{FirstField, field_of}
use Rattle.text_fields.specs.Fields.{fields_by, fields_in, fields_of}
use Rattle.std.specs.Prelude.{Some, None, Ok, Err}
use Rattle.text_fields.proofs.FieldSpelling.{sound_in, fields_complete}
use Rattle.form.specs.Reading.{Line, free, bad, key_line, data_line, by_first, by_fields, line_as}
use Rattle.line_rows.specs.LineKinds.{behind}
use Rattle.line_rows.proofs.LookLaws.{got_lies, some_before}
use Rattle.law.specs.Words.{folded}

-- from the place m on, a line has the fields fs
pub record From (s : List ℕ) (m : ℕ) (fs : List Field) : Type 0 where
  pub within : m ≤ length s
  pub fields : fields_of (drop m s) ≡ some fs

pub from_start : (s : List ℕ) (fs : List Field) → fields_of s ≡ some fs → From s 0 fs
from_start s fs e = record { within = omega arith; fields = e }

-- behind its first field it has the others
pub from_behind : (s : List ℕ) (f : Field) (fs : List Field) → fields_of s ≡ some (f ∷ fs) → From s (behind (field_of s)) fs
unfolding fields_of fields_in
from_behind s f fs e = go (field_of s) refl e
  where
    go : (x : FirstField) → field_of s ≡ x → fields_by x s (λ n. fields_in (length s) (drop n s)) ≡ some (f ∷ fs) → From s (behind x) fs
    go (Ok None) i h = let z : ◌≡◌ {A = ℕ} 0 1 = cc in absurd (omega arith)
    go (Ok (Some d)) i h =
        let g = some_before (field d.quoted (take d.len (drop d.start s))) (fields_in (length s) (drop d.next s)) (f ∷ fs) h in
        let k = g.2 in
        let w : g.0 ≡ fs = cc in
        record {
          within = omega (arith, (got_lies s d i).within);
          fields = fields_complete (drop d.next s) fs (sound_in (length s) (drop d.next s) fs (g.1 ∙ ap some w));
        }
    go (Err b) i h = absurd (none_some h)

-- What `line_as` answers: 3 or 4; a keyword and the fields behind it; some fields of data
abbrev pub Listed : List ℕ → Line → Type 0
Listed s free = Unit {0}
Listed s (bad e) = (3 ≤ number_of e) × (number_of e ≤ 4)
Listed s (key_line w fs) = (f : Field) × (fields_of s ≡ some (f ∷ fs))
Listed s (data_line fs) = (f : Field) × (gs : List Field) × (fs ≡ f ∷ gs) × (fields_of s ≡ some fs)

by_bare : (s w : List ℕ) (fs : List Field) (t : Bool) → fields_of s ≡ some (field false w ∷ fs) → Listed s (cond t (key_line (folded w) fs) (data_line (field false w ∷ fs)))
by_bare s w fs true e = (field false w, e)
by_bare s w fs false e = (field false w, fs, refl, e)

by_first_lem : (s : List ℕ) (fs : List Field) → fields_of s ≡ some fs → Listed s (by_first fs)
by_first_lem s [] e = tt
by_first_lem s (field true w ∷ fs) e = (field true w, fs, refl, e)
by_first_lem s (field false w ∷ fs) e = by_bare s w fs (begins 46 w) e

pub line_listed : (s : List ℕ) → Listed s (line_as s)
unfolding line_as
line_listed s = go (begins 35 s) (all_of permitted s) (fields_of s) refl
  where
    go : (h c : Bool) (o : Option (List Field)) → fields_of s ≡ o → Listed s (cond h free (cond c (by_fields o) (bad ForbiddenByte)))
    go true c o e = tt
    go false true none e = (omega arith, omega arith)
    go false true (some fs) e = by_first_lem s fs e
    go false false o e = (omega arith, omega arith)
