-- The fields of a line.
use Rattle.std.specs.Prelude.{ℕ, zero, suc, List, [], ◌∷◌, length, take, drop, Some, None, Result, Ok, Err}
use Rattle.std.proofs.Math.Option.{Option, none, some}
use Rattle.law.specs.Fields.{Field, field}
use Rattle.text_fields.specs.FirstField.{FirstField, field_of}
use Rattle.text_fields.specs.declared.BrokenQuoting.{BrokenQuoting}

-- a field in front of others; nothing where there are no others for broken quoting
abbrev pub before : Field → Option (List Field) → Option (List Field)
before f none = none
before f (some fs) = some (f ∷ fs)

-- the fields of s, from what its first field is and what the fields after n bytes are
abbrev pub fields_by : FirstField → List ℕ → (ℕ → Option (List Field)) → Option (List Field)
fields_by (Ok None) s later = some []
fields_by (Ok (Some f)) s later = before (field f.quoted (take f.len (drop f.start s))) (later f.next)
fields_by (Err e) s later = none

-- the fields of s, where it has fewer than `fuel`
unfoldable pub fields_in : ℕ → List ℕ → Option (List Field)
fields_in zero s = none
fields_in (suc fuel) s = fields_by (field_of s) s (λ n. fields_in fuel (drop n s))

-- the fields of a line, of which it has no more than bytes; none for broken quoting
unfoldable pub fields_of : List ℕ → Option (List Field)
fields_of s = fields_in (suc (length s)) s

abbrev pub count_by : Option (List Field) → Result ℕ BrokenQuoting
count_by none = Err (record {})
count_by (some fs) = Ok (length fs)

-- the number of fields of a line
unfoldable pub count_of : List ℕ → Result ℕ BrokenQuoting
count_of s = count_by (fields_of s)
