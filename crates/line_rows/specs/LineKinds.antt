-- What a line is, how many fields it has, and where the first ends.
use Rattle.std.specs.Prelude.{ℕ, suc, List, [], ◌∷◌, Bool, true, false, cond, length, take, drop, Some, None, Result, Ok, Err}
use Rattle.law.specs.Bytes.{begins}
use Rattle.law.specs.Fields.{Field, field}
use Rattle.text_fields.specs.FirstField.{FirstField, field_of}
use Rattle.law.specs.Words.{prop_word, same_bytes, folded}
use Rattle.form.specs.Reading.{Line, free, bad, key_line, data_line, line_as, keyword_of}
use Rattle.law.specs.declared.refusals.Refusal.{Refusal}
use Rattle.law.specs.declared.refusals.Refusal.TheVariants.{BrokenQuoting}
use Rattle.line_rows.specs.declared.LineKind.{LineKind}
use Rattle.line_rows.specs.declared.LineKind.TheVariants.{Free, Key, Data}

-- begins with the bare word PROP
abbrev pub is_prop : List Field → Bool
is_prop [] = false
is_prop (field true s ∷ fs) = false
is_prop (field false s ∷ fs) = same_bytes prop_word (folded s)

-- the place behind the first field
abbrev pub behind : FirstField → ℕ
behind (Ok None) = 0
behind (Ok (Some f)) = f.next
behind (Err e) = 0

abbrev pub kind_by : Line → ℕ → Result LineKind Refusal
kind_by free m = Ok Free
kind_by (bad e) m = Err e
kind_by (key_line w fs) m = Ok (Key (keyword_of w) (suc (length fs)) m)
kind_by (data_line fs) m = Ok (Data (is_prop fs) (length fs) m)

unfoldable pub kind_of : List ℕ → Result LineKind Refusal
kind_of s = kind_by (line_as s) (behind (field_of s))

-- by the first field, of n; the place behind it is m
unfoldable pub bare_kind : List ℕ → ℕ → ℕ → LineKind
bare_kind w n m = cond (begins 46 w) (Key (keyword_of (folded w)) n m) (Data (same_bytes prop_word (folded w)) n m)

abbrev pub first_by : FirstField → List ℕ → ℕ → Result LineKind Refusal
first_by (Ok None) s n = Ok Free
first_by (Ok (Some f)) s n = Ok (cond f.quoted (Data false n f.next) (bare_kind (take f.len (drop f.start s)) n f.next))
first_by (Err e) s n = Err BrokenQuoting
