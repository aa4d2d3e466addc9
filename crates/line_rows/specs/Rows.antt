-- The row of a line, field by field.
use Rattle.std.specs.Prelude.{ℕ, ◌+◌, ◌^◌, ◌≤◌, ◌<◌, List, [], ◌∷◌, ℤ, pos, length, take, drop, set, Some, None, Result, Ok, Err}
use Rattle.law.specs.Fields.{field}
use Rattle.text_fields.specs.FirstField.{FirstField, field_of}
use Rattle.law.specs.Values.{Value, number, word, text}
use Rattle.form.specs.Values.{Reply, good, refused}
use Rattle.law.specs.Layouts.{types_of}
use Rattle.form.specs.Reading.{read_field}
use Rattle.form_layouts.specs.Letters.{width_of}
use Rattle.law.specs.Rows.{width}
use Rattle.law.specs.declared.Context.{Context}
use Rattle.law.specs.declared.FieldType.{FieldType}
use Rattle.law.specs.declared.refusals.Refusal.{Refusal}
use Rattle.law.specs.declared.refusals.Refusal.TheVariants.{BrokenQuoting, FieldCount}
use Rattle.line_rows.specs.declared.Entry.{Entry}
use Rattle.line_rows.specs.declared.Entry.TheVariants.{Number, Word, Text}
use Rattle.line_rows.specs.declared.Filling.{Filling}
use Rattle.line_rows.specs.declared.Halt.{Halt}
use Rattle.line_rows.specs.declared.Placed.{Placed}
use Rattle.line_rows.specs.declared.Stop.{Stop}

-- a value that stands from a on, l bytes long, before the place m
abbrev pub entry_as : ℕ → ℕ → ℕ → Value → Entry
entry_as a l m (number z) = Number z m
entry_as a l m (word n) = Word n m
entry_as a l m (text s) = Text a l m

abbrev pub entry_of : ℕ → ℕ → ℕ → Reply Value → Result Entry Refusal
entry_of a l m (good v) = Ok (entry_as a l m v)
entry_of a l m (refused e) = Err e

abbrev pub entry_by : Context → FieldType → ℕ → List ℕ → FirstField → Result Entry Refusal
entry_by c t k s (Ok None) = Err FieldCount
entry_by c t k s (Ok (Some f)) = entry_of (k + f.start) f.len (k + f.next) (read_field c t (field f.quoted (take f.len (drop f.start s))))
entry_by c t k s (Err e) = Err BrokenQuoting

-- the field at the front of the part of a line from k on
unfoldable pub entry_at : Context → FieldType → ℕ → List ℕ → Result Entry Refusal
entry_at c t k s = entry_by c t k (drop k s) (field_of (drop k s))

-- a row as it is filled: with the next column and the place in the line
abbrev pub filling_at : List ℤ → ℕ → ℕ → Filling
filling_at w k m = record { row = w; column = k; at = m }

-- a row with what is known of it beside its columns
abbrev pub filling_of : List ℤ → Placed → Filling
filling_of w p = record { row = w; column = p.column; at = p.at }

-- the same, or the refusal
abbrev pub filled_as : List ℤ → Result Placed Refusal → Result Filling Refusal
filled_as w (Ok p) = Ok (filling_of w p)
filled_as w (Err e) = Err e

-- a row in front of a field that was refused
abbrev pub stopped_at : Filling → Refusal → Stop
stopped_at f e = record { refusal = e; filling = f }

-- the same, or where it stopped
abbrev pub stopped_as : List ℤ → Result Placed Halt → Result Filling Stop
stopped_as w (Ok p) = Ok (filling_of w p)
stopped_as w (Err h) = Err (stopped_at (filling_of w h.placed) h.refusal)

-- of where it stopped the refusal alone
abbrev pub refused_alone : Result Filling Stop → Result Filling Refusal
refused_alone (Ok f) = Ok f
refused_alone (Err e) = Err e.refusal

-- one column more
abbrev pub put_one : Filling → ℤ → ℕ → Filling
put_one f z m = record { row = set f.row f.column z; column = f.column + 1; at = m }

-- an entry in a row; the line starts at b in the file
abbrev pub put_entry : ℕ → Filling → Entry → Filling
put_entry b f (Number z m) = put_one f z m
put_entry b f (Word n m) = put_one f (pos n) m
put_entry b f (Text a l m) = put_one (put_one f (pos (b + a)) m) (pos l) m

-- the next entry in a row, or its refusal
abbrev pub put_next : ℕ → Filling → Result Entry Refusal → Result Filling Refusal
put_next b f (Ok x) = Ok (put_entry b f x)
put_next b f (Err e) = Err e

-- there is room for a field's columns, its place is in the line, and the line in a file
pub record FieldRoom (t : FieldType) (s : List ℕ) (b : ℕ) (f : Filling) : Type 0 where
  pub columns : f.column + width_of t ≤ width
  pub within : f.at ≤ length s
  pub small : b + length s < 2 ^ 62

-- before the first field
abbrev pub begun : ℕ → ℕ → Filling
begun k m = record { row = pos k ∷ pos 0 ∷ pos 0 ∷ pos 0 ∷ pos 0 ∷ pos 0 ∷ pos 0 ∷ pos 0 ∷ pos 0 ∷ pos 0 ∷ []; column = 1; at = m }

-- on with a row, up to a refusal
abbrev pub onward : Result Filling Refusal → (Filling → Result Filling Refusal) → Result Filling Refusal
onward (Ok f) more = more f
onward (Err e) more = Err e

-- the fields of these types, one after the other, up to the first that is refused
unfoldable pub fill_from : Context → ℕ → List ℕ → List FieldType → Filling → Result Filling Refusal
fill_from c b s [] f = Ok f
fill_from c b s (t ∷ ts) f = onward (put_next b f (entry_at c t f.at s)) (fill_from c b s ts)

-- the row of a line of kind k from the place m on, or the refusal of its first bad field
unfoldable pub filled : Context → ℕ → ℕ → List ℕ → ℕ → Result Filling Refusal
filled c k b s m = fill_from c b s (types_of c.rules k) (begun k m)

-- on with a row f and the next entry in it, up to a refusal, which leaves f as it is
abbrev pub onward_until : Filling → Result Filling Refusal → (Filling → Result Filling Stop) → Result Filling Stop
onward_until f (Ok g) more = more g
onward_until f (Err e) more = Err (stopped_at f e)

-- the same fields, and the row in front of the first that is refused
unfoldable pub fill_until : Context → ℕ → List ℕ → List FieldType → Filling → Result Filling Stop
fill_until c b s [] f = Ok f
fill_until c b s (t ∷ ts) f = onward_until f (put_next b f (entry_at c t f.at s)) (fill_until c b s ts)

-- the row of a line of kind k from the place m on, or the refusal of its first bad field and the row in front of it
unfoldable pub filled_until : Context → ℕ → ℕ → List ℕ → ℕ → Result Filling Stop
filled_until c k b s m = fill_until c b s (types_of c.rules k) (begun k m)
