-- "Each keyword or data line gives the kind, then its fields in order": what stands before the fields of a kind's line, and their types.
use Rattle.std.specs.Prelude.{ℕ, zero, suc, List, [], ◌∷◌, ◌++◌, Bool, true, false, cond, eqb}
use Rattle.std.proofs.Math.Option.{Option, none, some}
use Rattle.law.specs.Words.{end_word, word_at}
use Rattle.law.specs.FieldNames.{owner}
use Rattle.law.specs.Sections.{SectionForm, nth, section_at, section_names}
use Rattle.law.specs.declared.Role.TheVariants as role
use Rattle.law.specs.Kinds.{section_of, line_of, role_in}
use Rattle.law.specs.declared.Role.{Role}
use Rattle.law.specs.declared.Rules.{Rules}
use Rattle.law.specs.declared.FieldType.{FieldType}

-- what stands before a record's fields: a keyword, without its period; PROP; nothing
pub data Front : Type 0 where
  keyword : List ℕ → Front
  prop : Front
  plain : Front

pub record Layout : Type 0 where
  pub front : Front
  pub types : List FieldType

abbrev pub owner_field : Bool → List FieldType
owner_field true = owner ∷ []
owner_field false = []

-- the keyword of section s from 1, where it opens and where it closes
abbrev pub open_word : ℕ → List ℕ
open_word zero = []
open_word (suc n) = word_at section_names n

abbrev pub close_word : ℕ → List ℕ
close_word s = end_word ++ open_word s

-- a data line begins with its first field, a property with PROP
abbrev pub front_of : Role → Front
front_of role.Opening = plain
front_of role.Closing = plain
front_of role.Title = plain
front_of role.Name = plain
front_of role.Lead = plain
front_of role.Point = plain
front_of role.Prop = prop
front_of role.Entry = plain
front_of role.Part = plain
front_of role.Position = plain
front_of role.Unknown = plain

abbrev pub data_layout : Role → Option (List FieldType) → Option Layout
data_layout r none = none
data_layout r (some ts) = some (record { front = front_of r; types = ts })

-- line n of section s: 0 opens it, 9 closes it, the others are its data lines
abbrev pub line_in : ℕ → ℕ → SectionForm → Option Layout
line_in zero s d = some (record { front = keyword (open_word s); types = owner_field d.owned })
line_in (suc n) s d = cond (eqb n 8) (some (record { front = keyword (close_word s); types = [] })) (data_layout (role_in d.shape (suc n)) (nth d.lines n))

abbrev pub line_by : ℕ → ℕ → Option SectionForm → Option Layout
line_by n s none = none
line_by n s (some d) = line_in n s d

-- the layout of a kind
unfoldable pub layout_of : Rules → ℕ → Option Layout
layout_of v k = line_by (line_of v k) (section_of v k) (section_at v (section_of v k))

abbrev pub types_by : Option Layout → List FieldType
types_by none = []
types_by (some l) = l.types

-- the types of its fields; a kind that no section has has none
unfoldable pub types_of : Rules → ℕ → List FieldType
types_of v k = types_by (layout_of v k)
