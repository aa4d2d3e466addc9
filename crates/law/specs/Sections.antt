-- "Section s opens with kind 10s, closes with 10s+9 (.END_ and the name). Its data lines have kinds 10s+1, 10s+2, in the order below.
-- O: the opening line carries an owner." The table: a row a section, with its number, its name, O or not, and its data lines field by field.
use Rattle.std.specs.Prelude.{ℕ, zero, suc, List, [], ◌∷◌, Bool, true, false}
use Prim.Native.String.{String}
use Rattle.std.proofs.Math.Option.{Option, none, some}
use Rattle.law.specs.Bytes.{ascii}
use Rattle.law.specs.declared.Rules.{Rules}
use Rattle.law.specs.declared.Rules.TheVariants.{Idf3}
use Rattle.law.specs.declared.Limit.TheVariants.{Length as any, NotBelow as from_zero, Above as above_zero}
use Rattle.law.specs.declared.FieldType.{FieldType}
use Rattle.law.specs.FieldNames.{system, board_name, identifier, group, hole_type, hole_part, note, package_name, geometry, part_number, property, content, reference, date, file_version, thickness, height, offset, diameter, text_length, x, y, rotation, version, file_type, unit, owner, face, side, layers, plating, status, point_line}

-- what the data lines of a section are
--   header      the title line, and then (not in a library) the line with name and unit
--   outline     a leading line, then points
--   component   a leading line, then points, then PROP lines
--   keepout     points alone
--   listing     any number of lines of one kind
--   placements  any number of pairs of lines
pub data Shape : Type 0 where
  header outline component keepout listing placements : Shape

pub record SectionForm : Type 0 where
  pub number : ℕ
  pub name : List ℕ
  pub owned : Bool
  pub shape : Shape
  pub lines : List (List FieldType)

abbrev pub form : ℕ → String → Bool → Shape → List (List FieldType) → SectionForm
form s n o f ls = record { number = s; name = ascii n; owned = o; shape = f; lines = ls }

-- the opening line carries an owner, or does not
abbrev pub O : Bool
O = true

abbrev pub no : Bool
no = false

unfoldable pub sections : Rules → List SectionForm
sections Idf3 =
    form 1 "HEADER" no header ((file_type ∷ version ∷ system ∷ date ∷ file_version ∷ []) ∷ (board_name ∷ unit ∷ []) ∷ [])
    ∷ form 2 "BOARD_OUTLINE" O outline ((thickness any ∷ []) ∷ point_line ∷ [])
    ∷ form 3 "PANEL_OUTLINE" O outline ((thickness any ∷ []) ∷ point_line ∷ [])
    ∷ form 4 "OTHER_OUTLINE" O outline ((identifier ∷ thickness from_zero ∷ face ∷ []) ∷ point_line ∷ [])
    ∷ form 5 "ROUTE_OUTLINE" O outline ((layers ∷ []) ∷ point_line ∷ [])
    ∷ form 6 "PLACE_OUTLINE" O outline ((side ∷ height from_zero ∷ []) ∷ point_line ∷ [])
    ∷ form 7 "ROUTE_KEEPOUT" O outline ((layers ∷ []) ∷ point_line ∷ [])
    ∷ form 8 "VIA_KEEPOUT" O keepout (point_line ∷ [])
    ∷ form 9 "PLACE_KEEPOUT" O outline ((side ∷ height from_zero ∷ []) ∷ point_line ∷ [])
    ∷ form 10 "PLACE_REGION" O outline ((side ∷ group ∷ []) ∷ point_line ∷ [])
    ∷ form 11 "DRILLED_HOLES" no listing ((diameter above_zero ∷ x ∷ y ∷ plating ∷ hole_part ∷ hole_type ∷ owner ∷ []) ∷ [])
    ∷ form 12 "NOTES" no listing ((x ∷ y ∷ height any ∷ text_length ∷ note ∷ []) ∷ [])
    ∷ form 13 "PLACEMENT" no placements ((package_name ∷ part_number ∷ reference ∷ []) ∷ (x ∷ y ∷ offset from_zero ∷ rotation ∷ face ∷ status ∷ []) ∷ [])
    ∷ form 14 "ELECTRICAL" no component ((geometry ∷ part_number ∷ unit ∷ height any ∷ []) ∷ point_line ∷ (property ∷ content ∷ []) ∷ [])
    ∷ form 15 "MECHANICAL" no outline ((geometry ∷ part_number ∷ unit ∷ height any ∷ []) ∷ point_line ∷ [])
    ∷ []

-- the element at a place
abbrev pub nth : {A : Type 0} → List A → ℕ → Option A
nth [] n = none
nth (a ∷ l) zero = some a
nth (a ∷ l) (suc n) = nth l n

-- section s, from 1
abbrev pub section_at : Rules → ℕ → Option SectionForm
section_at v zero = none
section_at v (suc n) = nth (sections v) n

abbrev pub names_in : List SectionForm → List (List ℕ)
names_in [] = []
names_in (d ∷ ds) = d.name ∷ names_in ds

-- the names of the sections, section 1 first
unfoldable pub section_names : List (List ℕ)
section_names = names_in (sections Idf3)
