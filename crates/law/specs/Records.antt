-- What is read off a record and off the number of its section: a point's place and angle, the file's type, a component's name.
use Rattle.std.specs.Prelude.{ℕ, List, [], Bool, true, false, cond, ◌&&◌, ◌||◌, leb, eqb, ℤ, pos, get_or}
use Rattle.std.proofs.Math.Option.{Option, none, some}
use Rattle.law.specs.Values.{Value, number, word, text, Rec}
use Rattle.law.specs.Sections.{Shape, outline, SectionForm, section_at}
use Rattle.law.specs.Kinds.{electrical_kind, mechanical_kind}
use Rattle.law.specs.declared.Rules.{Rules}
use Rattle.law.specs.declared.Rules.TheVariants.{Idf3}
use Rattle.law.specs.declared.FileType.{FileType}
use Rattle.law.specs.declared.FileType.TheVariants.{Board, Panel, Library}

-- the shape of a section; a number that no section has, and so no line, counts as an outline
abbrev pub shape_by : Option SectionForm → Shape
shape_by none = outline
shape_by (some d) = d.shape

unfoldable pub shape_of : Rules → ℕ → Shape
shape_of v s = shape_by (section_at v s)

-- BOARD_OUTLINE, PANEL_OUTLINE and OTHER_OUTLINE have many loops
unfoldable pub many_loops : ℕ → Bool
many_loops s = leb 2 s && leb s 4

-- between outline and PLACEMENT: any of 4 to 12
unfoldable pub is_middle : Rules → ℕ → Bool
is_middle Idf3 s = leb 4 s && leb s 12

-- ELECTRICAL and MECHANICAL
abbrev pub is_component : ℕ → Bool
is_component s = eqb s 14 || eqb s 15

-- a library has no line with name and unit
abbrev pub is_library : FileType → Bool
is_library Board = false
is_library Panel = false
is_library Library = true

-- a number's count, or an integer
abbrev pub num_of : Value → ℤ
num_of (number z) = z
num_of (word n) = pos 0
num_of (text s) = pos 0

-- a word's place
abbrev pub word_of : Value → ℕ
word_of (number z) = 0
word_of (word n) = n
word_of (text s) = 0

-- a text's bytes
abbrev pub bytes_of : Value → List ℕ
bytes_of (number z) = []
bytes_of (word n) = []
bytes_of (text s) = s

-- the value of field i, from 0
abbrev pub value_at : Rec → ℕ → Value
value_at r i = get_or r.values i (word 0)

-- a place in the plane
pub record Place : Type 0 where
  pub x : ℤ
  pub y : ℤ

-- a point line is label, x, y, angle
abbrev pub label_of : Rec → ℤ
label_of r = num_of (value_at r 0)

abbrev pub place_of : Rec → Place
place_of r = record { x = num_of (value_at r 1); y = num_of (value_at r 2) }

abbrev pub angle_of : Rec → ℤ
angle_of r = num_of (value_at r 3)

-- the file's type, by the first word of the title line
abbrev pub type_numbered : ℕ → FileType
type_numbered n = cond (eqb n 0) Board (cond (eqb n 1) Panel Library)

abbrev pub type_in : Rec → FileType
type_in r = type_numbered (word_of (value_at r 0))

-- a component by geometry and part
pub record Named : Type 0 where
  pub geometry : List ℕ
  pub number : List ℕ

-- the leading lines of 14 and 15
unfoldable pub names_a_component : Rules → ℕ → Bool
names_a_component Idf3 k = eqb k electrical_kind || eqb k mechanical_kind

-- its geometry and its part
abbrev pub name_in : Rec → Named
name_in r = record { geometry = bytes_of (value_at r 0); number = bytes_of (value_at r 1) }
