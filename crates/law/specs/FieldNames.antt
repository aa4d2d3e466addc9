-- The fields of the table of sections by name, each with its type.
use Rattle.std.specs.Prelude.{List, [], ◌∷◌}
use Rattle.law.specs.declared.Words.TheVariants.{FileTypes, Units, Owners, Faces, Sides, Layers, Plates, Statuses}
use Rattle.law.specs.declared.Texts.TheVariants.{Plain, Reference, Hole}
use Rattle.law.specs.declared.Limit.{Limit}
use Rattle.law.specs.declared.Limit.TheVariants.{Length as any, Included, Rotation, Version}
use Rattle.law.specs.declared.FieldType.{FieldType}
use Rattle.law.specs.declared.FieldType.TheVariants.{Text, Date, Integer, Number, Word}

-- texts
abbrev pub system : FieldType
system = Text Plain

abbrev pub board_name : FieldType
board_name = Text Plain

abbrev pub identifier : FieldType
identifier = Text Plain

abbrev pub group : FieldType
group = Text Plain

abbrev pub hole_type : FieldType
hole_type = Text Plain

abbrev pub note : FieldType
note = Text Plain

abbrev pub package_name : FieldType
package_name = Text Plain

abbrev pub geometry : FieldType
geometry = Text Plain

abbrev pub part_number : FieldType
part_number = Text Plain

abbrev pub property : FieldType
property = Text Plain

abbrev pub content : FieldType
content = Text Plain

abbrev pub hole_part : FieldType
hole_part = Text Hole

abbrev pub reference : FieldType
reference = Text Reference

-- the date, integers
abbrev pub date : FieldType
date = Date

abbrev pub file_version : FieldType
file_version = Integer

abbrev pub label : FieldType
label = Integer

-- lengths: of any sign, from zero on, above zero
abbrev pub thickness : Limit → FieldType
thickness l = Number l

abbrev pub height : Limit → FieldType
height l = Number l

abbrev pub offset : Limit → FieldType
offset l = Number l

abbrev pub diameter : Limit → FieldType
diameter l = Number l

abbrev pub text_length : FieldType
text_length = Number any

abbrev pub x : FieldType
x = Number any

abbrev pub y : FieldType
y = Number any

-- angles, and the version
abbrev pub angle : FieldType
angle = Number Included

abbrev pub rotation : FieldType
rotation = Number Rotation

abbrev pub version : FieldType
version = Number Version

-- words
abbrev pub file_type : FieldType
file_type = Word FileTypes

abbrev pub unit : FieldType
unit = Word Units

abbrev pub owner : FieldType
owner = Word Owners

abbrev pub face : FieldType
face = Word Faces

abbrev pub side : FieldType
side = Word Sides

abbrev pub layers : FieldType
layers = Word Layers

abbrev pub plating : FieldType
plating = Word Plates

abbrev pub status : FieldType
status = Word Statuses

-- a point line
abbrev pub point_line : List FieldType
point_line = label ∷ x ∷ y ∷ angle ∷ []
