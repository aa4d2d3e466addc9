-- The columns of a row by name, and what is read off them.
use Rattle.std.specs.Prelude.{ℕ, List, cond, leb, ℤ, pos, nat_abs, get_or}
use Rattle.basics.specs.Integers.{eq_z}
use Rattle.law.specs.Limits.{largest_length, in_turn}
use Rattle.law.specs.declared.FileType.{FileType}
use Rattle.law.specs.declared.FileType.TheVariants.{Board, Panel, Library}
use Rattle.number.specs.declared.Length.{Length}
use Rattle.number.specs.declared.Angle.{Angle}
use Rattle.rows.specs.declared.Point.{Point}

-- number i of a row
abbrev pub column_at : List ℤ → ℕ → ℤ
column_at row i = get_or row i (pos 0)

-- the kind
abbrev pub kind_column : List ℤ → ℤ
kind_column row = column_at row 0

-- of a title line: the file's type
abbrev pub file_type_column : List ℤ → ℤ
file_type_column row = column_at row 1

-- of a leading line of a component, and of the first line of a placement: geometry or package, and part number, by start and length
abbrev pub geometry_start : List ℤ → ℤ
geometry_start row = column_at row 1

abbrev pub geometry_length : List ℤ → ℤ
geometry_length row = column_at row 2

abbrev pub part_start : List ℤ → ℤ
part_start row = column_at row 3

abbrev pub part_length : List ℤ → ℤ
part_length row = column_at row 4

-- of the first line of a placement: its reference
abbrev pub reference_start : List ℤ → ℤ
reference_start row = column_at row 5

abbrev pub reference_length : List ℤ → ℤ
reference_length row = column_at row 6

-- a length, and an included angle; 0 for what is none, which no point line holds
abbrev pub length_in : ℤ → Length
length_in z = record { 0 = cond (leb (nat_abs z) largest_length) z (pos 0) }

abbrev pub included_in : ℤ → Angle
included_in z = record { 0 = cond (in_turn z) z (pos 0) }

-- the point in the row of a point line: label, x, y, angle
abbrev pub point_in : List ℤ → Point
point_in row = record { label = column_at row 1; x = length_in (column_at row 2); y = length_in (column_at row 3); angle = included_in (column_at row 4) }

-- the file's type in the row of a title line
abbrev pub type_in_row : List ℤ → FileType
type_in_row row = cond (eq_z (file_type_column row) (pos 0)) Board (cond (eq_z (file_type_column row) (pos 1)) Panel Library)
