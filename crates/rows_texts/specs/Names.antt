-- What the texts of a row name: a component by geometry and part, a placement by package, part and reference.
use Rattle.std.specs.Prelude.{ℕ, List, Bool, ◌&&◌, ℤ}
use Rattle.law.specs.declared.Texts.TheVariants.{Reference}
use Rattle.law.specs.declared.FieldType.TheVariants.{Text}
use Rattle.names_slots.specs.Hashes.{hashed}
use Rattle.rows.specs.Columns.{geometry_start, geometry_length, part_start, part_length, reference_start, reference_length}
use Rattle.rows_texts.specs.Texts.{text_at, text_is, same_texts}

-- geometry or package, part number, reference
abbrev pub geometry_in : List ℕ → List ℤ → List ℕ
geometry_in file x = text_at file (geometry_start x) (geometry_length x)

abbrev pub part_in : List ℕ → List ℤ → List ℕ
part_in file x = text_at file (part_start x) (part_length x)

abbrev pub reference_in : List ℕ → List ℤ → List ℕ
reference_in file x = text_at file (reference_start x) (reference_length x)

-- two rows, each of its own file, have the same geometry; the same part
abbrev pub same_geometry : List ℕ → List ℤ → List ℕ → List ℤ → Bool
same_geometry f x h y = same_texts f (geometry_start x) (geometry_length x) h (geometry_start y) (geometry_length y)

abbrev pub same_part : List ℕ → List ℤ → List ℕ → List ℤ → Bool
same_part f x h y = same_texts f (part_start x) (part_length x) h (part_start y) (part_length y)

-- they name one component: both are the same
unfoldable pub same_names : List ℕ → List ℤ → List ℕ → List ℤ → Bool
same_names f x h y = same_geometry f x h y && same_part f x h y

-- the hash of a row's geometry and part
unfoldable pub key_of : List ℕ → List ℤ → ℕ
key_of file x = hashed (hashed 0 (geometry_in file x)) (part_in file x)

-- a placement's reference means these bytes
unfoldable pub refers : List ℕ → List ℤ → List ℕ → Bool
refers board x word = text_is (Text Reference) board (reference_start x) (reference_length x) word
