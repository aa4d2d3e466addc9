-- Laws of a row's columns.
use Prim.Native.Nat.{ℕ}
use mathlib.Core.Path.{◌≡◌}
use mathlib.Core.List.{List}
use mathlib.Core.Logic.{◌≢◌}
use lib.IntN.{ℤ, pos}
use Rattle.basics.specs.Integers.{eq_z}
use Rattle.basics.proofs.Integers.{back, eq_z_differ}
use Rattle.law.specs.declared.FileType.TheVariants.{Board, Panel, Library}
use Rattle.rows.specs.Columns.{column_at, file_type_column, type_in_row}

-- a column, read back from its bits
abbrev pub column : List ℤ → ℕ → ℤ
column row i = back (column_at row i)

-- the type of a title line by its first column
module _ (row : List ℤ) where
  pub row_board : file_type_column row ≡ pos 0 → Board ≡ type_in_row row
  unfolding eq_z
  row_board h = rw h

  pub row_panel : file_type_column row ≡ pos 1 → Panel ≡ type_in_row row
  unfolding eq_z
  row_panel h = rw h

  pub row_library : file_type_column row ≢ pos 0 → file_type_column row ≢ pos 1 → Library ≡ type_in_row row
  row_library h k = rw (eq_z_differ (file_type_column row) (pos 0) h, eq_z_differ (file_type_column row) (pos 1) k)
