-- Rule 12: no two components share both geometry and part.
use Rattle.std.specs.Prelude.{ℕ, List, Bool, false, cond, ◌&&◌, ◌||◌, ltb, ℤ}
use Rattle.rows_texts.specs.Names.{same_names}
use Rattle.rows.specs.RowKinds.{leads_component}
use Rattle.walk.specs.declared.Turn.{Turn}
use Rattle.walk.specs.Walks.{is_row, Trace, done, stop, skip, row, trace_of}

unfoldable pub is_named : Turn → Bool
is_named t = is_row t.found && leads_component t.row

unfoldable pub names_same : List ℕ → Turn → List ℤ → Bool
names_same file t x = is_named t && same_names file t.row file x

-- some line before line n names the component that a row names
unfoldable pub used_in : List ℕ → ℕ → List ℤ → Trace → Bool
used_in file n x (done w) = false
used_in file n x (stop k l) = false
used_in file n x (skip l t) = ltb l n && used_in file n x t
used_in file n x (row l y t) = ltb l n && (leads_component y && same_names file y file x || used_in file n x t)

abbrev pub is_used : List ℕ → ℕ → List ℤ → Bool
is_used file n x = used_in file n x (trace_of file)

-- the first line that names a component as one before it did, or 0
unfoldable pub repeat_in : List ℕ → Trace → ℕ
repeat_in file (done w) = 0
repeat_in file (stop k l) = 0
repeat_in file (skip l t) = repeat_in file t
repeat_in file (row l x t) = cond (leads_component x && is_used file l x) l (repeat_in file t)

abbrev pub repeat_of : List ℕ → ℕ
repeat_of file = repeat_in file (trace_of file)
