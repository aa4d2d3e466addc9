-- The entries of a library, and what the placements of a board need of them, by the rows of the two files.
use Rattle.std.specs.Prelude.{ℕ, List, Bool, false, cond, not, ◌&&◌, ◌||◌, ℤ, pos}
use Rattle.law.specs.Kinds.{electrical_kind, mechanical_kind, part_kind}
use Rattle.rows_texts.specs.Names.{same_names, refers}
use Rattle.rows.specs.Columns.{kind_column}
use Rattle.basics.specs.Integers.{eq_z}
use Rattle.law.specs.Words.{board_word, no_reference}
use Rattle.walk.specs.Walks.{is_row, Trace, done, stop, skip, row, trace_of}
use Rattle.walk.specs.declared.Turn.{Turn}

-- a line is a row of kind k
unfoldable pub is_of : Turn → ℤ → Bool
is_of t k = is_row t.found && eq_z (kind_column t.row) k

unfoldable pub is_entry : List ℕ → List ℕ → Turn → ℤ → List ℤ → Bool
is_entry board library t k x = is_of t k && same_names library t.row board x

-- some row of kind k is the entry of a board's row x
unfoldable pub entry_in : List ℕ → List ℕ → ℤ → List ℤ → Trace → Bool
entry_in board library k x (done w) = false
entry_in board library k x (stop n l) = false
entry_in board library k x (skip l t) = entry_in board library k x t
entry_in board library k x (row l y t) = eq_z (kind_column y) k && same_names library y board x || entry_in board library k x t

unfoldable pub has_entry : List ℕ → List ℕ → ℤ → List ℤ → Bool
has_entry board library k x = entry_in board library k x (trace_of library)

-- BOARD needs none, NOREFDES a mechanical one, all others an electrical one
unfoldable pub lacks_entry : List ℕ → List ℕ → List ℤ → Bool
lacks_entry board library x =
    cond (refers board x board_word) false (cond (refers board x no_reference) (not (has_entry board library (pos mechanical_kind) x)) (not (has_entry board library (pos electrical_kind) x)))

-- a line is a placement that lacks its entry
unfoldable pub lacks : List ℕ → List ℕ → Turn → Bool
lacks board library t = is_of t (pos part_kind) && lacks_entry board library t.row
