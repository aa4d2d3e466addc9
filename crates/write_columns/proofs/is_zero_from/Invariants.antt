-- What the loop of `is_zero_from` keeps.
use mathlib.Core.Path.{◌≡◌}
use lib.ListN.{drop}
use Rattle.write_columns.specs.Columns.{all_zero}
use Rattle.write_columns.proofs.is_zero_from.Given as goal

abbrev pub invariant-loop-i : goal.invariant-loop-i
invariant-loop-i l = all_zero (drop l.i l.row) ≡ all_zero (drop l.from l.row)
