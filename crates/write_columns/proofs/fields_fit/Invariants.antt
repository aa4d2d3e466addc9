-- What the loops of `fields_fit` keep.

use mathlib.Core.Path.{◌≡◌}
use Rattle.form_layouts.specs.Letters.{row_of}
use Rattle.write_columns.proofs.FitLaws.{Fitting}
use Rattle.write_columns.proofs.fields_fit.Given as goal

abbrev pub invariant-loop-i : goal.invariant-loop-i
invariant-loop-i l = Fitting l.c l.kind l.bytes l.row l.n l.i l.k × (l.layout ≡ row_of l.c.rules l.kind)
