-- What the loops of `fill_row` keep.
use Rattle.line_rows.proofs.FillLaws.{Fills}
use mathlib.Core.Path.{◌≡◌}
use Rattle.form_layouts.specs.Letters.{row_of}
use Rattle.line_rows.proofs.columns.fill_row.Given as goal

abbrev pub invariant-loop-i : goal.invariant-loop-i
invariant-loop-i l = Fills l.c l.kind l.s l.base l.from l.n l.initial.row l.row l.column l.at l.i × (l.layout ≡ row_of l.c.rules l.kind)
