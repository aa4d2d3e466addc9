-- What the loops of `put_fields` keep.
use mathlib.Core.Path.{◌≡◌}
use Rattle.form_layouts.specs.Letters.{row_of}
use Rattle.write_lines.proofs.WholeLaws.{Putting}
use Rattle.write_lines.proofs.put_fields.Given as goal

abbrev pub invariant-loop-i : goal.invariant-loop-i
invariant-loop-i l = Putting l.v l.bytes l.row l.initial.out l.out l.at l.kind l.n l.e l.i l.k × (l.layout ≡ row_of l.v l.kind)
