-- What the loops of `with_fields` keep.
use mathlib.Core.Path.{◌≡◌}
use Rattle.form_layouts.specs.Letters.{row_of}
use Rattle.write_lines.proofs.WholeLaws.{Summing}
use Rattle.write_lines.proofs.with_fields.Given as goal

abbrev pub invariant-loop-i : goal.invariant-loop-i
invariant-loop-i l = Summing l.v l.bytes l.row l.sum l.kind l.n l.len l.i l.k × (l.layout ≡ row_of l.v l.kind)
