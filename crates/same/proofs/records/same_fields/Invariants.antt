-- What the loops of `same_fields` keep.
use mathlib.Core.Path.{◌≡◌}
use Rattle.form_layouts.specs.Letters.{row_of}
use Rattle.law.specs.declared.Rules.TheVariants.{Idf3}
use Rattle.same.proofs.RowLaws.{Agreeing}
use Rattle.same.proofs.records.same_fields.Given as goal

abbrev pub invariant-loop-i : goal.invariant-loop-i
invariant-loop-i l = Agreeing l.g l.kind l.first l.x l.second l.y l.n l.at l.i × (l.layout ≡ row_of Idf3 l.kind)
