-- What the loop of `look_over` keeps.
use Rattle.text_fields.proofs.StartLaws.{Plaining}
use Rattle.text_fields.proofs.look_over.Given as goal

abbrev pub invariant-loop-b : goal.invariant-loop-b
invariant-loop-b l = Plaining l.line l.n l.quoted l.space l.b-index
