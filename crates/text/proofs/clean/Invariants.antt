-- What the loop of `clean` keeps.
use Rattle.text.proofs.ByteLaws.{Cleaning}
use Rattle.text.proofs.clean.Given as goal

abbrev pub invariant-loop-b : goal.invariant-loop-b
invariant-loop-b l = Cleaning l.line l.good l.b-index
