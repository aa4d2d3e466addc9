-- What the loops of `rise` keep.
use Rattle.write.proofs.NumberLaws.{Climbing}
use Rattle.write.proofs.numbers.rise.Given as goal

abbrev pub invariant-loop-i : goal.invariant-loop-i
invariant-loop-i l = Climbing l.rows l.last l.i
