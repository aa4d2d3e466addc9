-- What the loops of `carry` keep.
use Rattle.write.proofs.RowLaws.{Carrying}
use Rattle.write.proofs.carried.carry.Given as goal

abbrev pub invariant-loop-i : goal.invariant-loop-i
invariant-loop-i l = Carrying l.v l.rows l.bytes l.st l.i
