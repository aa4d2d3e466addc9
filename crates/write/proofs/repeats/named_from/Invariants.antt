-- What the loops of `named_from` keep.
use Rattle.write.proofs.NameLaws.{Seeking}
use Rattle.write.proofs.repeats.named_from.Given as goal

abbrev pub invariant-loop-i : goal.invariant-loop-i
invariant-loop-i l = Seeking l.rows l.bytes l.from l.x l.i
