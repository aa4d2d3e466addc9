-- What the loops of `twice_among` keep.
use Rattle.write.proofs.MarkLaws.{Pairing}
use Rattle.write.proofs.repeats.twice_among.Given as goal

abbrev pub invariant-loop-i : goal.invariant-loop-i
invariant-loop-i l = Pairing l.rows l.bytes l.doubts l.initial.marks l.marks l.i
