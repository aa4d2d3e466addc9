-- What the loops of `doubted` keep.
use Rattle.write.proofs.MarkLaws.{Doubting}
use Rattle.write.proofs.repeats.doubted.Given as goal

abbrev pub invariant-loop-i : goal.invariant-loop-i
invariant-loop-i l = Doubting l.rows l.bytes l.initial.marks l.marks l.initial.doubts l.doubts l.i l.doubtful
