-- What the loops of `repeat_by` keep.
use Rattle.names.proofs.DoubtLaws.{Deciding}
use Rattle.names.proofs.repeat_by.Given as goal

abbrev pub invariant-loop-t : goal.invariant-loop-t
invariant-loop-t l = Deciding l.file l.doubts l.initial.marks l.marks l.t-iterator
