-- What the loops of `surveyed` keep.
use Rattle.read.proofs.MarkLaws.{Checking}
use Rattle.read.proofs.whole.surveyed.Given as goal

abbrev pub invariant-loop-t : goal.invariant-loop-t
invariant-loop-t l = Checking l.file l.initial.marks l.marks l.initial.doubts l.doubts l.t-iterator l.end l.r l.doubtful
