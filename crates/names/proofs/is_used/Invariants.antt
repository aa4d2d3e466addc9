-- What the loops of `is_used` keep.
use Rattle.names.proofs.NameLaws.{Seeking}
use Rattle.names.proofs.is_used.Given as goal

abbrev pub invariant-loop-t : goal.invariant-loop-t
invariant-loop-t l = Seeking l.file l.n l.x l.t-iterator
