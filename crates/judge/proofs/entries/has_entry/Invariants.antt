-- What the loops of `has_entry` keep.
use Rattle.judge.proofs.EntryLaws.{Seeking}
use Rattle.judge.proofs.entries.has_entry.Given as goal

abbrev pub invariant-loop-t : goal.invariant-loop-t
invariant-loop-t l = Seeking l.board l.library l.kind l.x l.t-iterator
