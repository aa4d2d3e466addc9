-- The iterator over the lines of a file keeps to its walk, and ends. Assumes nothing.
use borrow.Author.Rules.{rules}
use Rattle.walk.proofs.WalkLaws.{turn_steady, turn_less}
use Rattle.walk.proofs.steps.TurnsIterator.next.Goals as goal

ruleset laws = (turn_steady, turn_less, rules)

pub invariant_of-self : goal.invariant_of-self
invariant_of-self c = record { steady = search laws }

pub returns-clause-goes : goal.returns-clause-goes
returns-clause-goes c = search laws
