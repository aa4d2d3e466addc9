-- What the loops of `same_lists` keep.
use lib.ListN.{length}
use Rattle.same.specs.NextRows.{rows_left}
use Rattle.same.proofs.ListLaws.{Abreast}
use Rattle.same.proofs.lists.same_lists.Given as goal

abbrev pub invariant-loop-x : goal.invariant-loop-x
invariant-loop-x l = Abreast l.g l.first l.second l.left l.right

abbrev pub decreases-loop-x : goal.decreases-loop-x
decreases-loop-x l = length (rows_left l.left)
