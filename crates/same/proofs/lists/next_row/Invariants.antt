-- What the loops of `next_row` keep.
use Prim.Native.Nat.{◌-◌}
use lib.ListN.{length}
use Rattle.same.proofs.NextLaws.{Passing}
use Rattle.same.proofs.lists.next_row.Given as goal

abbrev pub invariant-loop-t : goal.invariant-loop-t
invariant-loop-t l = Passing l.initial.lines l.lines

abbrev pub decreases-loop-t : goal.decreases-loop-t
decreases-loop-t l = length l.lines.file.now - l.lines.walk.at
