-- What the loops of `count_each` keep.
use Prim.Native.Nat.{◌-◌}
use lib.ListN.{length}
use Rattle.text_fields.proofs.Counting.{Counting}
use Rattle.text_fields.proofs.count_each.Given as goal

abbrev pub invariant-loop-f : goal.invariant-loop-f
invariant-loop-f l = Counting l.line l.at l.n

abbrev pub decreases-loop-f : goal.decreases-loop-f
decreases-loop-f l = length l.line - l.at
