-- What the loops of `put_fields` keep.
use Prim.Native.Nat.{◌-◌}
use lib.ListN.{length}
use Rattle.viewer.proofs.PlaceLaws.{Showing}
use Rattle.viewer.proofs.line.put_fields.Given as goal

abbrev pub invariant-loop-f : goal.invariant-loop-f
invariant-loop-f l = Showing l.line l.base l.initial.out l.out l.at l.n

abbrev pub decreases-loop-f : goal.decreases-loop-f
decreases-loop-f l = length l.line - l.at
