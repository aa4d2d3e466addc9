-- What the loop of `may_hold` keeps.
use Rattle.names_slots.proofs.MarkLaws.{Testing}
use Rattle.names_slots.proofs.marks.may_hold.Given as goal

abbrev pub invariant-loop-i : goal.invariant-loop-i
invariant-loop-i l = Testing l.marks l.h l.i
