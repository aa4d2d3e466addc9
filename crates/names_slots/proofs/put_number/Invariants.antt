-- What the loop of `put_number` keeps.
use Rattle.names_slots.proofs.SlotLaws.{Putting}
use Rattle.names_slots.proofs.put_number.Given as goal

abbrev pub invariant-loop-i : goal.invariant-loop-i
invariant-loop-i l = Putting l.initial.slots l.slots l.from l.m l.i
