-- What the loop of `put_bits` keeps.
use Rattle.names_slots.proofs.MarkLaws.{Setting}
use Rattle.names_slots.proofs.marks.put_bits.Given as goal

abbrev pub invariant-loop-i : goal.invariant-loop-i
invariant-loop-i l = Setting l.initial.marks l.marks l.h l.i
