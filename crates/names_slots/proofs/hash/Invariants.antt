-- What the loop of `hash` keeps.
use Rattle.names_slots.proofs.HashLaws.{Hashing}
use Rattle.names_slots.proofs.hash.Given as goal

abbrev pub invariant-loop-b : goal.invariant-loop-b
invariant-loop-b l = Hashing l.h l.s l.n l.b-index
