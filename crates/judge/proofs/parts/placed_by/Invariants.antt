-- What the loops of `placed_by` keep.
use Rattle.judge.proofs.PlaceLaws.{Placing}
use Rattle.judge.specs.Parts.{asked}
use Rattle.judge.proofs.parts.placed_by.Given as goal

abbrev pub invariant-loop-t : goal.invariant-loop-t
invariant-loop-t l = Placing (asked l.parts l.part l.board) l.board l.library l.t-iterator l.n
