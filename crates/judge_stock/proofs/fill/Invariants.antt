-- What the loops of `fill` keep.
use Rattle.judge_stock.proofs.StockLaws.{Stocking}
use Rattle.judge_stock.proofs.fill.Given as goal

abbrev pub invariant-loop-t : goal.invariant-loop-t
invariant-loop-t l = Stocking l.parts l.part l.library l.initial.places l.places l.t-iterator l.n
