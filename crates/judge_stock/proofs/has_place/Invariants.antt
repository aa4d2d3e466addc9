-- What the loops of `has_place` keep.
use Rattle.judge_stock.proofs.StockLaws.{Looking}
use Rattle.judge_stock.proofs.has_place.Given as goal

abbrev pub invariant-loop-i : goal.invariant-loop-i
invariant-loop-i l = Looking l.board l.library l.places l.mechanical l.x l.h l.from l.i
