-- `judge_stock::fill` meets its contract. Assumes nothing.
use borrow.Author.Rules.{rules}
use Rattle.judge_stock.proofs.StockLaws.{stock_start, stock_few, stock_over, count_over, stock_stop, count_stop, stock_more}
use Rattle.judge_stock.proofs.fill.Goals as goal

pub loop-t-init : goal.loop-t-init
loop-t-init c = stock_start _ _ _ _ _ (search rules) (search rules) c.requires.1

pub returns-then-stops : goal.returns-then-stops
returns-then-stops c = record {
  value = count_stop _ _ _ _ _ _ _ c.loop-t.invariant _ _ c.in-Some.ensures.steps _ c.stops.ensures c.if-stops.true;
  places_after = stock_stop _ _ _ _ _ _ _ c.loop-t.invariant _ _ c.in-Some.ensures.steps _ c.stops.ensures c.if-stops.true;
}

pub put_turn-requires : goal.put_turn-requires
put_turn-requires c = c.loop-t.invariant.room

pub counted-n-requires : goal.counted-n-requires
counted-n-requires c = stock_few _ _ _ _ _ _ _ c.loop-t.invariant

pub loop-t-preserved : goal.loop-t-preserved
loop-t-preserved c =
    stock_more _ _ _ _ _ _ _ c.loop-t.invariant _ _ c.in-Some.ensures.steps _ c.stops.ensures _ _ c.if-stops.false c.put_turn.ensures c.counted-n.ensures

pub returns : goal.returns
returns c = record {
  value = count_over _ _ _ _ _ _ _ c.loop-t.invariant _ c.in-None.ensures.steps;
  places_after = stock_over _ _ _ _ _ _ _ c.loop-t.invariant _ c.in-None.ensures.steps;
}
