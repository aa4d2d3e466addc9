-- `judge_stock::put_turn` meets its contract. Assumes nothing.
use borrow.Author.Rules.{rules}
use Rattle.judge_stock.proofs.StockLaws.{turn_row, turn_none, row_same_length}
use Rattle.judge_stock.proofs.put_turn.Goals as goal

ruleset laws = (turn_row, turn_none, row_same_length, rules)

pub is_row-requires : goal.is_row-requires
is_row-requires c = search laws

pub put_row-requires : goal.put_row-requires
put_row-requires c = search laws

pub shape_of-places : goal.shape_of-places
shape_of-places c = search laws

pub returns-then-is_row : goal.returns-then-is_row
returns-then-is_row c = search laws

pub returns-else-is_row : goal.returns-else-is_row
returns-else-is_row c = search laws
