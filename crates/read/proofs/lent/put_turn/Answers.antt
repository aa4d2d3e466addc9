-- `read::lent::put_turn` meets its contract. Assumes nothing.
use borrow.Author.Rules.{rules}
use Rattle.read.proofs.RowLaws.{place_room, place_line, place_fits, behind_row, placed_row, behind_none, placed_none}
use Rattle.read.proofs.lent.put_turn.Goals as goal

ruleset laws = (place_room, place_line, place_fits, behind_row, placed_row, behind_none, placed_none, rules)

pub is_row-requires : goal.is_row-requires
is_row-requires c = search laws

pub put_row-requires : goal.put_row-requires
put_row-requires c = search laws

pub overflow_add-result : goal.overflow_add-result
overflow_add-result c = search laws

pub shape_of-rows-then-is_row : goal.shape_of-rows-then-is_row
shape_of-rows-then-is_row c = search laws

pub returns-then-is_row : goal.returns-then-is_row
returns-then-is_row c = search laws

pub returns : goal.returns
returns c = search laws
