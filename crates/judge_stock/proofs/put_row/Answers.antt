-- `judge_stock::put_row` meets its contract. Assumes nothing.
use borrow.Author.Rules.{rules}
use Rattle.judge_stock.proofs.StockLaws.{row_electrical, row_mechanical, row_other, name_same_length}
use Rattle.judge_stock.proofs.put_row.Goals as goal

ruleset laws = (row_electrical, row_mechanical, row_other, name_same_length, rules)

pub has_kind-requires : goal.has_kind-requires
has_kind-requires c = search laws

pub put_name-requires : goal.put_name-requires
put_name-requires c = search laws

pub shape_of-places-then-has_kind : goal.shape_of-places-then-has_kind
shape_of-places-then-has_kind c = search laws

pub returns-then-has_kind : goal.returns-then-has_kind
returns-then-has_kind c = search laws

pub has_kind-requires-2 : goal.has_kind-requires-2
has_kind-requires-2 c = search laws

pub put_name-requires-then-has_kind-2 : goal.put_name-requires-then-has_kind-2
put_name-requires-then-has_kind-2 c = search laws

pub shape_of-places : goal.shape_of-places
shape_of-places c = search laws

pub returns-then-has_kind-2 : goal.returns-then-has_kind-2
returns-then-has_kind-2 c = search laws

pub returns-else-has_kind-2 : goal.returns-else-has_kind-2
returns-else-has_kind-2 c = search laws
