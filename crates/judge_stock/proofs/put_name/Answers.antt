-- `judge_stock::put_name` meets its contract. Assumes nothing.
use borrow.Author.Rules.{rules}
use Rattle.judge_stock.proofs.PackLaws.{pack_small}
use Rattle.judge_stock.proofs.StockLaws.{name_put, name_not, placed_same_length}
use Rattle.judge_stock.proofs.put_name.Goals as goal

ruleset laws = (pack_small, name_put, name_not, placed_same_length, rules)

pub hash_name-h-requires : goal.hash_name-h-requires
hash_name-h-requires c = search laws

pub is_in-requires : goal.is_in-requires
is_in-requires c = search laws

pub pack_row-e-requires : goal.pack_row-e-requires
pack_row-e-requires c = search laws

pub tagged-requires : goal.tagged-requires
tagged-requires c = search laws

pub place-requires : goal.place-requires
place-requires c = search laws

pub shape_of-places : goal.shape_of-places
shape_of-places c = search laws

pub returns-then-is_in : goal.returns-then-is_in
returns-then-is_in c = search laws

pub returns-else-is_in : goal.returns-else-is_in
returns-else-is_in c = search laws
