-- `judge_stock::counted` meets its contract. Assumes nothing.
use borrow.Author.Rules.{rules}
use Rattle.judge_stock.proofs.StockLaws.{one_more, no_more}
use Rattle.judge_stock.proofs.counted.Goals as goal

ruleset laws = (one_more, no_more, rules)

pub is_row-requires : goal.is_row-requires
is_row-requires c = search laws

pub leads_component-requires : goal.leads_component-requires
leads_component-requires c = search laws

pub overflow_add-result : goal.overflow_add-result
overflow_add-result c = search laws

pub returns-then-is_row-leads_component : goal.returns-then-is_row-leads_component
returns-then-is_row-leads_component c = search laws

pub returns : goal.returns
returns c = search laws
