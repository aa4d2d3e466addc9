-- `judge_stock::is_in` meets its contract. Assumes nothing.
use borrow.Author.Rules.{rules}
use Rattle.judge_stock.proofs.StockLaws.{in_whole, in_part}
use Rattle.judge_stock.proofs.is_in.Goals as goal

ruleset laws = (in_whole, in_part, rules)

pub returns-then-parts-lt2 : goal.returns-then-parts-lt2
returns-then-parts-lt2 c = search laws

pub nonzero_rem-result : goal.nonzero_rem-result
nonzero_rem-result c = search laws

pub returns : goal.returns
returns c = search laws
