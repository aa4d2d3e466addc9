-- `judge_stock::has_place` meets its contract. Assumes nothing.
use borrow.Author.Rules.{rules}
use Rattle.judge_stock.proofs.StockLaws.{look_start, look_none, look_within, look_stop, look_found, look_on}
use Rattle.judge_stock.proofs.has_place.Goals as goal

ruleset laws = (look_start, look_none, look_within, look_stop, look_found, look_on, rules)

pub loop-i-init : goal.loop-i-init
loop-i-init c = search laws

pub overflow_add-e : goal.overflow_add-e
overflow_add-e c = search laws

pub bounds-places-from : goal.bounds-places-from
bounds-places-from c = search laws

pub returns-then-e-eq0 : goal.returns-then-e-eq0
returns-then-e-eq0 c = search laws

pub returns-then-shows_name : goal.returns-then-shows_name
returns-then-shows_name c = search laws

pub loop-i-preserved : goal.loop-i-preserved
loop-i-preserved c = search laws

pub returns : goal.returns
returns c = search laws
