-- `judge_stock::is_named` meets its contract. Assumes nothing.
use borrow.Author.Rules.{rules}
use Rattle.judge_stock.proofs.PackLaws.{named_not, named_by}
use Rattle.judge_stock.proofs.is_named.Goals as goal

ruleset laws = (named_not, named_by, rules)

pub overflow_add-b : goal.overflow_add-b
overflow_add-b c = search laws

pub overflow_add-b-2 : goal.overflow_add-b-2
overflow_add-b-2 c = search laws

pub bounds-x-1 : goal.bounds-x-1
bounds-x-1 c = search laws

pub bounds-x-2 : goal.bounds-x-2
bounds-x-2 c = search laws

pub same_texts-requires : goal.same_texts-requires
same_texts-requires c = search laws

pub bounds-x-3 : goal.bounds-x-3
bounds-x-3 c = search laws

pub bounds-x-4 : goal.bounds-x-4
bounds-x-4 c = search laws

pub same_texts-requires-then-same_texts : goal.same_texts-requires-then-same_texts
same_texts-requires-then-same_texts c = search laws

pub returns-then-same_texts : goal.returns-then-same_texts
returns-then-same_texts c = search laws

pub returns : goal.returns
returns c = search laws
