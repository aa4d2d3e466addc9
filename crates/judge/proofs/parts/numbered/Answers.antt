-- `judge::parts::numbered` meets its contract. Assumes nothing.
use borrow.Author.Rules.{rules}
use Rattle.judge.proofs.PlaceLaws.{one_more, no_more}
use Rattle.judge.proofs.parts.numbered.Goals as goal

ruleset laws = (one_more, no_more, rules)

pub is_of-requires : goal.is_of-requires
is_of-requires c = search laws

pub overflow_add-result : goal.overflow_add-result
overflow_add-result c = search laws

pub returns-then-is_of : goal.returns-then-is_of
returns-then-is_of c = search laws

pub returns : goal.returns
returns c = search laws
