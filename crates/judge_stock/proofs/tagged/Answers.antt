-- `judge_stock::tagged` meets its contract. Assumes nothing.
use borrow.Author.Rules.{rules}
use Rattle.judge_stock.proofs.PackLaws.{tag_fits, tag_is, tag_room}
use Rattle.judge_stock.proofs.tagged.Goals as goal

ruleset laws = (tag_fits, tag_is, tag_room, rules)

pub overflow_mul-result : goal.overflow_mul-result
overflow_mul-result c = search laws

pub tag_of-requires : goal.tag_of-requires
tag_of-requires c = search laws

pub overflow_add-result : goal.overflow_add-result
overflow_add-result c = search laws

pub returns : goal.returns
returns c = search laws
