-- `judge_stock::shows_name` meets its contract. Assumes nothing.
use borrow.Author.Rules.{rules}
use Rattle.judge_stock.proofs.PackLaws.{other_tag, same_tag}
use Rattle.judge_stock.proofs.shows_name.Goals as goal

ruleset laws = (other_tag, same_tag, rules)

pub tag_of-requires : goal.tag_of-requires
tag_of-requires c = search laws

pub returns-then-e-tag_of : goal.returns-then-e-tag_of
returns-then-e-tag_of c = search laws

pub holds_name-requires : goal.holds_name-requires
holds_name-requires c = search laws

pub returns : goal.returns
returns c = search laws
