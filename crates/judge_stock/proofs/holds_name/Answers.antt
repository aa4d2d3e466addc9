-- `judge_stock::holds_name` meets its contract. Assumes nothing.
use borrow.Author.Rules.{rules}
use Rattle.judge_stock.proofs.PackLaws.{other_kind, same_kind}
use Rattle.judge_stock.proofs.holds_name.Goals as goal

ruleset laws = (other_kind, same_kind, rules)

pub code_for-requires : goal.code_for-requires
code_for-requires c = search laws

pub returns-then-e-code_for : goal.returns-then-e-code_for
returns-then-e-code_for c = search laws

pub is_named-requires : goal.is_named-requires
is_named-requires c = search laws

pub returns : goal.returns
returns c = search laws
