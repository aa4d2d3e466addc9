-- `same::found` meets its contract. Assumes nothing.
use borrow.Author.Rules.{rules}
use Rattle.same.proofs.VerdictLaws.{found_same_lem, found_other}
use Rattle.same.proofs.found.Goals as goal

ruleset laws = (found_same_lem, found_other, rules)

pub returns-then-same : goal.returns-then-same
returns-then-same c = search laws

pub returns : goal.returns
returns c = search laws
