-- `quayladle::quayladle_check` meets its contract. Assumes nothing.
use borrow.Author.Rules.{rules}
use Rattle.quayladle.proofs.NumberLaws.{told_one}
use Rattle.quayladle.proofs.quayladle_check.Goals as goal

ruleset laws = (told_one, rules)

pub check-requires : goal.check-requires
check-requires c = search laws

pub of_one-requires : goal.of_one-requires
of_one-requires c = search laws

pub returns : goal.returns
returns c = search laws
