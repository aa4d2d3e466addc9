-- `quayladle::quayladle_same` meets its contract. Assumes nothing.
use borrow.Author.Rules.{rules}
use Rattle.quayladle.proofs.NumberLaws.{told_two}
use Rattle.quayladle.proofs.quayladle_same.Goals as goal

ruleset laws = (told_two, rules)

pub same-requires : goal.same-requires
same-requires c = search laws

pub of_two-requires : goal.of_two-requires
of_two-requires c = search laws

pub returns : goal.returns
returns c = search laws
