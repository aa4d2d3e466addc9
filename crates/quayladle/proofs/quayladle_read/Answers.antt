-- `quayladle::quayladle_read` meets its contract. Assumes nothing.
use borrow.Author.Rules.{rules}
use Rattle.quayladle.proofs.NumberLaws.{told_one}
use Rattle.quayladle.proofs.quayladle_read.Goals as goal

ruleset laws = (told_one, rules)

pub read-requires : goal.read-requires
read-requires c = search laws

pub of_one-requires : goal.of_one-requires
of_one-requires c = search laws

pub shape_of-rows : goal.shape_of-rows
shape_of-rows c = search laws

pub returns : goal.returns
returns c = search laws
