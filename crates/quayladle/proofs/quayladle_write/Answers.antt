-- `quayladle::quayladle_write` meets its contract. Assumes nothing.
use borrow.Author.Rules.{rules}
use Rattle.quayladle.proofs.NumberLaws.{told_one}
use Rattle.quayladle.proofs.quayladle_write.Goals as goal

ruleset laws = (told_one, rules)

pub write-requires : goal.write-requires
write-requires c = search laws

pub of_one-requires : goal.of_one-requires
of_one-requires c = search laws

pub shape_of-out : goal.shape_of-out
shape_of-out c = search laws

pub returns : goal.returns
returns c = search laws
