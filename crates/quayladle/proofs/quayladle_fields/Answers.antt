-- `quayladle::quayladle_fields` meets its contract. Assumes nothing.
use borrow.Author.Rules.{rules}
use Rattle.quayladle.proofs.NumberLaws.{told_step, told_place}
use Rattle.quayladle.proofs.quayladle_fields.Goals as goal

ruleset laws = (told_step, told_place, rules)

pub step_at-s-requires : goal.step_at-s-requires
step_at-s-requires c = search laws

pub of_place-requires : goal.of_place-requires
of_place-requires c = search laws

pub of_one-requires : goal.of_one-requires
of_one-requires c = search laws

pub shape_of-out : goal.shape_of-out
shape_of-out c = search laws

pub returns : goal.returns
returns c = search laws
