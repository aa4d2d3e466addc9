-- `write::repeats::names_again` meets its contract. Assumes nothing.
use borrow.Author.Rules.{rules}
use Rattle.names.proofs.KeyLaws.{marked_if_length}
use Rattle.write.proofs.MarkLaws.{again_used, again_not, again_marked, told_few, told_room}
use Rattle.write.proofs.repeats.names_again.Goals as goal

ruleset laws = (again_used, again_not, again_marked, told_few, told_room, marked_if_length, rules)

pub leads_component-requires : goal.leads_component-requires
leads_component-requires c = search laws

pub is_again-requires : goal.is_again-requires
is_again-requires c = search laws

pub named_from-requires : goal.named_from-requires
named_from-requires c = search laws

pub shape_of-marks-then-is_again : goal.shape_of-marks-then-is_again
shape_of-marks-then-is_again c = search laws

pub returns-then-is_again : goal.returns-then-is_again
returns-then-is_again c = search laws

pub shape_of-marks : goal.shape_of-marks
shape_of-marks c = search laws

pub returns : goal.returns
returns c = search laws
