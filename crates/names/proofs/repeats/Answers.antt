-- `names::repeats` meets its contract. Assumes nothing.
use borrow.Author.Rules.{rules}
use Rattle.names.proofs.KeyLaws.{again_used, again_not, again_marked, telling_few, telling_room, marked_if_length}
use Rattle.names.proofs.repeats.Goals as goal

ruleset laws = (again_used, again_not, again_marked, telling_few, telling_room, marked_if_length, rules)

pub names_component-requires : goal.names_component-requires
names_component-requires c = search laws

pub is_again-requires : goal.is_again-requires
is_again-requires c = search laws

pub is_used-requires : goal.is_used-requires
is_used-requires c = search laws

pub shape_of-marks-then-is_again : goal.shape_of-marks-then-is_again
shape_of-marks-then-is_again c = search laws

pub returns-then-is_again : goal.returns-then-is_again
returns-then-is_again c = search laws

pub shape_of-marks : goal.shape_of-marks
shape_of-marks c = search laws

pub returns : goal.returns
returns c = search laws
