-- `names::is_again` meets its contract. Assumes nothing.
use borrow.Author.Rules.{rules}
use Rattle.names_slots.proofs.MarkLaws.{marked_same_length}
use Rattle.names.proofs.KeyLaws.{none_again, none_doubted, some_again, some_not_again, some_doubted, some_undoubted}
use Rattle.names.proofs.is_again.Goals as goal

ruleset laws = (none_again, none_doubted, some_again, some_not_again, some_doubted, some_undoubted, marked_same_length, rules)

pub returns-then-not-named : goal.returns-then-not-named
returns-then-not-named c = search laws

pub hash_name-h-requires : goal.hash_name-h-requires
hash_name-h-requires c = search laws

pub may_hold-requires : goal.may_hold-requires
may_hold-requires c = search laws

pub mark-requires : goal.mark-requires
mark-requires c = search laws

pub shape_of-marks-then-may_hold : goal.shape_of-marks-then-may_hold
shape_of-marks-then-may_hold c = search laws

pub returns-then-may_hold : goal.returns-then-may_hold
returns-then-may_hold c = search laws

pub returns : goal.returns
returns c = search laws
