-- `names::is_doubtful` meets its contract. Assumes nothing.
use borrow.Author.Rules.{rules}
use Rattle.names_slots.proofs.MarkLaws.{marked_same_length}
use Rattle.names.proofs.KeyLaws.{none_held, none_marked, none_doubted, some_held, some_clear, some_marked, some_doubted, some_undoubted}
use Rattle.names.proofs.is_doubtful.Goals as goal

ruleset laws = (none_held, none_marked, none_doubted, some_held, some_clear, some_marked, some_doubted, some_undoubted, marked_same_length, rules)

pub returns-then-not-named : goal.returns-then-not-named
returns-then-not-named c = search laws

pub hash_name-h-requires : goal.hash_name-h-requires
hash_name-h-requires c = search laws

pub mark-requires : goal.mark-requires
mark-requires c = search laws

pub mark-requires-then-mark : goal.mark-requires-then-mark
mark-requires-then-mark c = search laws

pub shape_of-marks-then-mark : goal.shape_of-marks-then-mark
shape_of-marks-then-mark c = search laws

pub shape_of-doubts-then-mark : goal.shape_of-doubts-then-mark
shape_of-doubts-then-mark c = search laws

pub returns-then-mark : goal.returns-then-mark
returns-then-mark c = search laws

pub shape_of-marks : goal.shape_of-marks
shape_of-marks c = search laws

pub returns : goal.returns
returns c = search laws
