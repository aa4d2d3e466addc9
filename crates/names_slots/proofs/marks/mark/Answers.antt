-- `names_slots::marks::mark` meets its contract. Assumes nothing.
use borrow.Author.Rules.{rules}
use Rattle.names_slots.proofs.MarkLaws.{marked_same_length}
use Rattle.names_slots.proofs.marks.mark.Goals as goal

ruleset laws = (marked_same_length, rules)

pub may_hold-held-requires : goal.may_hold-held-requires
may_hold-held-requires c = search laws

pub put_bits-requires : goal.put_bits-requires
put_bits-requires c = search laws

pub shape_of-marks : goal.shape_of-marks
shape_of-marks c = search laws

pub returns : goal.returns
returns c = search laws
