-- `names_slots::slot_of` meets its contract. Assumes nothing.
use borrow.Author.Rules.{rules}
use Rattle.names_slots.proofs.HashLaws.{slot_is}
use Rattle.names_slots.proofs.slot_of.Goals as goal

ruleset laws = (slot_is, rules)

pub overflow_sub-result : goal.overflow_sub-result
overflow_sub-result c = search laws

pub nonzero_rem-result : goal.nonzero_rem-result
nonzero_rem-result c = search laws

pub returns : goal.returns
returns c = search laws
