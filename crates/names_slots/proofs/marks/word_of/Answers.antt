-- `names_slots::marks::word_of` meets its contract. Assumes nothing.
use borrow.Author.Rules.{rules}
use Rattle.names_slots.proofs.MarkLaws.{word_is}
use Rattle.names_slots.proofs.marks.word_of.Goals as goal

ruleset laws = (word_is, rules)

pub nonzero_rem-result : goal.nonzero_rem-result
nonzero_rem-result c = search laws

pub returns : goal.returns
returns c = search laws
