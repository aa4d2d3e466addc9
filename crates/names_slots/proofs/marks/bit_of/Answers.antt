-- `names_slots::marks::bit_of` meets its contract. Assumes nothing.
use borrow.Author.Rules.{rules}
use Rattle.names_slots.proofs.MarkLaws.{bit_is}
use Rattle.names_slots.proofs.marks.bit_of.Goals as goal

ruleset laws = (bit_is, rules)

pub overflow_cast-result : goal.overflow_cast-result
overflow_cast-result c = search laws

pub overflow_shl-result : goal.overflow_shl-result
overflow_shl-result c = search laws

pub returns : goal.returns
returns c = search laws
