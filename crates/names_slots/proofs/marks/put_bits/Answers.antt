-- `names_slots::marks::put_bits` meets its contract. Assumes nothing.
use borrow.Author.Rules.{rules}
use Rattle.names_slots.proofs.MarkLaws.{set_start, set_over, set_more}
use Rattle.names_slots.proofs.marks.put_bits.Goals as goal

ruleset laws = (set_start, set_over, set_more, rules)

pub loop-i-init : goal.loop-i-init
loop-i-init c = search laws

pub loop-i-preserved : goal.loop-i-preserved
loop-i-preserved c = search laws

pub returns : goal.returns
returns c = search laws
