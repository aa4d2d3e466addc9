-- `names_slots::marks::may_hold` meets its contract. Assumes nothing.
use borrow.Author.Rules.{rules}
use Rattle.names_slots.proofs.MarkLaws.{test_start, test_over, test_lacks, test_more}
use Rattle.names_slots.proofs.marks.may_hold.Goals as goal

ruleset laws = (test_start, test_over, test_lacks, test_more, rules)

pub loop-i-init : goal.loop-i-init
loop-i-init c = search laws

pub returns-then-not-has_bit : goal.returns-then-not-has_bit
returns-then-not-has_bit c = search laws

pub loop-i-preserved : goal.loop-i-preserved
loop-i-preserved c = search laws

pub returns : goal.returns
returns c = search laws
