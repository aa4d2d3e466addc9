-- `names_slots::put_number` meets its contract. Assumes nothing.
use borrow.Author.Rules.{rules}
use Rattle.names_slots.proofs.SlotLaws.{putting_over, putting_empty, putting_here, putting_more}
use Rattle.names_slots.proofs.put_number.Goals as goal

ruleset laws = (putting_over, putting_empty, putting_here, putting_more, rules)

pub returns-then-x-eq0 : goal.returns-then-x-eq0
returns-then-x-eq0 c = search laws

pub returns-then-x-m : goal.returns-then-x-m
returns-then-x-m c = search laws

pub loop-i-preserved : goal.loop-i-preserved
loop-i-preserved c = search laws

pub returns : goal.returns
returns c = search laws
