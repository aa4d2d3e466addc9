-- `write::carried::carry` meets its contract. Assumes nothing.
use Rattle.write.proofs.RowLaws.{carry_start, carry_over, carry_stop, carry_more, row_in_lem, rows_over}
use borrow.Author.Rules.{rules}
use Rattle.write.proofs.carried.carry.Goals as goal

ruleset laws = (carry_start, carry_over, carry_stop, carry_more, row_in_lem, rows_over, rules)

pub loop-i-init : goal.loop-i-init
loop-i-init c = search laws

pub row_at-requires : goal.row_at-requires
row_at-requires c = search laws

pub returns-in-Err : goal.returns-in-Err
returns-in-Err c = search laws

pub loop-i-preserved : goal.loop-i-preserved
loop-i-preserved c = search laws

pub returns : goal.returns
returns c = search laws
