-- `write::numbers::rise` meets its contract. Assumes nothing.
use borrow.Author.Rules.{rules}
use Rattle.write.proofs.RowLaws.{row_in_lem, rows_over}
use Rattle.write.proofs.NumberLaws.{climb_start, climb_over, climb_place, climb_stop, climb_more}
use Rattle.write.proofs.numbers.rise.Goals as goal

ruleset laws = (climb_start, climb_over, climb_place, climb_stop, climb_more, row_in_lem, rows_over, rules)

pub loop-i-init : goal.loop-i-init
loop-i-init c = search laws

pub overflow_mul-line : goal.overflow_mul-line
overflow_mul-line c = search laws

pub overflow_add-line : goal.overflow_add-line
overflow_add-line c = search laws

pub bounds-rows-i : goal.bounds-rows-i
bounds-rows-i c = search laws

pub returns-then-not-is_above : goal.returns-then-not-is_above
returns-then-not-is_above c = search laws

pub loop-i-preserved : goal.loop-i-preserved
loop-i-preserved c = search laws

pub returns : goal.returns
returns c = search laws
