-- `names_slots::marks::spot_of` meets its contract. Assumes nothing.
use borrow.Author.Rules.{rules}
use Rattle.names_slots.proofs.MarkLaws.{square_fits, step_fits, steps_fit, spot_fits, spot_is}
use Rattle.names_slots.proofs.marks.spot_of.Goals as goal

ruleset laws = (square_fits, step_fits, steps_fit, spot_fits, spot_is, rules)

pub overflow_mul-result : goal.overflow_mul-result
overflow_mul-result c = search laws

pub overflow_add-result : goal.overflow_add-result
overflow_add-result c = search laws

pub overflow_mul-result-2 : goal.overflow_mul-result-2
overflow_mul-result-2 c = search laws

pub overflow_add-result-2 : goal.overflow_add-result-2
overflow_add-result-2 c = search laws

pub overflow_mul-result-3 : goal.overflow_mul-result-3
overflow_mul-result-3 c = search laws

pub overflow_add-result-3 : goal.overflow_add-result-3
overflow_add-result-3 c = search laws

pub returns : goal.returns
returns c = search laws
