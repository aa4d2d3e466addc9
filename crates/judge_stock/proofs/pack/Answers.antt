-- `judge_stock::pack` meets its contract. Assumes nothing.
use borrow.Author.Rules.{rules}
use Rattle.judge_stock.proofs.PackLaws.{pack_far, pack_first_long, pack_second_long, pack_before, pack_apart, pack_is, pack_fits}
use Rattle.judge_stock.proofs.pack.Goals as goal

ruleset laws = (pack_far, pack_first_long, pack_second_long, pack_before, pack_apart, pack_is, pack_fits, rules)

pub returns-then-a-gt16777216 : goal.returns-then-a-gt16777216
returns-then-a-gt16777216 c = search laws

pub returns-then-l-gt1023 : goal.returns-then-l-gt1023
returns-then-l-gt1023 c = search laws

pub returns-then-m-gt1023 : goal.returns-then-m-gt1023
returns-then-m-gt1023 c = search laws

pub returns-then-b-a : goal.returns-then-b-a
returns-then-b-a c = search laws

pub overflow_add-gap : goal.overflow_add-gap
overflow_add-gap c = search laws

pub overflow_sub-gap : goal.overflow_sub-gap
overflow_sub-gap c = search laws

pub returns-then-gap-gt1023 : goal.returns-then-gap-gt1023
returns-then-gap-gt1023 c = search laws

pub overflow_mul-result : goal.overflow_mul-result
overflow_mul-result c = search laws

pub overflow_add-result : goal.overflow_add-result
overflow_add-result c = search laws

pub overflow_mul-result-2 : goal.overflow_mul-result-2
overflow_mul-result-2 c = search laws

pub overflow_add-result-2 : goal.overflow_add-result-2
overflow_add-result-2 c = search laws

pub overflow_mul-result-3 : goal.overflow_mul-result-3
overflow_mul-result-3 c = search laws

pub overflow_add-result-3 : goal.overflow_add-result-3
overflow_add-result-3 c = search laws

pub overflow_mul-result-4 : goal.overflow_mul-result-4
overflow_mul-result-4 c = search laws

pub code_for-requires : goal.code_for-requires
code_for-requires c = search laws

pub overflow_add-result-4 : goal.overflow_add-result-4
overflow_add-result-4 c = search laws

pub returns : goal.returns
returns c = search laws
