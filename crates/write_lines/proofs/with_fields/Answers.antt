-- `write_lines::with_fields` meets its contract. Assumes nothing.
use Rattle.write_lines.proofs.WholeLaws.{sum_start, sum_over, sum_few, sum_small, sum_type, sum_fits, sum_add, sum_more}
use borrow.Author.Rules.{rules}
use Rattle.write_lines.proofs.with_fields.Goals as goal

ruleset laws = (sum_start, sum_over, sum_few, sum_small, sum_type, sum_fits, sum_add, sum_more, rules)

pub loop-i-init : goal.loop-i-init
loop-i-init c = search laws

pub field_type-t-requires : goal.field_type-t-requires
field_type-t-requires c = search laws

pub slice_bounds-with_column-end : goal.slice_bounds-with_column-end
slice_bounds-with_column-end c = search laws

pub with_column-len-requires : goal.with_column-len-requires
with_column-len-requires c = search laws

pub overflow_add-k : goal.overflow_add-k
overflow_add-k c = search laws

pub loop-i-preserved : goal.loop-i-preserved
loop-i-preserved c = (search (sum_more, c.loop-i.invariant.0, c.loop-i-test.true, c.field_type-t.ensures, c.with_column-len.ensures, c.width_of-k.ensures), search laws)

pub returns : goal.returns
returns c = search laws
