-- `write_lines::put_fields` meets its contract. Assumes nothing.
use Rattle.write_lines.proofs.WholeLaws.{put_start, put_over, put_same, put_few, put_type, put_fits, put_add, put_room, put_more}
use borrow.Author.Rules.{rules}
use Rattle.write_lines.proofs.put_fields.Goals as goal

ruleset laws = (put_start, put_over, put_same, put_few, put_type, put_fits, put_add, put_room, put_more, rules)

pub loop-i-init : goal.loop-i-init
loop-i-init c = search laws

pub field_type-t-requires : goal.field_type-t-requires
field_type-t-requires c = search laws

pub slice_bounds-put_column-end : goal.slice_bounds-put_column-end
slice_bounds-put_column-end c = search laws

pub put_column-e-requires : goal.put_column-e-requires
put_column-e-requires c = search laws

pub overflow_add-k : goal.overflow_add-k
overflow_add-k c = search laws

pub loop-i-preserved : goal.loop-i-preserved
loop-i-preserved c = (search (put_more, c.loop-i.invariant.0, c.loop-i-test.true, c.field_type-t.ensures, c.put_column-e.ensures, c.width_of-k.ensures), search laws)

pub returns : goal.returns
returns c = search laws
