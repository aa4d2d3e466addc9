-- `viewer::line::fields_at` meets its contract. Assumes nothing.
use borrow.Author.Rules.{rules}
use Rattle.viewer.proofs.ReplyLaws.{large_step, large_kept, over_step, over_kept, part_fits, part_inside, part_room, next_fits, line_step, line_kept}
use Rattle.viewer.proofs.line.fields_at.Goals as goal

ruleset laws = (large_step, large_kept, over_step, over_kept, part_fits, part_inside, part_room, next_fits, line_step, line_kept, rules)

pub step-requires : goal.step-requires
step-requires c = search laws

pub returns-then-file-gt-LIMIT : goal.returns-then-file-gt-LIMIT
returns-then-file-gt-LIMIT c = search laws

pub step-requires-then-file-at : goal.step-requires-then-file-at
step-requires-then-file-at c = search laws

pub returns-then-file-at : goal.returns-then-file-at
returns-then-file-at c = search laws

pub slice_bounds-line_end-start : goal.slice_bounds-line_end-start
slice_bounds-line_end-start c = search laws

pub slice_bounds-line_end-end : goal.slice_bounds-line_end-end
slice_bounds-line_end-end c = search laws

pub line_end-e-requires : goal.line_end-e-requires
line_end-e-requires c = search laws

pub slice_bounds-looked_at-start : goal.slice_bounds-looked_at-start
slice_bounds-looked_at-start c = search laws

pub slice_bounds-looked_at-end : goal.slice_bounds-looked_at-end
slice_bounds-looked_at-end c = search laws

pub looked_at-requires : goal.looked_at-requires
looked_at-requires c = search laws

pub overflow_add-end : goal.overflow_add-end
overflow_add-end c = search laws

pub slice_bounds-hand_out-start : goal.slice_bounds-hand_out-start
slice_bounds-hand_out-start c = search laws

pub slice_bounds-hand_out-end : goal.slice_bounds-hand_out-end
slice_bounds-hand_out-end c = search laws

pub hand_out-r-requires : goal.hand_out-r-requires
hand_out-r-requires c = search laws

pub step-requires-2 : goal.step-requires-2
step-requires-2 c = search laws

pub shape_of-out : goal.shape_of-out
shape_of-out c = search laws

pub returns : goal.returns
returns c = search laws

pub overflow_add-at : goal.overflow_add-at
overflow_add-at c = search laws
