-- `walk::steps::turn` meets its contract. Assumes nothing.
use borrow.Author.Rules.{rules}
use Rattle.walk.proofs.WalkLaws.{part_room, line_fits, content_within, next_fits, turn_is}
use Rattle.walk.proofs.steps.turn.Goals as goal

ruleset laws = (part_room, line_fits, content_within, next_fits, turn_is, rules)

pub slice_bounds-line_end-start : goal.slice_bounds-line_end-start
slice_bounds-line_end-start c = search laws

pub slice_bounds-line_end-end : goal.slice_bounds-line_end-end
slice_bounds-line_end-end c = search laws

pub line_end-e-requires : goal.line_end-e-requires
line_end-e-requires c = search laws

pub slice_bounds-judge_line-start : goal.slice_bounds-judge_line-start
slice_bounds-judge_line-start c = search laws

pub slice_bounds-judge_line-end : goal.slice_bounds-judge_line-end
slice_bounds-judge_line-end c = search laws

pub judge_line-j-requires : goal.judge_line-j-requires
judge_line-j-requires c = search laws

pub returns : goal.returns
returns c = search laws

pub overflow_add-result : goal.overflow_add-result
overflow_add-result c = search laws
