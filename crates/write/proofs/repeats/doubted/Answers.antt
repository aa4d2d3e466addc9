-- `write::repeats::doubted` meets its contract. Assumes nothing.
use borrow.Author.Rules.{rules}
use Rattle.write.proofs.MarkLaws.{doubt_start, doubt_length, doubt_width, doubt_marks, doubt_room, doubt_over, doubt_within, doubt_more}
use Rattle.write.proofs.repeats.doubted.Goals as goal

ruleset laws = (doubt_start, doubt_length, doubt_width, doubt_marks, doubt_room, doubt_over, doubt_within, doubt_more, rules)

pub loop-i-init : goal.loop-i-init
loop-i-init c = search laws

pub row_at-row-requires : goal.row_at-row-requires
row_at-row-requires c = search laws

pub is_doubtful-doubtful-requires : goal.is_doubtful-doubtful-requires
is_doubtful-doubtful-requires c = search laws

pub loop-i-preserved : goal.loop-i-preserved
loop-i-preserved c = search laws

pub shape_of-marks : goal.shape_of-marks
shape_of-marks c = search laws

pub shape_of-doubts : goal.shape_of-doubts
shape_of-doubts c = search laws

pub returns : goal.returns
returns c = search laws
