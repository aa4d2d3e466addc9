-- `write::repeats::twice_by` meets its contract. Assumes nothing.
use borrow.Author.Rules.{rules}
use Rattle.write.proofs.MarkLaws.{sure_once, decided}
use Rattle.write.proofs.repeats.twice_by.Goals as goal

ruleset laws = (sure_once, decided, rules)

pub doubted-requires : goal.doubted-requires
doubted-requires c = search laws

pub shape_of-marks-then-not-doubted : goal.shape_of-marks-then-not-doubted
shape_of-marks-then-not-doubted c = search laws

pub shape_of-doubts-then-not-doubted : goal.shape_of-doubts-then-not-doubted
shape_of-doubts-then-not-doubted c = search laws

pub returns-then-not-doubted : goal.returns-then-not-doubted
returns-then-not-doubted c = search laws

pub slice_bounds-twice_among-end : goal.slice_bounds-twice_among-end
slice_bounds-twice_among-end c = search laws

pub twice_among-requires : goal.twice_among-requires
twice_among-requires c = search laws

pub shape_of-marks : goal.shape_of-marks
shape_of-marks c = search laws

pub shape_of-doubts : goal.shape_of-doubts
shape_of-doubts c = search laws

pub returns : goal.returns
returns c = search laws
