-- `read::whole::walked` meets its contract. Assumes nothing.
use borrow.Author.Rules.{rules}
use Rattle.read.proofs.MarkLaws.{sure_whole, decided_whole, decided_again}
use Rattle.read.proofs.whole.walked.Goals as goal

ruleset laws = (sure_whole, decided_whole, decided_again, rules)

pub surveyed-s-requires : goal.surveyed-s-requires
surveyed-s-requires c = search laws

pub shape_of-marks-then-not-s : goal.shape_of-marks-then-not-s
shape_of-marks-then-not-s c = search laws

pub shape_of-doubts-then-not-s : goal.shape_of-doubts-then-not-s
shape_of-doubts-then-not-s c = search laws

pub returns-then-not-s : goal.returns-then-not-s
returns-then-not-s c = search laws

pub first_repeat-n-requires : goal.first_repeat-n-requires
first_repeat-n-requires c = search laws

pub shape_of-marks-then-n-eq0 : goal.shape_of-marks-then-n-eq0
shape_of-marks-then-n-eq0 c = search laws

pub shape_of-doubts-then-n-eq0 : goal.shape_of-doubts-then-n-eq0
shape_of-doubts-then-n-eq0 c = search laws

pub returns-then-n-eq0 : goal.returns-then-n-eq0
returns-then-n-eq0 c = search laws

pub refusal-again-requires : goal.refusal-again-requires
refusal-again-requires c = search laws

pub shape_of-marks : goal.shape_of-marks
shape_of-marks c = search laws

pub shape_of-doubts : goal.shape_of-doubts
shape_of-doubts c = search laws

pub returns : goal.returns
returns c = search laws
