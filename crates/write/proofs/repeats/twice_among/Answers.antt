-- `write::repeats::twice_among` meets its contract. Assumes nothing.
use borrow.Author.Rules.{rules}
use Rattle.write.proofs.MarkLaws.{pair_start, pair_told, pair_length, pair_marked, pair_over, pair_within, pair_found, pair_more}
use Rattle.write.proofs.repeats.twice_among.Goals as goal

ruleset laws = (pair_start, pair_told, pair_length, pair_marked, pair_over, pair_within, pair_found, pair_more, rules)

pub loop-i-init : goal.loop-i-init
loop-i-init c = search laws

pub row_at-requires : goal.row_at-requires
row_at-requires c = search laws

pub names_again-requires : goal.names_again-requires
names_again-requires c = search laws

pub shape_of-marks-then-names_again : goal.shape_of-marks-then-names_again
shape_of-marks-then-names_again c = search laws

pub returns-then-names_again : goal.returns-then-names_again
returns-then-names_again c = search laws

pub loop-i-preserved : goal.loop-i-preserved
loop-i-preserved c = search laws

pub shape_of-marks : goal.shape_of-marks
shape_of-marks c = search laws

pub returns : goal.returns
returns c = search laws
