-- `write::carried::step` meets its contract. Assumes nothing.
use borrow.Author.Rules.{rules}
use Rattle.write.proofs.RowLaws.{step_unfit, step_goes}
use Rattle.write.proofs.carried.step.Goals as goal

ruleset laws = (step_unfit, step_goes, rules)

pub type_at-requires : goal.type_at-requires
type_at-requires c = search laws

pub row_fits-requires : goal.row_fits-requires
row_fits-requires c = search laws

pub returns-then-not-row_fits : goal.returns-then-not-row_fits
returns-then-not-row_fits c = search laws

pub bounds-row-0 : goal.bounds-row-0
bounds-row-0 c = search laws

pub magnitude-kind-requires : goal.magnitude-kind-requires
magnitude-kind-requires c = search laws

pub file_type_in-requires : goal.file_type_in-requires
file_type_in-requires c = search laws

pub point_in-requires : goal.point_in-requires
point_in-requires c = search laws

pub stepped-requires : goal.stepped-requires
stepped-requires c = search laws

pub returns : goal.returns
returns c = search laws
