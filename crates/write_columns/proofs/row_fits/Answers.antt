-- `write_columns::row_fits` meets its contract. Assumes nothing.
use borrow.Author.Rules.{rules}
use Rattle.write_columns.proofs.FitLaws.{row_below, row_unknown, row_by}
use Rattle.write_columns.proofs.row_fits.Goals as goal

ruleset laws = (row_below, row_unknown, row_by, rules)

pub bounds-row-0 : goal.bounds-row-0
bounds-row-0 c = search laws

pub returns-then-z-lt0 : goal.returns-then-z-lt0
returns-then-z-lt0 c = search laws

pub returns-then-not-is_kind : goal.returns-then-not-is_kind
returns-then-not-is_kind c = search laws

pub returns : goal.returns
returns c = search laws
