-- `write_columns::column_fits` meets its contract. Assumes nothing.
use borrow.Author.Rules.{rules}
use Rattle.write_columns.proofs.ColumnLaws.{column_by}
use Rattle.write_columns.proofs.column_fits.Goals as goal

ruleset laws = (column_by, rules)

pub column_at-requires : goal.column_at-requires
column_at-requires c = search laws

pub column_at-requires-2 : goal.column_at-requires-2
column_at-requires-2 c = search laws

pub field_fits-requires : goal.field_fits-requires
field_fits-requires c = search laws

pub returns : goal.returns
returns c = search laws
