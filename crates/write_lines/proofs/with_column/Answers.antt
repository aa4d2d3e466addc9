-- `write_lines::with_column` meets its contract. Assumes nothing.
use borrow.Author.Rules.{rules}
use Rattle.write_lines.proofs.PieceLaws.{column_fits_lem, with_column, sum_capped}
use Rattle.write_lines.proofs.with_column.Goals as goal

ruleset laws = (column_fits_lem, with_column, sum_capped, rules)

pub column_at-a-requires : goal.column_at-a-requires
column_at-a-requires c = search laws

pub column_at-b-requires : goal.column_at-b-requires
column_at-b-requires c = search laws

pub value_len-n-requires : goal.value_len-n-requires
value_len-n-requires c = search laws

pub longer-requires : goal.longer-requires
longer-requires c = search laws

pub longer-requires-2 : goal.longer-requires-2
longer-requires-2 c = search laws

pub returns : goal.returns
returns c = search laws
