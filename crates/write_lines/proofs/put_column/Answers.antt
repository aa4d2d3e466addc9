-- `write_lines::put_column` meets its contract. Assumes nothing.
use borrow.Author.Rules.{rules}
use Rattle.write_lines.proofs.PieceLaws.{column_fits_lem, room_as, wrote_as, column_is}
use Rattle.write_lines.proofs.put_column.Goals as goal

ruleset laws = (column_fits_lem, room_as, wrote_as, column_is, rules)

pub column_at-a-requires : goal.column_at-a-requires
column_at-a-requires c = search laws

pub column_at-b-requires : goal.column_at-b-requires
column_at-b-requires c = search laws

pub put_ended-requires : goal.put_ended-requires
put_ended-requires c = search laws

pub shape_of-out : goal.shape_of-out
shape_of-out c = search laws

pub returns : goal.returns
returns c = search laws
