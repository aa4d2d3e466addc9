-- `write_columns::lies_in` meets its contract. Assumes nothing.
use borrow.Author.Rules.{rules}
use Rattle.write_columns.proofs.ColumnLaws.{lies_below, lies_long, lies_by}
use Rattle.write_columns.proofs.lies_in.Goals as goal

ruleset laws = (lies_below, lies_long, lies_by, rules)

pub returns-then-start-len : goal.returns-then-start-len
returns-then-start-len c = search laws

pub returns-then-n-l : goal.returns-then-n-l
returns-then-n-l c = search laws

pub returns : goal.returns
returns c = search laws
