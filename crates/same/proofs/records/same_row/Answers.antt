-- `same::records::same_row` meets its contract. Assumes nothing.
use borrow.Author.Rules.{rules}
use Rattle.same.proofs.RowLaws.{rows_differ, rows_by_fields}
use Rattle.same.proofs.records.same_row.Goals as goal

ruleset laws = (rows_differ, rows_by_fields, rules)

pub returns-then-x-y : goal.returns-then-x-y
returns-then-x-y c = search laws

pub returns : goal.returns
returns c = search laws
