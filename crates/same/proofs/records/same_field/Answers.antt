-- `same::records::same_field` meets its contract. Assumes nothing.
use borrow.Author.Rules.{rules}
use Rattle.same.proofs.RowLaws.{field_bytes, field_column}
use Rattle.same.proofs.records.same_field.Goals as goal

ruleset laws = (field_bytes, field_column, rules)

pub returns-then-holds_bytes : goal.returns-then-holds_bytes
returns-then-holds_bytes c = search laws

pub returns : goal.returns
returns c = search laws
