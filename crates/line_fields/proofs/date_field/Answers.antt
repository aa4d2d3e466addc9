-- `line_fields::date_field` meets its contract. Assumes nothing.
use borrow.Author.Rules.{rules}
use Rattle.line_fields.proofs.FieldLaws.{date_good, date_not}
use Rattle.line_fields.proofs.date_field.Goals as goal

ruleset laws = (date_good, date_not, rules)

pub is_date-requires : goal.is_date-requires
is_date-requires c = search laws

pub returns-then-is_date : goal.returns-then-is_date
returns-then-is_date c = search laws

pub returns-else-is_date : goal.returns-else-is_date
returns-else-is_date c = search laws
