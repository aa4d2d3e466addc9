-- `line_fields::text_field` meets its contract. Assumes nothing.
use borrow.Author.Rules.{rules}
use Rattle.line_fields.proofs.FieldLaws.{text_barred, text_free}
use Rattle.line_fields.proofs.text_field.Goals as goal

ruleset laws = (text_barred, text_free, rules)

pub is_barred-requires : goal.is_barred-requires
is_barred-requires c = search laws

pub returns-then-is_barred : goal.returns-then-is_barred
returns-then-is_barred c = search laws

pub returns-else-is_barred : goal.returns-else-is_barred
returns-else-is_barred c = search laws
