-- `line_fields::read_field` meets its contract. Assumes nothing.
use borrow.Author.Rules.{rules}
use Rattle.line_fields.proofs.FieldLaws.{read_quoted, read_bare}
use Rattle.line_fields.proofs.read_field.Goals as goal

ruleset laws = (read_quoted, read_bare, rules)

pub quoted_field-requires : goal.quoted_field-requires
quoted_field-requires c = search laws

pub bare_field-requires : goal.bare_field-requires
bare_field-requires c = search laws

pub returns-then-quoted : goal.returns-then-quoted
returns-then-quoted c = search laws

pub returns-else-quoted : goal.returns-else-quoted
returns-else-quoted c = search laws
