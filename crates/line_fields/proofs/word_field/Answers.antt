-- `line_fields::word_field` meets its contract. Assumes nothing.
use borrow.Author.Rules.{rules}
use Rattle.line_fields.proofs.FieldLaws.{word_at, word_not}
use Rattle.line_fields.proofs.word_field.Goals as goal

ruleset laws = (word_at, word_not, rules)

pub returns-in-Some : goal.returns-in-Some
returns-in-Some c = search laws

pub returns-in-None : goal.returns-in-None
returns-in-None c = search laws
