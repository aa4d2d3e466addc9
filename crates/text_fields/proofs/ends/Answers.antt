-- `text_fields::ends` meets its contract. Assumes nothing.
use borrow.Author.Rules.{rules}
use Rattle.text_fields.proofs.FieldLaws.{ends_end, ends_byte}
use Rattle.text_fields.proofs.ends.Goals as goal

ruleset laws = (ends_end, ends_byte, rules)

pub returns-then-at-s : goal.returns-then-at-s
returns-then-at-s c = search laws

pub returns-else-at-s : goal.returns-else-at-s
returns-else-at-s c = search laws
