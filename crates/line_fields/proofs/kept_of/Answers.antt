-- `line_fields::kept_of` meets its contract. Assumes nothing.
use borrow.Author.Rules.{rules}
use Rattle.line_fields.proofs.FieldLaws.{kept_is}
use Rattle.line_fields.proofs.kept_of.Goals as goal

ruleset laws = (kept_is, rules)

pub returns : goal.returns
returns c = search laws
