-- `line_fields::version_of` meets its contract. Assumes nothing.
use borrow.Author.Rules.{rules}
use Rattle.line_fields.proofs.FieldLaws.{version_is}
use Rattle.line_fields.proofs.version_of.Goals as goal

ruleset laws = (version_is, rules)

pub returns : goal.returns
returns c = search laws
