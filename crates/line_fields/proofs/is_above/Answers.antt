-- `line_fields::is_above` meets its contract. Assumes nothing.
use borrow.Author.Rules.{rules}
use Rattle.line_fields.proofs.FieldLaws.{above_is}
use Rattle.line_fields.proofs.is_above.Goals as goal

ruleset laws = (above_is, rules)

pub is_below-requires : goal.is_below-requires
is_below-requires c = search laws

pub magnitude-requires : goal.magnitude-requires
magnitude-requires c = search laws

pub returns : goal.returns
returns c = search laws
