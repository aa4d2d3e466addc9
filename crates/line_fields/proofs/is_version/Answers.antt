-- `line_fields::is_version` meets its contract. Assumes nothing.
use borrow.Author.Rules.{rules}
use Rattle.line_fields.proofs.FieldLaws.{is_version_lem}
use Rattle.line_fields.proofs.is_version.Goals as goal

ruleset laws = (is_version_lem, rules)

pub is_below-requires : goal.is_below-requires
is_below-requires c = search laws

pub magnitude-requires : goal.magnitude-requires
magnitude-requires c = search laws

pub version_of-requires : goal.version_of-requires
version_of-requires c = search laws

pub returns : goal.returns
returns c = search laws
