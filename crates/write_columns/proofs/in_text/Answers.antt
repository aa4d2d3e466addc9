-- `write_columns::in_text` meets its contract. Assumes nothing.
use borrow.Author.Rules.{rules}
use Rattle.write_columns.proofs.ColumnLaws.{text_byte_lem}
use Rattle.write_columns.proofs.in_text.Goals as goal

ruleset laws = (text_byte_lem, rules)

pub permits-requires : goal.permits-requires
permits-requires c = search laws

pub returns : goal.returns
returns c = search laws
