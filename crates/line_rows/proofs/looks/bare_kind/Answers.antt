-- `line_rows::looks::bare_kind` meets its contract. Assumes nothing.
use borrow.Author.Rules.{rules}
use Rattle.line_rows.proofs.LookLaws.{bare_key, bare_data}
use Rattle.line_rows.proofs.looks.bare_kind.Goals as goal

ruleset laws = (rules, bare_key, bare_data)

pub begins_with-requires : goal.begins_with-requires
begins_with-requires c = search laws

pub read_keyword-requires : goal.read_keyword-requires
read_keyword-requires c = search laws

pub is_prop-requires : goal.is_prop-requires
is_prop-requires c = search laws

pub returns-then-begins_with : goal.returns-then-begins_with
returns-then-begins_with c = search laws

pub returns-else-begins_with : goal.returns-else-begins_with
returns-else-begins_with c = search laws
