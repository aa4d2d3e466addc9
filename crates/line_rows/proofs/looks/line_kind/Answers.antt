-- `line_rows::looks::line_kind` meets its contract. Assumes nothing.
use borrow.Author.Rules.{rules}
use Rattle.line_rows.proofs.LookLaws.{line_comment, line_forbidden, line_broken, line_fields}
use Rattle.line_rows.proofs.looks.line_kind.Goals as goal

ruleset laws = (rules, line_comment, line_forbidden, line_broken, line_fields)

pub returns-then-begins_with : goal.returns-then-begins_with
returns-then-begins_with c = search laws

pub returns-then-not-clean : goal.returns-then-not-clean
returns-then-not-clean c = search laws

pub returns-in-Ok : goal.returns-in-Ok
returns-in-Ok c = search laws

pub returns-in-Err : goal.returns-in-Err
returns-in-Err c = search laws
