-- `viewer::line::fields_in` meets its contract. Assumes nothing.
use borrow.Author.Rules.{rules}
use Rattle.viewer.proofs.ReplyLaws.{seen_forbidden, seen_fields, seen_bad}
use Rattle.viewer.proofs.line.fields_in.Goals as goal

ruleset laws = (seen_forbidden, seen_fields, seen_bad, rules)

pub returns-then-not-clean : goal.returns-then-not-clean
returns-then-not-clean c = search laws

pub returns-in-Ok : goal.returns-in-Ok
returns-in-Ok c = search laws

pub returns-in-Err : goal.returns-in-Err
returns-in-Err c = search laws
