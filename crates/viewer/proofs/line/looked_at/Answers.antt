-- `viewer::line::looked_at` meets its contract. Assumes nothing.
use borrow.Author.Rules.{rules}
use Rattle.viewer.proofs.ReplyLaws.{looked_none, looked_all}
use Rattle.viewer.proofs.line.looked_at.Goals as goal

ruleset laws = (looked_none, looked_all, rules)

pub begins_with-requires : goal.begins_with-requires
begins_with-requires c = search laws

pub returns-then-begins_with : goal.returns-then-begins_with
returns-then-begins_with c = search laws

pub returns-else-begins_with : goal.returns-else-begins_with
returns-else-begins_with c = search laws
