-- `viewer::line::line_after` meets its contract. Assumes nothing.
use borrow.Author.Rules.{rules}
use Rattle.viewer.proofs.ReplyLaws.{after_more, after_stays}
use Rattle.viewer.proofs.line.line_after.Goals as goal

ruleset laws = (after_more, after_stays, rules)

pub overflow_add-result : goal.overflow_add-result
overflow_add-result c = search laws

pub returns-then-line-lt18446744073709551615 : goal.returns-then-line-lt18446744073709551615
returns-then-line-lt18446744073709551615 c = search laws

pub returns-else-line-lt18446744073709551615 : goal.returns-else-line-lt18446744073709551615
returns-else-line-lt18446744073709551615 c = search laws
