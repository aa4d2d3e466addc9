-- `viewer::line::step` meets its contract. Assumes nothing.
use borrow.Author.Rules.{rules}
use Rattle.viewer.proofs.ReplyLaws.{step_on, step_stays}
use Rattle.viewer.proofs.line.step.Goals as goal

ruleset laws = (step_on, step_stays, rules)

pub moves_on-requires : goal.moves_on-requires
moves_on-requires c = search laws

pub line_after-requires : goal.line_after-requires
line_after-requires c = search laws

pub returns-then-moves_on : goal.returns-then-moves_on
returns-then-moves_on c = search laws

pub returns : goal.returns
returns c = search laws
