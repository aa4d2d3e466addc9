-- `walk::line::judge_line` meets its contract. Assumes nothing.
use borrow.Author.Rules.{rules}
use Rattle.walk.proofs.LineLaws.{front_long, front_room}
use Rattle.walk.proofs.line.judge_line.Goals as goal

ruleset laws = (front_long, front_room, rules)

pub slice_bounds-line-end : goal.slice_bounds-line-end
slice_bounds-line-end c = search laws

pub line-requires : goal.line-requires
line-requires c = search laws

pub returns : goal.returns
returns c = search laws
