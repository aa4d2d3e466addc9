-- `walk::line::filled` meets its contract. Assumes nothing.
use borrow.Author.Rules.{rules}
use Rattle.walk.proofs.LineLaws.{filled_bad}
use Rattle.walk.proofs.line.filled.Goals as goal

pub returns-in-Err : goal.returns-in-Err
returns-in-Err c = search (filled_bad, rules)
