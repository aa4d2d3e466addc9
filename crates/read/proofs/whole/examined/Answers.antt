-- `read::whole::examined` meets its contract. Assumes nothing.
use borrow.Author.Rules.{rules}
use Rattle.read.proofs.ReplyLaws.{large_examined, small_examined}
use Rattle.read.proofs.whole.examined.Goals as goal

ruleset laws = (large_examined, small_examined, rules)

pub returns-then-file-gt-LIMIT : goal.returns-then-file-gt-LIMIT
returns-then-file-gt-LIMIT c = search laws

pub returns-then-file-lt-SMALL : goal.returns-then-file-lt-SMALL
returns-then-file-lt-SMALL c = search laws

pub returns : goal.returns
returns c = search laws
