-- `read::whole::check` meets its contract. Assumes nothing.
use borrow.Author.Rules.{rules}
use Rattle.read.proofs.ReplyLaws.{check_examined}
use Rattle.read.proofs.whole.check.Goals as goal

ruleset laws = (check_examined, rules)

pub examined-c-requires : goal.examined-c-requires
examined-c-requires c = search laws

pub returns : goal.returns
returns c = search laws
