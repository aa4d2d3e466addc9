-- `read::whole::ended` meets its contract. Assumes nothing.
use borrow.Author.Rules.{rules}
use Rattle.read.proofs.ReplyLaws.{ended_whole, ended_early}
use Rattle.read.proofs.whole.ended.Goals as goal

ruleset laws = (ended_whole, ended_early, rules)

pub accepting-requires : goal.accepting-requires
accepting-requires c = search laws

pub returns-then-accepting : goal.returns-then-accepting
returns-then-accepting c = search laws

pub refusal-requires : goal.refusal-requires
refusal-requires c = search laws

pub returns : goal.returns
returns c = search laws
