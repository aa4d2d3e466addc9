-- `judge::parts::placed` meets its contract. Assumes nothing.
use borrow.Author.Rules.{rules}
use Rattle.judge.proofs.PartLaws.{parts_all}
use Rattle.judge.proofs.parts.placed.Goals as goal

ruleset laws = (parts_all, rules)

pub by_parts-requires : goal.by_parts-requires
by_parts-requires c = search laws

pub returns : goal.returns
returns c = search laws
