-- `names_slots::hash` meets its contract. Assumes nothing.
use borrow.Author.Rules.{rules}
use Rattle.names_slots.proofs.HashLaws.{hash_more, hash_over}
use Rattle.names_slots.proofs.hash.Goals as goal

ruleset laws = (hash_more, hash_over, rules)

pub loop-b-preserved : goal.loop-b-preserved
loop-b-preserved c = search laws

pub returns : goal.returns
returns c = search laws
