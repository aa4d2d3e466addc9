-- `same::same` meets its contract. Assumes nothing.
use borrow.Author.Rules.{rules}
use Rattle.read.proofs.ReplyLaws.{accepted_small}
use Rattle.same.proofs.VerdictLaws.{first_refused, second_refused, both_accepted}
use Rattle.same.proofs.same.Goals as goal

ruleset laws = (accepted_small, first_refused, second_refused, both_accepted, rules)

pub check-a-requires : goal.check-a-requires
check-a-requires c = search laws

pub refused-requires : goal.refused-requires
refused-requires c = search laws

pub returns-then-a-ne0 : goal.returns-then-a-ne0
returns-then-a-ne0 c = search laws

pub check-b-requires : goal.check-b-requires
check-b-requires c = search laws

pub refused-requires-then-b-ne0 : goal.refused-requires-then-b-ne0
refused-requires-then-b-ne0 c = search laws

pub returns-then-b-ne0 : goal.returns-then-b-ne0
returns-then-b-ne0 c = search laws

pub nothing-requires : goal.nothing-requires
nothing-requires c = search laws

pub same_lists-requires : goal.same_lists-requires
same_lists-requires c = (accepted_small _ _ c.check-a.ensures c.if-a-ne0.false, accepted_small _ _ c.check-b.ensures c.if-b-ne0.false)

pub found-requires : goal.found-requires
found-requires c = search laws

pub returns : goal.returns
returns c = search laws
