-- `judge::entries::lacks_entry` meets its contract. Assumes nothing.
use borrow.Author.Rules.{rules}
use Rattle.judge.proofs.EntryLaws.{needs_none, needs_mechanical, needs_electrical}
use Rattle.judge.proofs.entries.lacks_entry.Goals as goal

ruleset laws = (needs_none, needs_mechanical, needs_electrical, rules)

pub refers-requires : goal.refers-requires
refers-requires c = search laws

pub returns-then-refers : goal.returns-then-refers
returns-then-refers c = search laws

pub refers-requires-2 : goal.refers-requires-2
refers-requires-2 c = search laws

pub is_stocked-requires : goal.is_stocked-requires
is_stocked-requires c = search laws

pub returns-then-refers-2 : goal.returns-then-refers-2
returns-then-refers-2 c = search laws

pub is_stocked-requires-2 : goal.is_stocked-requires-2
is_stocked-requires-2 c = search laws

pub returns : goal.returns
returns c = search laws
