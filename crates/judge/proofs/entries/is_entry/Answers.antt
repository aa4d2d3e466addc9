-- `judge::entries::is_entry` meets its contract. Assumes nothing.
use borrow.Author.Rules.{rules}
use Rattle.judge.proofs.EntryLaws.{no_entry, entry_here}
use Rattle.judge.proofs.entries.is_entry.Goals as goal

ruleset laws = (no_entry, entry_here, rules)

pub is_of-requires : goal.is_of-requires
is_of-requires c = search laws

pub same_names-requires : goal.same_names-requires
same_names-requires c = search laws

pub returns-then-is_of : goal.returns-then-is_of
returns-then-is_of c = search laws

pub returns : goal.returns
returns c = search laws
