-- `judge::entries::lacks` meets its contract. Assumes nothing.
use borrow.Author.Rules.{rules}
use Rattle.judge.proofs.EntryLaws.{lacks_not, lacks_by}
use Rattle.judge.proofs.entries.lacks.Goals as goal

ruleset laws = (lacks_not, lacks_by, rules)

pub is_of-requires : goal.is_of-requires
is_of-requires c = search laws

pub lacks_entry-requires : goal.lacks_entry-requires
lacks_entry-requires c = search laws

pub returns-then-is_of : goal.returns-then-is_of
returns-then-is_of c = search laws

pub returns : goal.returns
returns c = search laws
