-- `judge::entries::is_of` meets its contract. Assumes nothing.
use borrow.Author.Rules.{rules}
use Rattle.judge.proofs.EntryLaws.{of_none, of_by}
use Rattle.judge.proofs.entries.is_of.Goals as goal

ruleset laws = (of_none, of_by, rules)

pub is_row-requires : goal.is_row-requires
is_row-requires c = search laws

pub has_kind-requires : goal.has_kind-requires
has_kind-requires c = search laws

pub returns-then-is_row : goal.returns-then-is_row
returns-then-is_row c = search laws

pub returns : goal.returns
returns c = search laws
