-- `judge::parts::is_missed` meets its contract. Assumes nothing.
use borrow.Author.Rules.{rules}
use Rattle.judge.proofs.PlaceLaws.{missed_none, missed_not, missed_by}
use Rattle.judge.proofs.parts.is_missed.Goals as goal

ruleset laws = (missed_none, missed_not, missed_by, rules)

pub is_of-requires : goal.is_of-requires
is_of-requires c = search laws

pub is_asked-requires : goal.is_asked-requires
is_asked-requires c = search laws

pub lacks-requires : goal.lacks-requires
lacks-requires c = search laws

pub returns-then-is_asked : goal.returns-then-is_asked
returns-then-is_asked c = search laws

pub returns-else-is_asked : goal.returns-else-is_asked
returns-else-is_asked c = search laws

pub returns-else-is_of : goal.returns-else-is_of
returns-else-is_of c = search laws
