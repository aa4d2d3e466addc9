-- `judge::parts::is_asked` meets its contract. Assumes nothing.
use borrow.Author.Rules.{rules}
use Rattle.judge.proofs.PlaceLaws.{asked_all, asked_by}
use Rattle.judge.proofs.parts.is_asked.Goals as goal

ruleset laws = (asked_all, asked_by, rules)

pub returns-then-parts-lt2 : goal.returns-then-parts-lt2
returns-then-parts-lt2 c = search laws

pub hash_name-requires : goal.hash_name-requires
hash_name-requires c = search laws

pub is_in-requires : goal.is_in-requires
is_in-requires c = search laws

pub returns : goal.returns
returns c = search laws
