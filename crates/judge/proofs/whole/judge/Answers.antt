-- `judge::whole::judge` meets its contract. Assumes nothing.
use borrow.Author.Rules.{rules}
use Rattle.judge.proofs.VerdictLaws.{first_refused, first_accepted, examined_small}
use Rattle.judge.proofs.whole.judge.Goals as goal

ruleset laws = (first_refused, first_accepted, examined_small, rules)

pub examined-c-requires : goal.examined-c-requires
examined-c-requires c = search laws

pub refused-requires : goal.refused-requires
refused-requires c = search laws

pub returns-then-r-ne0 : goal.returns-then-r-ne0
returns-then-r-ne0 c = search laws

pub with_library-requires : goal.with_library-requires
with_library-requires c = search laws

pub returns : goal.returns
returns c = search laws
