-- `judge::whole::with_library` meets its contract. Assumes nothing.
use borrow.Author.Rules.{rules}
use Rattle.judge.proofs.VerdictLaws.{second_refused, both_accepted, examined_small}
use Rattle.judge.proofs.whole.with_library.Goals as goal

ruleset laws = (second_refused, both_accepted, examined_small, rules)

pub examined-c-requires : goal.examined-c-requires
examined-c-requires c = search laws

pub refused-requires : goal.refused-requires
refused-requires c = search laws

pub returns-then-r-ne0 : goal.returns-then-r-ne0
returns-then-r-ne0 c = search laws

pub matched-requires : goal.matched-requires
matched-requires c = search laws

pub returns : goal.returns
returns c = search laws
