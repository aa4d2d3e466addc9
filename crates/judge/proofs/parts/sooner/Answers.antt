-- `judge::parts::sooner` meets its contract. Assumes nothing.
use borrow.Author.Rules.{rules}
use Rattle.judge.proofs.SoonLaws.{sooner_second, sooner_first, sooner_less, sooner_not_less}
use Rattle.judge.proofs.parts.sooner.Goals as goal

ruleset laws = (sooner_second, sooner_first, sooner_less, sooner_not_less, rules)

pub returns-then-a-eq0 : goal.returns-then-a-eq0
returns-then-a-eq0 c = search laws

pub returns-then-b-eq0 : goal.returns-then-b-eq0
returns-then-b-eq0 c = search laws

pub returns-then-b-a : goal.returns-then-b-a
returns-then-b-a c = search laws

pub returns : goal.returns
returns c = search laws
