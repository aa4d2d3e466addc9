-- `text::clean` meets its contract. Assumes nothing.
use borrow.Author.Rules.{rules}
use Rattle.text.proofs.ByteLaws.{clean_more, clean_over}
use Rattle.text.proofs.clean.Goals as goal

ruleset laws = (clean_more, clean_over, rules)

pub loop-b-preserved : goal.loop-b-preserved
loop-b-preserved c = search laws

pub returns : goal.returns
returns c = search laws
