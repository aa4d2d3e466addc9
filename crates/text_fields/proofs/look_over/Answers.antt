-- `text_fields::look_over` meets its contract. Assumes nothing.
use borrow.Author.Rules.{rules}
use Rattle.text_fields.proofs.StartLaws.{plain_more, plain_over}
use Rattle.text_fields.proofs.look_over.Goals as goal

ruleset laws = (plain_more, plain_over, rules)

pub loop-b-preserved : goal.loop-b-preserved
loop-b-preserved c = search laws

pub returns : goal.returns
returns c = search laws
