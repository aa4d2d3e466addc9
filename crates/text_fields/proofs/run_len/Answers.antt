-- `text_fields::run_len` meets its contract. Assumes nothing.
use borrow.Author.Rules.{rules}
use Rattle.text_fields.proofs.FieldLaws.{runs_more, runs_stop, runs_end}
use Rattle.text_fields.proofs.run_len.Goals as goal

ruleset laws = (runs_more, runs_stop, runs_end, rules)

pub returns-then-not-passes : goal.returns-then-not-passes
returns-then-not-passes c = search laws

pub loop-i-preserved : goal.loop-i-preserved
loop-i-preserved c = search laws

pub returns : goal.returns
returns c = search laws
