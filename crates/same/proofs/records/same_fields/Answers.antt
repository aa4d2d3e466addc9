-- `same::records::same_fields` meets its contract. Assumes nothing.
use borrow.Author.Rules.{rules}
use Rattle.same.proofs.RowLaws.{agreeing_start, agreeing_over, agreeing_place, agreeing_room, agreeing_not, agreeing_fits, agreeing_more}
use Rattle.same.proofs.records.same_fields.Goals as goal

ruleset laws = (agreeing_start, agreeing_over, agreeing_place, agreeing_room, agreeing_not, agreeing_fits, agreeing_more, rules)

pub loop-i-init : goal.loop-i-init
loop-i-init c = search laws

pub agrees_at-requires : goal.agrees_at-requires
agrees_at-requires c = search laws

pub returns-then-not-agrees_at : goal.returns-then-not-agrees_at
returns-then-not-agrees_at c = search laws

pub loop-i-preserved : goal.loop-i-preserved
loop-i-preserved c = search laws

pub returns : goal.returns
returns c = search laws
