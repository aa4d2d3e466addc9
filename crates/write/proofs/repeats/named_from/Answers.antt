-- `write::repeats::named_from` meets its contract. Assumes nothing.
use Rattle.write.proofs.NameLaws.{seek_start, seek_over, seek_found, seek_more}
use Rattle.write.proofs.RowLaws.{row_in_lem, rows_over}
use borrow.Author.Rules.{rules}
use Rattle.write.proofs.repeats.named_from.Goals as goal

ruleset laws = (seek_start, seek_over, seek_found, seek_more, row_in_lem, rows_over, rules)

pub loop-i-init : goal.loop-i-init
loop-i-init c = search laws

pub row_at-requires : goal.row_at-requires
row_at-requires c = search laws

pub returns-then-names_it : goal.returns-then-names_it
returns-then-names_it c = search laws

pub loop-i-preserved : goal.loop-i-preserved
loop-i-preserved c = search laws

pub returns : goal.returns
returns c = search laws
