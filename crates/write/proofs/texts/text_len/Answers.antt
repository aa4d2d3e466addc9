-- `write::texts::text_len` meets its contract. Assumes nothing.
use Rattle.write.proofs.TextLaws.{count_start, count_small, count_over, count_fits, count_far, count_more}
use Rattle.write.proofs.RowLaws.{row_in_lem, rows_over}
use borrow.Author.Rules.{rules}
use Rattle.write.proofs.texts.text_len.Goals as goal

ruleset laws = (count_start, count_small, count_over, count_fits, count_far, count_more, row_in_lem, rows_over, rules)

pub loop-i-init : goal.loop-i-init
loop-i-init c = search laws

pub row_at-requires : goal.row_at-requires
row_at-requires c = search laws

pub line_len-sum-requires : goal.line_len-sum-requires
line_len-sum-requires c = search laws

pub returns-then-sum-gt-LIMIT : goal.returns-then-sum-gt-LIMIT
returns-then-sum-gt-LIMIT c = search laws

pub loop-i-preserved : goal.loop-i-preserved
loop-i-preserved c = search (count_more, row_in_lem, c.capacity-n.ensures, c.loop-i.invariant, c.loop-i-test.true, c.row_at.ensures, c.line_len-sum.ensures, c.if-sum-gt-LIMIT.false)

pub returns : goal.returns
returns c = search laws
