-- `write::texts::put_text` meets its contract. Assumes nothing.
use Rattle.write.proofs.TextLaws.{write_start, write_same, write_over, write_fits, write_room, write_more}
use Rattle.write.proofs.RowLaws.{row_in_lem, rows_over}
use borrow.Author.Rules.{rules}
use Rattle.write.proofs.texts.put_text.Goals as goal

ruleset laws = (write_start, write_same, write_over, write_fits, write_room, write_more, row_in_lem, rows_over, rules)

pub loop-i-init : goal.loop-i-init
loop-i-init c = search laws

pub row_at-requires : goal.row_at-requires
row_at-requires c = search laws

pub put_line-at-requires : goal.put_line-at-requires
put_line-at-requires c = search laws

pub loop-i-preserved : goal.loop-i-preserved
loop-i-preserved c = search (write_more, row_in_lem, c.capacity-n.ensures, c.loop-i.invariant, c.loop-i-test.true, c.row_at.ensures, c.put_line-at.ensures)

pub shape_of-out : goal.shape_of-out
shape_of-out c = search laws

pub returns : goal.returns
returns c = search laws
