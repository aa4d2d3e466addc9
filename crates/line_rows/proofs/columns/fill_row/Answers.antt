-- `line_rows::columns::fill_row` meets its contract. Assumes nothing.
use borrow.Author.Rules.{rules}
use Rattle.line_rows.proofs.FillLaws.{fills_start, fills_over, fills_same, fills_ten, fills_type, fills_room, fills_refused, fills_more}
use Rattle.line_rows.proofs.columns.fill_row.Goals as goal

ruleset laws = (fills_start, fills_over, fills_same, fills_ten, fills_type, fills_room, fills_refused, fills_more, rules)

pub loop-i-init : goal.loop-i-init
loop-i-init c = search laws

pub field_type-t-requires : goal.field_type-t-requires
field_type-t-requires c = search laws

pub put_field-requires : goal.put_field-requires
put_field-requires c = search laws

pub returns-in-Err : goal.returns-in-Err
returns-in-Err c = search laws

pub loop-i-preserved : goal.loop-i-preserved
loop-i-preserved c = search laws

pub returns : goal.returns
returns c = search laws
