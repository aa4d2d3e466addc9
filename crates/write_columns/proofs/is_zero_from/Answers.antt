-- `write_columns::is_zero_from` meets its contract. Assumes nothing.
use mir.Syntax.{w64}
use mir.Val.{of_z}
use Rattle.std.proofs.Common.{rules, ap}
use Rattle.write_columns.proofs.ColumnLaws.{zero_over, zero_not, zero_more}
use Rattle.write_columns.proofs.is_zero_from.Goals as goal

pub returns-then-row-i-ne0 : goal.returns-then-row-i-ne0
returns-then-row-i-ne0 c = search (rules, zero_not c.args.row c.loop-i.i c.loop-i.invariant (search rules) (λ e. c.if-row-i-ne0.true (ap (of_z w64) e)))

pub loop-i-preserved : goal.loop-i-preserved
loop-i-preserved c = search (rules, zero_more)

pub returns : goal.returns
returns c = search (rules, zero_over)
