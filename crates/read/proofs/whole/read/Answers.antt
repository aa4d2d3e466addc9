-- `read::whole::read` meets its contract. Assumes nothing.
use borrow.Author.Rules.{rules}
use Rattle.read.proofs.RowLaws.{read_refused, kept_refused, read_small, read_short, kept_short, read_room, read_whole, put_whole}
use Rattle.read.proofs.whole.read.Goals as goal

ruleset laws = (read_refused, kept_refused, read_small, read_short, kept_short, read_room, read_whole, put_whole, rules)

pub check-r-requires : goal.check-r-requires
check-r-requires c = search laws

pub returns-then-r-ne0 : goal.returns-then-r-ne0
returns-then-r-ne0 c = search laws

pub capacity-requires : goal.capacity-requires
capacity-requires c = search laws

pub shape_of-rows : goal.shape_of-rows
shape_of-rows c = search laws

pub returns : goal.returns
returns c = search laws

pub returns-then-capacity-r-clause-value : goal.returns-then-capacity-r-clause-value
returns-then-capacity-r-clause-value c = search laws

pub returns-then-capacity-r-clause-rows_after : goal.returns-then-capacity-r-clause-rows_after
returns-then-capacity-r-clause-rows_after c = search laws

pub put_rows-requires : goal.put_rows-requires
put_rows-requires c = search laws
