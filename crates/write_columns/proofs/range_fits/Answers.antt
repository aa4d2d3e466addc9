-- `write_columns::range_fits` meets its contract. Assumes nothing.
use borrow.Author.Rules.{rules}
use Rattle.write_columns.proofs.ColumnLaws.{range_not, range_end, range_start, range_end_fits, range_by}
use Rattle.write_columns.proofs.range_fits.Goals as goal

ruleset laws = (range_not, range_end, range_start, range_end_fits, range_by, rules)

pub lies_in-requires : goal.lies_in-requires
lies_in-requires c = search laws

pub returns-then-not-lies_in : goal.returns-then-not-lies_in
returns-then-not-lies_in c = search laws

pub magnitude-a-requires : goal.magnitude-a-requires
magnitude-a-requires c = search laws

pub magnitude-n-requires : goal.magnitude-n-requires
magnitude-n-requires c = search laws

pub slice_bounds-holds_bytes-start : goal.slice_bounds-holds_bytes-start
slice_bounds-holds_bytes-start c = search laws

pub slice_bounds-holds_bytes-end : goal.slice_bounds-holds_bytes-end
slice_bounds-holds_bytes-end c = search laws

pub holds_bytes-requires : goal.holds_bytes-requires
holds_bytes-requires c = search laws

pub returns : goal.returns
returns c = search laws

pub overflow_add-a : goal.overflow_add-a
overflow_add-a c = search laws
