-- `write_columns::fields_fit` meets its contract. Assumes nothing.
use borrow.Author.Rules.{rules}
use Rattle.write_columns.proofs.FitLaws.{fit_start, fit_few, fit_over, fit_type, fit_not, fit_more, fit_fits}
use Rattle.write_columns.proofs.fields_fit.Goals as goal

ruleset laws = (fit_start, fit_few, fit_over, fit_type, fit_not, fit_more, fit_fits, rules)

pub field_count-n-requires : goal.field_count-n-requires
field_count-n-requires c = search laws

pub row_of-layout-requires : goal.row_of-layout-requires
row_of-layout-requires c = search laws

pub loop-i-init : goal.loop-i-init
loop-i-init c = search laws

pub field_type-t-requires : goal.field_type-t-requires
field_type-t-requires c = search laws

pub slice_bounds-column_fits-end : goal.slice_bounds-column_fits-end
slice_bounds-column_fits-end c = search laws

pub column_fits-requires : goal.column_fits-requires
column_fits-requires c = search laws

pub returns-then-not-column_fits : goal.returns-then-not-column_fits
returns-then-not-column_fits c = search laws

pub width_of-k-requires : goal.width_of-k-requires
width_of-k-requires c = search laws

pub overflow_add-k : goal.overflow_add-k
overflow_add-k c = search laws

pub loop-i-preserved : goal.loop-i-preserved
loop-i-preserved c = (search (fit_more, c.loop-i.invariant.0, c.loop-i-test.true, c.field_type-t.ensures, c.column_fits.ensures, c.if-not-column_fits.false-raw, c.width_of-k.ensures), search laws)

pub is_zero_from-requires : goal.is_zero_from-requires
is_zero_from-requires c = search laws

pub returns : goal.returns
returns c = search laws
