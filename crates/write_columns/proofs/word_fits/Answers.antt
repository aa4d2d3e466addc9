-- `write_columns::word_fits` meets its contract. Assumes nothing.
use borrow.Author.Rules.{rules}
use Rattle.write_columns.proofs.ColumnLaws.{word_below, word_by}
use Rattle.write_columns.proofs.word_fits.Goals as goal

ruleset laws = (word_below, word_by, rules)

pub returns-then-z-lt0 : goal.returns-then-z-lt0
returns-then-z-lt0 c = search laws

pub slice_bounds-padded_len-end : goal.slice_bounds-padded_len-end
slice_bounds-padded_len-end c = search laws

pub returns : goal.returns
returns c = search laws
