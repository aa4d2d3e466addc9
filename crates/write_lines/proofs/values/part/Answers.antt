-- `write_lines::values::part` meets its contract. Assumes nothing.
use borrow.Author.Rules.{rules}
use Rattle.write_lines.proofs.PieceLaws.{part_end, part_start_lem, part_fits, part_is}
use Rattle.write_lines.proofs.values.part.Goals as goal

ruleset laws = (part_end, part_start_lem, part_fits, part_is, rules)

pub overflow_add-result : goal.overflow_add-result
overflow_add-result c = search laws

pub slice_bounds-result-end : goal.slice_bounds-result-end
slice_bounds-result-end c = search laws

pub returns : goal.returns
returns c = search laws
