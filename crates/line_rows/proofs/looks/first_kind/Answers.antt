-- `line_rows::looks::first_kind` meets its contract. Assumes nothing.
use borrow.Author.Rules.{rules}
use Rattle.line_rows.proofs.LookLaws.{first_end, first_start, first_fits}
use Rattle.line_rows.proofs.looks.first_kind.Goals as goal

ruleset laws = (rules, first_end, first_start, first_fits)

pub overflow_add-f : goal.overflow_add-f
overflow_add-f c = search laws

pub slice_bounds-bare_kind-end : goal.slice_bounds-bare_kind-end
slice_bounds-bare_kind-end c = search laws
