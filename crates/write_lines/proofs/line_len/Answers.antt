-- `write_lines::line_len` meets its contract. Assumes nothing.
use borrow.Author.Rules.{rules}
use Rattle.write_lines.proofs.WholeLaws.{fields_fit_lem, line_sum}
use Rattle.write_lines.proofs.PieceLaws.{sum_capped}
use Rattle.write_lines.proofs.line_len.Goals as goal

ruleset laws = (fields_fit_lem, line_sum, sum_capped, rules)

pub bounds-row-0 : goal.bounds-row-0
bounds-row-0 c = search laws

pub magnitude-kind-requires : goal.magnitude-kind-requires
magnitude-kind-requires c = search laws

pub field_count-n-requires : goal.field_count-n-requires
field_count-n-requires c = search laws

pub front_len-requires : goal.front_len-requires
front_len-requires c = search laws

pub longer-len-requires : goal.longer-len-requires
longer-len-requires c = search laws

pub with_fields-requires : goal.with_fields-requires
with_fields-requires c = search laws

pub returns : goal.returns
returns c = search laws
