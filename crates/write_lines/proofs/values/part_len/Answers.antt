-- `write_lines::values::part_len` meets its contract. Assumes nothing.
use borrow.Author.Rules.{rules}
use Rattle.write_lines.proofs.PieceLaws.{lies_back, text_long}
use Rattle.write_lines.proofs.values.part_len.Goals as goal

ruleset laws = (lies_back, text_long, rules)

pub part-requires : goal.part-requires
part-requires c = search laws

pub returns : goal.returns
returns c = search laws
