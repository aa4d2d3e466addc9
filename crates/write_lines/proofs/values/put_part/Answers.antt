-- `write_lines::values::put_part` meets its contract. Assumes nothing.
use borrow.Author.Rules.{rules}
use Rattle.write_lines.proofs.PieceLaws.{lies_back, room_as, wrote_as, text_is_lem}
use Rattle.write_lines.proofs.values.put_part.Goals as goal

ruleset laws = (lies_back, room_as, wrote_as, text_is_lem, rules)

pub part-requires : goal.part-requires
part-requires c = search laws

pub put_meaning-requires : goal.put_meaning-requires
put_meaning-requires c = search laws

pub returns : goal.returns
returns c = search laws
