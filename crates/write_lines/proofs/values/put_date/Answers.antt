-- `write_lines::values::put_date` meets its contract. Assumes nothing.
use borrow.Author.Rules.{rules}
use Rattle.write_lines.proofs.PieceLaws.{lies_back, room_as, wrote_as, date_is}
use Rattle.write_lines.proofs.values.put_date.Goals as goal

ruleset laws = (lies_back, room_as, wrote_as, date_is, rules)

pub part-requires : goal.part-requires
part-requires c = search laws

pub put_bytes-requires : goal.put_bytes-requires
put_bytes-requires c = search laws

pub returns : goal.returns
returns c = search laws
