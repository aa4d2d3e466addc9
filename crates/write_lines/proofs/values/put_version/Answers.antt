-- `write_lines::values::put_version` meets its contract. Assumes nothing.
use borrow.Author.Rules.{rules}
use Rattle.write_lines.proofs.PieceLaws.{room_as, wrote_as, version_is}
use Rattle.write_lines.proofs.values.put_version.Goals as goal

ruleset laws = (room_as, wrote_as, version_is, rules)

pub put_bytes-requires : goal.put_bytes-requires
put_bytes-requires c = search laws

pub shape_of-out : goal.shape_of-out
shape_of-out c = search laws

pub returns : goal.returns
returns c = search laws
