-- `write_lines::values::put_ended` meets its contract. Assumes nothing.
use borrow.Author.Rules.{rules}
use Rattle.write_lines.proofs.PieceLaws.{value_fits, value_room, value_behind, ended_put}
use Rattle.write_lines.proofs.values.put_ended.Goals as goal

ruleset laws = (value_fits, value_room, value_behind, ended_put, rules)

pub put_value-e-requires : goal.put_value-e-requires
put_value-e-requires c = search laws

pub behind-requires : goal.behind-requires
behind-requires c = search laws

pub put_byte-requires : goal.put_byte-requires
put_byte-requires c = search laws

pub shape_of-out : goal.shape_of-out
shape_of-out c = search laws

pub returns : goal.returns
returns c = search laws
