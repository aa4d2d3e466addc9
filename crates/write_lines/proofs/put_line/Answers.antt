-- `write_lines::put_line` meets its contract. Assumes nothing.
use borrow.Author.Rules.{rules}
use Rattle.write_lines.proofs.WholeLaws.{front_room, fields_fit_lem, fields_room, line_put}
use Rattle.write_lines.proofs.put_line.Goals as goal

ruleset laws = (front_room, fields_fit_lem, fields_room, line_put, rules)

pub bounds-row-0 : goal.bounds-row-0
bounds-row-0 c = search laws

pub magnitude-kind-requires : goal.magnitude-kind-requires
magnitude-kind-requires c = search laws

pub field_count-n-requires : goal.field_count-n-requires
field_count-n-requires c = search laws

pub put_front-e-requires : goal.put_front-e-requires
put_front-e-requires c = search laws

pub put_fields-requires : goal.put_fields-requires
put_fields-requires c = search (fields_fit_lem, fields_room, c.put_front-e.ensures, c.field_count-n.ensures, c.magnitude-kind.ensures, rules)

pub shape_of-out : goal.shape_of-out
shape_of-out c = search laws

pub returns : goal.returns
returns c = search laws
