-- `write_lines::fronts::put_front` meets its contract. Assumes nothing.
use borrow.Author.Rules.{rules}
use Rattle.write_lines.proofs.PieceLaws.{front_put_none, mark_room, name_room, behind_room, front_put}
use Rattle.write_lines.proofs.fronts.put_front.Goals as goal

ruleset laws = (front_put_none, mark_room, name_room, behind_room, front_put, rules)

pub returns-then-mark_len-eq0 : goal.returns-then-mark_len-eq0
returns-then-mark_len-eq0 c = search laws

pub put_mark-a-requires : goal.put_mark-a-requires
put_mark-a-requires c = search laws

pub put_padded-b-requires : goal.put_padded-b-requires
put_padded-b-requires c = search laws

pub put_byte-requires : goal.put_byte-requires
put_byte-requires c = search laws

pub returns : goal.returns
returns c = search laws
