-- `write_texts::put_meaning` meets its contract. Assumes nothing.
use borrow.Author.Rules.{rules}
use Rattle.write_texts.proofs.WordLaws.{name_room, name_put, own_room, own_put}
use Rattle.write_texts.proofs.put_meaning.Goals as goal

ruleset laws = (name_room, name_put, own_room, own_put, rules)

pub is_named-requires : goal.is_named-requires
is_named-requires c = search laws

pub put_capitals-requires : goal.put_capitals-requires
put_capitals-requires c = search laws

pub shape_of-out-then-is_named : goal.shape_of-out-then-is_named
shape_of-out-then-is_named c = search laws

pub returns-then-is_named : goal.returns-then-is_named
returns-then-is_named c = search laws

pub put_text-requires : goal.put_text-requires
put_text-requires c = search laws

pub shape_of-out : goal.shape_of-out
shape_of-out c = search laws

pub returns : goal.returns
returns c = search laws
