-- `names_slots::place` meets its contract. Assumes nothing.
use borrow.Author.Rules.{rules}
use Rattle.names_slots.proofs.SlotLaws.{begun_room, put_same_length, place_put}
use Rattle.names_slots.proofs.place.Goals as goal

ruleset laws = (begun_room, put_same_length, place_put, rules)

pub slot_of-from-requires : goal.slot_of-from-requires
slot_of-from-requires c = search laws

pub put_number-requires : goal.put_number-requires
put_number-requires c = search laws

pub shape_of-slots : goal.shape_of-slots
shape_of-slots c = search laws

pub returns : goal.returns
returns c = search laws
