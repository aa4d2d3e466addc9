-- `judge::parts::in_slots` meets its contract. Assumes nothing.
use borrow.Author.Rules.{rules}
use Rattle.judge.proofs.StockTrue.{filled_stocked, stocked_room}
use Rattle.judge.proofs.parts.in_slots.Goals as goal

ruleset laws = (filled_stocked, stocked_room, rules)

pub fill-n-requires : goal.fill-n-requires
fill-n-requires c = search laws

pub shape_of-places-then-n-gt-MANY : goal.shape_of-places-then-n-gt-MANY
shape_of-places-then-n-gt-MANY c = search laws

pub returns-then-n-gt-MANY : goal.returns-then-n-gt-MANY
returns-then-n-gt-MANY c = search laws

pub placed_by-requires : goal.placed_by-requires
placed_by-requires c = search laws

pub shape_of-places : goal.shape_of-places
shape_of-places c = search laws

pub returns : goal.returns
returns c = search laws
