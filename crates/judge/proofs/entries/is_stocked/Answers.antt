-- `judge::entries::is_stocked` meets its contract. Assumes nothing.
use borrow.Author.Rules.{rules}
use Rattle.judge.proofs.StockTrue.{stocked_room, stocked_found, stocked_slow}
use Rattle.judge.proofs.entries.is_stocked.Goals as goal

ruleset laws = (stocked_room, stocked_found, stocked_slow, rules)

pub has_place-requires : goal.has_place-requires
has_place-requires c = search laws

pub returns-then-has_place : goal.returns-then-has_place
returns-then-has_place c = search laws

pub component_kind-requires : goal.component_kind-requires
component_kind-requires c = search laws

pub has_entry-requires : goal.has_entry-requires
has_entry-requires c = search laws

pub returns : goal.returns
returns c = search laws
