-- `judge_stock::pack_row` meets its contract. Assumes nothing.
use borrow.Author.Rules.{rules}
use Rattle.judge_stock.proofs.PackLaws.{pack_row}
use Rattle.judge_stock.proofs.pack_row.Goals as goal

ruleset laws = (pack_row, rules)

pub bounds-y-1 : goal.bounds-y-1
bounds-y-1 c = search laws

pub magnitude-requires : goal.magnitude-requires
magnitude-requires c = search laws

pub bounds-y-2 : goal.bounds-y-2
bounds-y-2 c = search laws

pub magnitude-requires-2 : goal.magnitude-requires-2
magnitude-requires-2 c = search laws

pub bounds-y-3 : goal.bounds-y-3
bounds-y-3 c = search laws

pub magnitude-requires-3 : goal.magnitude-requires-3
magnitude-requires-3 c = search laws

pub bounds-y-4 : goal.bounds-y-4
bounds-y-4 c = search laws

pub magnitude-requires-4 : goal.magnitude-requires-4
magnitude-requires-4 c = search laws

pub pack-requires : goal.pack-requires
pack-requires c = search laws

pub returns : goal.returns
returns c = search laws
