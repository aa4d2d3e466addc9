-- `judge::parts::in_empty` meets its contract. Assumes nothing.
use Rattle.judge.proofs.StockTrue.{empty_stocked}
use Rattle.judge.proofs.parts.in_empty.Goals as goal

pub in_slots-requires : goal.in_slots-requires
in_slots-requires g c = (c.requires.0, c.requires.1, empty_stocked _ _ c.requires.2)
