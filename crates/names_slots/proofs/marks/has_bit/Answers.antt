-- `names_slots::marks::has_bit` meets its contract. Assumes nothing.
use borrow.Author.Rules.{rules}
use Rattle.names_slots.proofs.MarkLaws.{word_within, has_is}
use Rattle.names_slots.proofs.marks.has_bit.Goals as goal

ruleset laws = (word_within, has_is, rules)

pub bit_of-b-requires : goal.bit_of-b-requires
bit_of-b-requires c = search laws

pub word_of-at-requires : goal.word_of-at-requires
word_of-at-requires c = search laws

pub bounds-marks-at : goal.bounds-marks-at
bounds-marks-at c = search laws

pub returns : goal.returns
returns c = search laws

pub offset_bounds-marks-at : goal.offset_bounds-marks-at
offset_bounds-marks-at c = search laws
