-- `number_print::put_magnitude` meets its contract. Assumes nothing.
use borrow.Author.Rules.{rules}
use Rattle.number_print.proofs.PrintLaws.{whole_room, point_room, decimals_room, magnitude_wrote}
use Rattle.number_print.proofs.put_magnitude.Goals as goal

ruleset laws = (rules, whole_room, point_room, decimals_room, magnitude_wrote)

pub put_numeral-a-requires : goal.put_numeral-a-requires
put_numeral-a-requires c = search laws

pub put_byte-b-requires : goal.put_byte-b-requires
put_byte-b-requires c = search laws

pub put_decimals-requires : goal.put_decimals-requires
put_decimals-requires c = record { room = search decimals_room; decimals = search rules }

pub shape_of-out : goal.shape_of-out
shape_of-out c = search laws

pub returns : goal.returns
returns c = search laws
