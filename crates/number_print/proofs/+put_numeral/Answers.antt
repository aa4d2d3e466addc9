-- `number_print::+put_numeral` meets its contract. Assumes nothing.
use borrow.Author.Rules.{rules}
use Rattle.number_print.proofs.PrintLaws.{wrote_length, digit_room, digit_wrote, top_less, mod_ten, numeral_more, room_less, numeral_room}
use Rattle.number_print.proofs.+put_numeral.Goals as goal

ruleset laws = (rules, wrote_length, top_less, mod_ten, numeral_more, room_less, numeral_room)

pub put_byte-requires : goal.put_byte-requires
put_byte-requires t c = digit_room _ _ c.requires.digits c.then-k-eq0.either _ _ c.requires.room

pub returns-then-k-eq0 : goal.returns-then-k-eq0
returns-then-k-eq0 t c = digit_wrote _ _ c.requires.digits c.then-k-eq0.either _ _ _ _ _ c.digit.ensures c.put_byte.ensures

pub put_numeral-m-requires : goal.put_numeral-m-requires
put_numeral-m-requires t c = search laws

pub put_byte-requires-2 : goal.put_byte-requires-2
put_byte-requires-2 t c = search laws

pub returns : goal.returns
returns t c = search laws
