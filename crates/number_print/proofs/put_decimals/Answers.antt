-- `number_print::put_decimals` meets its contract. Assumes nothing.
use borrow.Author.Rules.{rules}
use Rattle.number_print.proofs.PrintLaws.{decimals_wrote}
use Rattle.number_print.proofs.put_decimals.Goals as goal

ruleset laws = (rules)

pub digit-requires : goal.digit-requires
digit-requires c = search laws

pub put_byte-a-requires : goal.put_byte-a-requires
put_byte-a-requires c = search laws

pub digit-requires-2 : goal.digit-requires-2
digit-requires-2 c = search laws

pub put_byte-b-requires : goal.put_byte-b-requires
put_byte-b-requires c = search laws

pub digit-requires-3 : goal.digit-requires-3
digit-requires-3 c = search laws

pub put_byte-c-requires : goal.put_byte-c-requires
put_byte-c-requires c = search laws

pub digit-requires-4 : goal.digit-requires-4
digit-requires-4 c = search laws

pub put_byte-d-requires : goal.put_byte-d-requires
put_byte-d-requires c = search laws

pub digit-requires-5 : goal.digit-requires-5
digit-requires-5 c = search laws

pub put_byte-requires : goal.put_byte-requires
put_byte-requires c = search laws

pub shape_of-out : goal.shape_of-out
shape_of-out c = search laws

pub returns : goal.returns
returns c = decimals_wrote _ _ _ _ _ _ _ _ _ _ _ _ _ _ _ _ _ _ c.digit.ensures c.put_byte-a.ensures c.digit-2.ensures c.put_byte-b.ensures c.digit-3.ensures c.put_byte-c.ensures c.digit-4.ensures c.put_byte-d.ensures c.digit-5.ensures c.put_byte.ensures
