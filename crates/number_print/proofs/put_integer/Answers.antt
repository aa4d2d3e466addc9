-- `number_print::put_integer` meets its contract. Assumes nothing.
use borrow.Author.Rules.{rules}
use Rattle.law.specs.Printing.{whole}
use Rattle.number_print.proofs.PrintLaws.{sign_room, digits_room, signed_wrote, mag_top}
use Rattle.number_print.proofs.put_integer.Goals as goal

pub put_sign-a-requires : goal.put_sign-a-requires
put_sign-a-requires c = search (rules, sign_room whole)

pub put_numeral-requires : goal.put_numeral-requires
put_numeral-requires c = search (rules, mag_top, digits_room whole)

pub returns : goal.returns
returns c = search (rules, signed_wrote whole)
