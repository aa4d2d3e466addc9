-- `number_print::put_count` meets its contract. Assumes nothing.
use borrow.Author.Rules.{rules}
use Rattle.law.specs.Printing.{decimal}
use Rattle.number_print.proofs.PrintLaws.{sign_room, digits_room, signed_wrote, mag_small}
use Rattle.number_print.proofs.put_count.Goals as goal

pub put_sign-a-requires : goal.put_sign-a-requires
put_sign-a-requires c = search (rules, sign_room decimal)

pub put_magnitude-requires : goal.put_magnitude-requires
put_magnitude-requires c = search (rules, mag_small, digits_room decimal)

pub returns : goal.returns
returns c = search (rules, signed_wrote decimal)
