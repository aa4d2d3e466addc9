-- `number_print::magnitude_len` meets its contract. Assumes nothing.
use borrow.Author.Rules.{rules}
use Rattle.number_print.proofs.PrintLaws.{point_length, point_fits}
use Rattle.number_print.proofs.magnitude_len.Goals as goal

ruleset laws = (point_length, point_fits, rules)

pub numeral_len-requires : goal.numeral_len-requires
numeral_len-requires c = search laws

pub overflow_add-result : goal.overflow_add-result
overflow_add-result c = search laws

pub returns : goal.returns
returns c = search laws
