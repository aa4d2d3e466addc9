-- `number_print::integer_len` meets its contract. Assumes nothing.
use borrow.Author.Rules.{rules}
use Rattle.law.specs.Printing.{whole}
use Rattle.number_print.proofs.PrintLaws.{sum_length, sum_fits}
use Rattle.number_print.proofs.integer_len.Goals as goal

pub overflow_add-result : goal.overflow_add-result
overflow_add-result c = search (rules, sum_fits whole)

pub returns : goal.returns
returns c = search (rules, sum_length whole)
