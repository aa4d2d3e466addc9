-- `number_print::count_len` meets its contract. Assumes nothing.
use borrow.Author.Rules.{rules}
use Rattle.law.specs.Printing.{decimal}
use Rattle.number_print.proofs.PrintLaws.{sum_length, sum_fits}
use Rattle.number_print.proofs.count_len.Goals as goal

pub overflow_add-result : goal.overflow_add-result
overflow_add-result c = search (rules, sum_fits decimal)

pub returns : goal.returns
returns c = search (rules, sum_length decimal)
