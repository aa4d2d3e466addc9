-- `number_print::numeral_len` meets its contract. Assumes nothing.
use Rattle.number_print.proofs.PrintLaws.{log_count}
use Rattle.number_print.proofs.numeral_len.Goals as goal

pub returns : goal.returns
returns c =
    let e = c.checked_ilog10.ensures in
    rw c.unwrap_or.ensures (log_count c.args.n c.checked_ilog10.result c.requires e.none e.power_le e.next_power_gt)
