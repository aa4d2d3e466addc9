-- `number_print::sign_len` meets its contract. Assumes nothing.
use Rattle.std.proofs.Common.{◌∙◌}
use Rattle.number_print.proofs.PrintLaws.{as_byte, below_back}
use Rattle.number_print.proofs.sign_len.Goals as goal

pub returns : goal.returns
returns c = as_byte c.args.z _ _ c.from.ensures (c.is_below.ensures ∙ below_back c.args.z c.ranges.z)
