-- `number_print::put_sign` meets its contract. Assumes nothing.
use Rattle.std.proofs.Common.{sym, ◌∙◌}
use Rattle.number_print.proofs.PrintLaws.{below_back, sign_none, sign_minus, minus_room}
use Rattle.number_print.proofs.put_sign.Goals as goal

pub put_byte-requires : goal.put_byte-requires
put_byte-requires c = minus_room c.args.z _ _ (sym (below_back c.args.z c.ranges.z) ∙ sym c.is_below.ensures ∙ c.if-is_below.true) c.requires

pub returns-then-is_below : goal.returns-then-is_below
returns-then-is_below c = sign_minus _ _ _ _ c.args.z (sym (below_back c.args.z c.ranges.z) ∙ sym c.is_below.ensures ∙ c.if-is_below.true) c.put_byte.ensures

pub returns-else-is_below : goal.returns-else-is_below
returns-else-is_below c = sign_none _ _ c.args.z (sym (below_back c.args.z c.ranges.z) ∙ sym c.is_below.ensures ∙ c.if-is_below.false)
