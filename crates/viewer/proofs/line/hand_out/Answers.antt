-- `viewer::line::hand_out` meets its contract. Assumes nothing.
use borrow.Author.Rules.{rules}
use Rattle.viewer.proofs.ReplyLaws.{reply_refused, kept_refused, reply_short, kept_short, put_room, reply_whole, put_whole}
use Rattle.viewer.proofs.line.hand_out.Goals as goal

ruleset laws = (reply_refused, kept_refused, reply_short, kept_short, put_room, reply_whole, put_whole, rules)

pub returns-then-out-n-clause-value : goal.returns-then-out-n-clause-value
returns-then-out-n-clause-value c = rw c.number-then-out-n.ensures (search laws)

pub returns-then-out-n-clause-out_after : goal.returns-then-out-n-clause-out_after
returns-then-out-n-clause-out_after c = search laws

pub put_fields-requires : goal.put_fields-requires
put_fields-requires c = search laws

pub returns-in-Err-clause-value : goal.returns-in-Err-clause-value
returns-in-Err-clause-value c = search laws

pub returns-in-Err-clause-out_after : goal.returns-in-Err-clause-out_after
returns-in-Err-clause-out_after c = search laws

pub returns-else-out-n-clause-value : goal.returns-else-out-n-clause-value
returns-else-out-n-clause-value c = search laws

pub returns-else-out-n-clause-out_after : goal.returns-else-out-n-clause-out_after
returns-else-out-n-clause-out_after c = search laws
