-- `write::whole::write` meets its contract. Assumes nothing.
use borrow.Author.Rules.{rules}
use Rattle.write.proofs.WholeLaws.{write_fifteen, kept_fifteen, all_fit_lem, write_one, kept_one, write_fourteen, kept_fourteen, text_room, write_zero, text_put}
use Rattle.write.proofs.whole.write.Goals as goal

ruleset laws = (write_fifteen, kept_fifteen, all_fit_lem, write_one, kept_one, write_fourteen, kept_fourteen, text_room, write_zero, text_put, rules)

pub is_writable-requires : goal.is_writable-requires
is_writable-requires c = search laws

pub answer-requires : goal.answer-requires
answer-requires c = search laws

pub returns-then-not-is_writable : goal.returns-then-not-is_writable
returns-then-not-is_writable c = search laws

pub text_len-n-requires : goal.text_len-n-requires
text_len-n-requires c = search laws

pub answer-requires-then-n-gt-LIMIT : goal.answer-requires-then-n-gt-LIMIT
answer-requires-then-n-gt-LIMIT c = search laws

pub returns-then-n-gt-LIMIT : goal.returns-then-n-gt-LIMIT
returns-then-n-gt-LIMIT c = search laws

pub answer-requires-then-out-n : goal.answer-requires-then-out-n
answer-requires-then-out-n c = search laws

pub returns-then-out-n : goal.returns-then-out-n
returns-then-out-n c = search laws

pub put_text-requires : goal.put_text-requires
put_text-requires c = search laws

pub answer-requires-2 : goal.answer-requires-2
answer-requires-2 c = search laws

pub shape_of-out : goal.shape_of-out
shape_of-out c = search laws

pub returns : goal.returns
returns c = search laws
