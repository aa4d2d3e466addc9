-- `text_fields::count_each` meets its contract. Assumes nothing.
use borrow.Author.Rules.{rules}
use native.Mathlib.Omega.{arith}
use Rattle.std.proofs.lemmas.Grind.{common_steps}
use Rattle.text_fields.proofs.Counting.{count_none, count_bad, next_fits, count_less}
use Rattle.text_fields.proofs.count_each.Goals as goal

pub returns-in_err-f : goal.returns-in_err-f
returns-in_err-f c = grind (arith, common_steps, count_bad c.loop-f.invariant c.in_err-f.ensures)

pub overflow_add-at : goal.overflow_add-at
overflow_add-at c = next_fits c.loop-f.invariant c.in_ok-f.ensures c.in-Some.is (search rules)

pub loop-f-smaller : goal.loop-f-smaller
loop-f-smaller c = count_less c.loop-f.invariant c.in_ok-f.ensures c.in-Some.is

pub returns : goal.returns
returns c = count_none c.loop-f.invariant c.in_ok-f.ensures c.in_default.is
