-- `order_loops::next_loop` meets its contract. Assumes nothing.
use borrow.Author.Rules.{rules}
use Rattle.order_loops.proofs.LoopLaws.{next_is}
use Rattle.order_loops.proofs.next_loop.Goals as goal

pub returns : goal.returns
returns c = search (next_is, rules)
