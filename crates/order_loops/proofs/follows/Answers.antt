-- `order_loops::follows` meets its contract. Assumes nothing.
use borrow.Author.Rules.{rules}
use Rattle.order_loops.proofs.LoopLaws.{follows_is}
use Rattle.order_loops.proofs.follows.Goals as goal

pub returns : goal.returns
returns c = search (follows_is, rules)
