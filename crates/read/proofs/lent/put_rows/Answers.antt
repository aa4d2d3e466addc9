-- `read::lent::put_rows` meets its contract. Assumes nothing.
use borrow.Author.Rules.{rules}
use Rattle.read.proofs.RowLaws.{place_start, place_stop, turn_room, place_more, place_over}
use Rattle.read.proofs.lent.put_rows.Goals as goal

pub loop-t-init : goal.loop-t-init
loop-t-init c = search (place_start, rules)

pub returns-then-stops : goal.returns-then-stops
returns-then-stops c = place_stop _ _ _ _ _ c.loop-t.invariant _ _ c.in-Some.ensures.steps _ c.stops.ensures c.if-stops.true

pub put_turn-n-requires : goal.put_turn-n-requires
put_turn-n-requires c = turn_room _ _ _ _ _ c.loop-t.invariant _ _ c.in-Some.ensures.steps

pub loop-t-preserved : goal.loop-t-preserved
loop-t-preserved c =
    place_more _ _ _ _ _ c.loop-t.invariant _ _ c.in-Some.ensures.steps _ c.stops.ensures _ _ c.if-stops.false c.put_turn-n.ensures.value
    c.put_turn-n.ensures.rows_after

pub returns : goal.returns
returns c = place_over _ _ _ _ _ c.loop-t.invariant _ c.in-None.ensures.steps
