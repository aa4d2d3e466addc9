-- `same::lists::next_row` meets its contract. Assumes nothing.
use Rattle.same.proofs.NextLaws.{passing_found, passing_stop, passing_more, passing_over}
use Rattle.same.proofs.lists.next_row.Goals as goal

pub returns-then-is_row : goal.returns-then-is_row
returns-then-is_row c = passing_found _ _ c.loop-t.invariant _ _ c.in-Some.ensures.steps _ c.is_row.ensures c.if-is_row.true

pub returns-then-stops : goal.returns-then-stops
returns-then-stops c = passing_stop _ _ c.loop-t.invariant _ _ c.in-Some.ensures.steps _ c.is_row.ensures _ c.stops.ensures c.if-stops.true

pub loop-t-preserved : goal.loop-t-preserved
loop-t-preserved c =
    passing_more _ _ c.loop-t.invariant _ _ c.in-Some.ensures.steps _ c.is_row.ensures _ c.stops.ensures c.if-is_row.false c.if-stops.false

pub returns : goal.returns
returns c = passing_over _ _ c.loop-t.invariant _ c.in_default.ensures.steps
