-- `same::lists::same_lists` meets its contract. Assumes nothing.
use Rattle.same.proofs.ListLaws.{abreast_start, abreast_end, abreast_alone, abreast_differ, abreast_more}
use Rattle.same.proofs.lists.same_lists.Goals as goal

pub loop-x-init : goal.loop-x-init
loop-x-init c = abreast_start _ _ _ _ _ c.of-left.ensures.whole c.of-left.ensures.first c.of-right.ensures.whole c.of-right.ensures.first

pub returns-in-None : goal.returns-in-None
returns-in-None c = abreast_alone _ _ _ _ _ c.loop-x.invariant _ _ c.in-Some.ensures _ c.in-None.ensures

pub returns-then-not-same_row : goal.returns-then-not-same_row
returns-then-not-same_row c =
    abreast_differ _ _ _ _ _ c.loop-x.invariant _ _ c.in-Some.ensures _ _ c.in-Some-next_row.ensures _ c.same_row.ensures c.if-not-same_row.true

pub loop-x-preserved : goal.loop-x-preserved
loop-x-preserved c =
    abreast_more _ _ _ _ _ c.loop-x.invariant _ _ c.in-Some.ensures _ _ c.in-Some-next_row.ensures _ c.same_row.ensures c.if-not-same_row.false

pub returns : goal.returns
returns c = abreast_end _ _ _ _ _ c.loop-x.invariant _ _ _ _ c.in_default.ensures c.next_row-2.ensures c.is_none.ensures
