-- `names::is_used` meets its contract. Assumes nothing.
use Rattle.names.proofs.NameLaws.{seek_none, seek_late, seek_stop, seek_found, seek_more, seek_over}
use Rattle.names.proofs.is_used.Goals as goal

pub returns-then-n-lt2 : goal.returns-then-n-lt2
returns-then-n-lt2 c = seek_none _ _ _ c.requires c.if-n-lt2.true

pub returns-then-stops : goal.returns-then-stops
returns-then-stops c = seek_stop _ _ _ _ c.loop-t.invariant _ _ c.in-Some.ensures.steps _ c.stops.ensures c.if-stops.true

pub returns-then-names_same : goal.returns-then-names_same
returns-then-names_same c =
    seek_found _ _ _ _ c.loop-t.invariant _ _ c.in-Some.ensures.steps _ c.stops.ensures _ c.names_same.ensures c.if-names_same.true

pub returns-then-n-t : goal.returns-then-n-t
returns-then-n-t c =
    seek_late _ _ _ _ c.loop-t.invariant _ _ c.in-Some.ensures.steps _ c.stops.ensures _ c.names_same.ensures c.if-stops.false c.if-names_same.false
    c.if-n-t.true

pub loop-t-preserved : goal.loop-t-preserved
loop-t-preserved c =
    seek_more _ _ _ _ c.loop-t.invariant _ _ c.in-Some.ensures.steps _ c.stops.ensures _ c.names_same.ensures c.if-stops.false c.if-names_same.false
    c.if-n-t.false

pub returns : goal.returns
returns c = seek_over _ _ _ _ c.loop-t.invariant _ c.in-None.ensures.steps
