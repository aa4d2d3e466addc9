-- `names::repeat_by` meets its contract. Assumes nothing.
use Rattle.names.proofs.DoubtLaws.{decide_over, decide_tells, decide_stop, decide_found, decide_more}
use Rattle.names.proofs.repeat_by.Goals as goal

pub returns-then-stops : goal.returns-then-stops
returns-then-stops c = decide_stop _ _ _ _ _ c.loop-t.invariant _ _ c.in-Some.ensures.steps _ c.stops.ensures c.if-stops.true

pub repeats-requires : goal.repeats-requires
repeats-requires c = (c.requires.0, decide_tells _ _ _ _ _ c.loop-t.invariant _ _ c.in-Some.ensures.steps)

pub returns-then-repeats : goal.returns-then-repeats
returns-then-repeats c =
    decide_found _ _ _ _ _ c.loop-t.invariant _ _ c.in-Some.ensures.steps _ c.stops.ensures _ c.repeats.ensures.value c.if-repeats.true

pub loop-t-preserved : goal.loop-t-preserved
loop-t-preserved c =
    decide_more _ _ _ _ _ c.loop-t.invariant _ _ c.in-Some.ensures.steps _ c.stops.ensures _ c.repeats.ensures.value _ c.repeats.ensures.marks_after
    c.if-stops.false c.if-repeats.false

pub returns : goal.returns
returns c = decide_over _ _ _ _ _ c.loop-t.invariant _ c.in-None.ensures.steps
