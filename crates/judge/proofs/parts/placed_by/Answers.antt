-- `judge::parts::placed_by` meets its contract. Assumes nothing.
use borrow.Author.Rules.{rules}
use Rattle.judge.proofs.PlaceLaws.{place_start, place_count, place_stop, place_found, place_more, place_over}
use Rattle.judge.proofs.parts.placed_by.Goals as goal

pub loop-t-init : goal.loop-t-init
loop-t-init c = place_start _ _ _ _ (search rules) (search rules)

pub returns-then-stops : goal.returns-then-stops
returns-then-stops c = place_stop _ _ _ _ _ c.loop-t.invariant _ _ c.in-Some.ensures.steps _ c.stops.ensures _ c.if-stops.true c.verdict.ensures

pub numbered-n-requires : goal.numbered-n-requires
numbered-n-requires c = place_count _ _ _ _ _ c.loop-t.invariant

pub returns-then-is_missed : goal.returns-then-is_missed
returns-then-is_missed c =
    place_found _ _ _ _ _ c.loop-t.invariant _ _ c.in-Some.ensures.steps _ c.stops.ensures _ c.numbered-n.ensures _ c.is_missed.ensures _ _ c.if-is_missed.true
    c.number.ensures c.verdict-then-is_missed.ensures

pub loop-t-preserved : goal.loop-t-preserved
loop-t-preserved c =
    place_more _ _ _ _ _ c.loop-t.invariant _ _ c.in-Some.ensures.steps _ c.stops.ensures _ c.numbered-n.ensures _ c.is_missed.ensures c.if-stops.false
    c.if-is_missed.false

pub returns : goal.returns
returns c = place_over _ _ _ _ _ c.loop-t.invariant _ _ c.in-None.ensures.steps c.verdict-2.ensures
