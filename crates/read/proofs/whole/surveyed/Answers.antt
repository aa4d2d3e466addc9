-- `read::whole::surveyed` meets its contract. Assumes nothing.
use borrow.Author.Rules.{rules}
use Rattle.read.proofs.MarkLaws.{check_start, check_count, check_room, check_over, check_doubted, check_typed, check_stop, check_untyped, check_stopped, check_more}
use Rattle.read.proofs.whole.surveyed.Goals as goal

pub loop-t-init : goal.loop-t-init
loop-t-init c = search (check_start, rules)

pub counted-r-requires : goal.counted-r-requires
counted-r-requires c = check_count _ _ _ _ _ _ _ _ _ c.loop-t.invariant

pub returns-then-stops : goal.returns-then-stops
returns-then-stops c = record {
  reply_value = check_stop _ _ _ _ _ _ _ _ _ c.loop-t.invariant _ _ c.in-Some.ensures.steps _ c.stops.ensures _ c.counted-r.ensures c.if-stops.true;
  file_value = check_untyped _ _ _ _ _ _ _ _ _ c.loop-t.invariant _ _ c.in-Some.ensures.steps _ c.stops.ensures _ c.counted-r.ensures c.if-stops.true;
  doubted = check_stopped _ _ _ _ _ _ _ _ _ c.loop-t.invariant _ _ c.in-Some.ensures.steps _ c.stops.ensures c.if-stops.true;
}

pub is_doubtful-doubtful-requires : goal.is_doubtful-doubtful-requires
is_doubtful-doubtful-requires c = check_room _ _ _ _ _ _ _ _ _ c.loop-t.invariant

pub loop-t-preserved : goal.loop-t-preserved
loop-t-preserved c =
    check_more _ _ _ _ _ _ _ _ _ c.loop-t.invariant _ _ c.in-Some.ensures.steps _ c.stops.ensures _ _ _ _ _ c.counted-r.ensures c.if-stops.false
    c.names_component-named.ensures c.is_doubtful-doubtful.ensures.value c.is_doubtful-doubtful.ensures.marks_after c.is_doubtful-doubtful.ensures.doubts_after

pub returns : goal.returns
returns c = record {
  reply_value = check_over _ _ _ _ _ _ _ _ _ c.loop-t.invariant _ c.in-None.ensures.steps _ c.ended.ensures;
  file_value = check_typed _ _ _ _ _ _ _ _ _ c.loop-t.invariant _ c.in-None.ensures.steps _ c.type_at.ensures;
  doubted = check_doubted _ _ _ _ _ _ _ _ _ c.loop-t.invariant _ c.in-None.ensures.steps;
}
