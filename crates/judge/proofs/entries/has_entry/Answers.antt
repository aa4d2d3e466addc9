-- `judge::entries::has_entry` meets its contract. Assumes nothing.
use borrow.Author.Rules.{rules}
use Rattle.judge.proofs.EntryLaws.{seek_start, seek_stop, seek_found, seek_more, seek_over}
use Rattle.judge.proofs.entries.has_entry.Goals as goal

pub loop-t-init : goal.loop-t-init
loop-t-init c = seek_start _ _ _ _ _ (search rules) (search rules)

pub returns-then-stops : goal.returns-then-stops
returns-then-stops c = seek_stop _ _ _ (search rules) _ _ c.loop-t.invariant _ _ c.in-Some.ensures.steps _ c.stops.ensures c.if-stops.true

pub returns-then-is_entry : goal.returns-then-is_entry
returns-then-is_entry c = seek_found _ _ _ (search rules) _ _ c.loop-t.invariant _ _ c.in-Some.ensures.steps _ c.is_entry.ensures c.if-is_entry.true

pub loop-t-preserved : goal.loop-t-preserved
loop-t-preserved c =
    seek_more _ _ _ _ _ c.loop-t.invariant _ _ c.in-Some.ensures.steps _ c.is_entry.ensures _ c.stops.ensures c.if-stops.false c.if-is_entry.false

pub returns : goal.returns
returns c = seek_over _ _ _ (search rules) _ _ c.loop-t.invariant _ c.in-None.ensures.steps
