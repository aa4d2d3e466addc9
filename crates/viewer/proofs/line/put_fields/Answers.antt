-- `viewer::line::put_fields` meets its contract. Assumes nothing.
use borrow.Author.Rules.{rules}
use Rattle.viewer.proofs.PlaceLaws.{show_start, show_none, show_broken, pair_room, start_small, len_small, start_fits, at_fits, show_less, show_more}
use Rattle.viewer.proofs.line.put_fields.Goals as goal

ruleset laws = (show_start, show_broken, show_more, rules)

pub loop-f-init : goal.loop-f-init
loop-f-init c = search laws

pub overflow_add-base-in-Ok-Some : goal.overflow_add-base-in-Ok-Some
overflow_add-base-in-Ok-Some c = start_fits c.loop-f.invariant c.field.ensures (rw c.in-Ok-Some.field-0-is at c.in-Ok-Some.is) c.requires.0

pub put_pair-requires : goal.put_pair-requires
put_pair-requires c =
    let h = rw c.in-Ok-Some.field-0-is at c.in-Ok-Some.is in
    (pair_room c.loop-f.invariant c.field.ensures h, start_small c.loop-f.invariant c.field.ensures h c.requires.0, len_small c.loop-f.invariant c.field.ensures h c.requires.0)

pub overflow_add-at : goal.overflow_add-at
overflow_add-at c = at_fits c.loop-f.invariant c.field.ensures (rw c.in-Ok-Some.field-0-is at c.in-Ok-Some.is) c.requires.0

pub loop-f-smaller : goal.loop-f-smaller
loop-f-smaller c = show_less c.loop-f.invariant c.field.ensures (rw c.in-Ok-Some.field-0-is at c.in-Ok-Some.is)

pub loop-f-preserved : goal.loop-f-preserved
loop-f-preserved c = search laws

pub returns-in_default : goal.returns-in_default
returns-in_default c = show_none c.loop-f.invariant c.field.ensures (cc)

pub returns-in_default-2 : goal.returns-in_default-2
returns-in_default-2 c = search laws
