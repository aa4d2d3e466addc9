-- `number_read::is_date` meets its contract. Assumes nothing.
use borrow.Author.Rules.{rules}
use Rattle.law.specs.Dates.{date_pieces}
use Rattle.number_read.proofs.DateLaws.{date_short, date_is}
use Rattle.number_read.proofs.is_date.Goals as goal

ruleset laws = (rules, date_short)

pub returns-then-s-ne19 : goal.returns-then-s-ne19
returns-then-s-ne19 c = search laws

pub two-requires : goal.two-requires
two-requires c = search laws

pub two-requires-2 : goal.two-requires-2
two-requires-2 c = search laws

pub bounds-s-4 : goal.bounds-s-4
bounds-s-4 c = search laws

pub two-requires-3 : goal.two-requires-3
two-requires-3 c = search laws

pub bounds-s-7 : goal.bounds-s-7
bounds-s-7 c = search laws

pub two-requires-4 : goal.two-requires-4
two-requires-4 c = search laws

pub bounds-s-10 : goal.bounds-s-10
bounds-s-10 c = search laws

pub two-requires-5 : goal.two-requires-5
two-requires-5 c = search laws

pub bounds-s-13 : goal.bounds-s-13
bounds-s-13 c = search laws

pub two-requires-6 : goal.two-requires-6
two-requires-6 c = search laws

pub bounds-s-16 : goal.bounds-s-16
bounds-s-16 c = search laws

pub two-requires-7 : goal.two-requires-7
two-requires-7 c = search laws

pub returns : goal.returns
unfolding date_pieces
returns c = rw (date_is _ c.if-s-ne19.false, c.two.ensures, c.two-2.ensures, c.two-3.ensures, c.two-4.ensures, c.two-5.ensures, c.two-6.ensures, c.two-7.ensures)
