-- What the loop of `line_feed` keeps.
use Rattle.text.proofs.LineFeeds.{Seeking}
use Rattle.text.proofs.line_feed.Given as goal

abbrev pub invariant-loop-i : goal.invariant-loop-i
invariant-loop-i l = Seeking l.s l.i
