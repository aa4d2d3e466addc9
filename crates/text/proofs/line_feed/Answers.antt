-- `text::line_feed` meets its contract. Assumes nothing.
use borrow.Author.Rules.{rules}
use Rattle.text.proofs.LineFeeds.{seek_more, seek_stop, seek_over}
use Rattle.text.proofs.line_feed.Goals as goal

ruleset laws = (seek_more, seek_stop, seek_over, rules)

pub returns-then-b-eq10 : goal.returns-then-b-eq10
returns-then-b-eq10 c = search laws

pub loop-i-preserved : goal.loop-i-preserved
loop-i-preserved c = search laws

pub returns : goal.returns
returns c = search laws
