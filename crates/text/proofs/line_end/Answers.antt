-- `text::line_end` meets its contract. Assumes nothing.
use borrow.Author.Rules.{rules}
use Rattle.text.proofs.LineFeeds.{line_over, line_two, line_one, line_empty}
use Rattle.text.proofs.line_end.Goals as goal
use Rattle.text.proofs.line_end.Goals.{then-i-gt0+then-s-i-eq13, else-i-gt0, else-i-gt0-via-then-i-gt0+else-s-i-eq13, else-i-gt0-via-else-i-gt0}

ruleset laws = (line_over, line_two, line_one, line_empty, rules)

pub returns-then-s-i : goal.returns-then-s-i
returns-then-s-i c = search laws

pub returns : goal.returns
returns c =
    elim c.if-i-gt0.branch [
      | then-i-gt0+then-s-i-eq13 w ↦ rw w.content-is (search laws)
      | else-i-gt0 w ↦ rw w.content-is (elim w.else-i-gt0.branch [ else-i-gt0-via-then-i-gt0+else-s-i-eq13 w' ↦ search laws | else-i-gt0-via-else-i-gt0 w' ↦ search laws ])
    ]
