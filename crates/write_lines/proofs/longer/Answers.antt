-- `write_lines::longer` meets its contract. Assumes nothing.
use borrow.Author.Rules.{rules}
use Rattle.write_lines.proofs.PieceLaws.{longer_far, longer_over, longer_in}
use Rattle.write_lines.proofs.longer.Goals as goal

ruleset laws = (longer_far, longer_over, longer_in, rules)

pub overflow_add-result : goal.overflow_add-result
overflow_add-result c = search laws

pub returns-then-n-gt-LIMIT : goal.returns-then-n-gt-LIMIT
returns-then-n-gt-LIMIT c = search laws

pub overflow_add-s : goal.overflow_add-s
overflow_add-s c = search laws

pub returns-then-s-gt-LIMIT : goal.returns-then-s-gt-LIMIT
returns-then-s-gt-LIMIT c = search laws

pub returns : goal.returns
returns c = search laws
