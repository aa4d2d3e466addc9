-- `write_lines::values::version_len` meets its contract. Assumes nothing.
use borrow.Author.Rules.{rules}
use Rattle.write_lines.proofs.PieceLaws.{version_len}
use Rattle.write_lines.proofs.values.version_len.Goals as goal

ruleset laws = (version_len, rules)

pub returns : goal.returns
returns c = search laws
