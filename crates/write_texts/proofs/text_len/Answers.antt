-- `write_texts::text_len` meets its contract. Assumes nothing.
use borrow.Author.Rules.{rules}
use Rattle.write_texts.proofs.WordLaws.{quoted_len, bare_len}
use Rattle.write_texts.proofs.text_len.Goals as goal

ruleset laws = (quoted_len, bare_len, rules)

pub needs_quotes-requires : goal.needs_quotes-requires
needs_quotes-requires c = search laws

pub overflow_add-result : goal.overflow_add-result
overflow_add-result c = search laws

pub returns-then-needs_quotes : goal.returns-then-needs_quotes
returns-then-needs_quotes c = search laws

pub returns : goal.returns
returns c = search laws
