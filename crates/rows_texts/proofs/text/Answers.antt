-- `rows_texts::text` meets its contract. Assumes nothing.
use borrow.Author.Rules.{rules}
use Rattle.rows_texts.proofs.TextLaws.{text_part}
use Rattle.rows_texts.proofs.text.Goals as goal

pub returns : goal.returns
returns c = text_part c.args.file.now c.args.start c.args.len c.magnitude.result c.magnitude-2.result c.min.result c.min-2.result (search rules) (search rules) (search rules) (search rules)
