-- `basics::same_letters` meets its contract. Assumes nothing.
use mathlib.Core.Path.{◌∙◌}
use Rattle.basics.proofs.Letters.{letters_all}
use Rattle.basics.proofs.same_letters.Goals as goal

pub returns-then-a-b : goal.returns-then-a-b
returns-then-a-b c = c.same_pairs.ensures ∙ letters_all c.args.fold c.args.other c.args.a.now c.args.b.now c.if-a-b.true
