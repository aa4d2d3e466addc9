-- `write_texts::needs_quotes` meets its contract. Assumes nothing.
use Rattle.law.specs.Bytes.{all_of}
use Rattle.law.specs.Canonical.{no_space}
use Rattle.std.proofs.Common.{refl}
use Rattle.write_texts.proofs.WordLaws.{quotes_empty, quotes_space, quotes_first}
use Rattle.write_texts.proofs.needs_quotes.Goals as goal
use Rattle.write_texts.proofs.needs_quotes.Goals.{then-is_empty-via-then-is_empty, then-is_empty-via-else-is_empty+then-not-no_space}

pub returns-then-is_empty : goal.returns-then-is_empty
returns-then-is_empty c = elim c.then-is_empty.branch [
  | then-is_empty-via-then-is_empty w ↦ quotes_empty _ _ (all_of no_space c.args.s.now) c.is_empty.ensures refl w.if-is_empty.true
  | then-is_empty-via-else-is_empty+then-not-no_space w ↦ quotes_space _ _ _ c.is_empty.ensures w.no_space.ensures w.if-is_empty.false w.if-not-no_space.true
]

pub returns : goal.returns
returns c = quotes_first _ _ _ c.is_empty.ensures c.no_space.ensures _ _ c.if-is_empty.false c.if-not-no_space.false c.begins_with.ensures c.begins_with-2.ensures
