-- `write_texts::put_capitals` meets its contract. Assumes nothing.
use Rattle.std.proofs.Common.{arith}
use Rattle.write_texts.proofs.WordLaws.{capitals_more, capitals_end}
use Rattle.write_texts.proofs.put_capitals.Goals as goal

pub loop-i-preserved : goal.loop-i-preserved
loop-i-preserved c = (omega arith, capitals_more _ _ _ _ _ _ c.capital_of.ensures c.loop-i-test.true c.loop-i.invariant.1)

pub returns : goal.returns
returns c = capitals_end _ _ _ _ _ c.loop-i-test.false c.loop-i.invariant.1
