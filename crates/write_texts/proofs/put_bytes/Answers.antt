-- `write_texts::put_bytes` meets its contract. Assumes nothing.
use Rattle.std.proofs.Common.{arith}
use Rattle.write_texts.proofs.WordLaws.{copy_more, copy_end}
use Rattle.write_texts.proofs.put_bytes.Goals as goal

pub loop-i-preserved : goal.loop-i-preserved
loop-i-preserved c = (omega arith, copy_more _ _ _ _ _ c.loop-i-test.true c.loop-i.invariant.1)

pub returns : goal.returns
returns c = copy_end _ _ _ _ _ c.loop-i-test.false c.loop-i.invariant.1
