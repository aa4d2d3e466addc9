-- What the loops of `put_text` keep.
use Rattle.write.proofs.TextLaws.{Writing}
use Rattle.write.proofs.texts.put_text.Given as goal

abbrev pub invariant-loop-i : goal.invariant-loop-i
invariant-loop-i l = Writing l.v l.rows l.bytes l.initial.out l.out l.at l.i
