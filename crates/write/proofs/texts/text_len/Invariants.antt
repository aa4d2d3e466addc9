-- What the loops of `text_len` keep.
use Rattle.write.proofs.TextLaws.{Counting}
use Rattle.write.proofs.texts.text_len.Given as goal

abbrev pub invariant-loop-i : goal.invariant-loop-i
invariant-loop-i l = Counting l.v l.rows l.bytes l.sum l.i
