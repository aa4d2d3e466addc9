-- What the loops of `put_rows` keep.
use Rattle.read.proofs.RowLaws.{Placing}
use Rattle.read.proofs.lent.put_rows.Given as goal

abbrev pub invariant-loop-t : goal.invariant-loop-t
invariant-loop-t l = Placing l.file l.initial.rows l.rows l.t-iterator l.n
