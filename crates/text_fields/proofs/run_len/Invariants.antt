-- What the loop of `run_len` keeps.
use Rattle.text_fields.proofs.FieldLaws.{Runs}
use Rattle.text_fields.specs.FirstField.{passes_of}
use Rattle.text_fields.proofs.run_len.Given as goal

abbrev pub invariant-loop-i : goal.invariant-loop-i
invariant-loop-i l = Runs (passes_of l.k) l.s l.i
