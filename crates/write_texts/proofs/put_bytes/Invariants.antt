-- What the loop of `put_bytes` keeps.
use Prim.Native.Nat.{◌+◌, ◌≤◌}
use lib.ListN.{length, take}
use Rattle.number_print.specs.Printing.{Wrote}
use Rattle.write_texts.proofs.put_bytes.Given as goal

abbrev pub invariant-loop-i : goal.invariant-loop-i
invariant-loop-i l = (l.i ≤ length l.s) × (Wrote l.initial.out l.out l.at (l.at + l.i) (take l.i l.s))
