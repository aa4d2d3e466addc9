-- What the loop of `Reader::decimals` keeps: the decimals that are left give what all of them give.
use Rattle.std.proofs.Common.{◌≡◌, ◌≤◌, ◌+◌, ◌*◌, ◌/◌, false, drop}
use Rattle.number.specs.Numbers.{decimals}
use Rattle.number_read.proofs.Reader.decimals.Given as goal

abbrev pub invariant-loop-b : goal.invariant-loop-b
invariant-loop-b l = record {
  room : l.count + 10 * l.weight ≤ 10000000000000000;
  answer : decimals l.self.largest l.self.neg l.fine l.weight l.count (drop l.b-index l.s) ≡ decimals l.self.largest l.self.neg false (l.self.unit / 10) l.whole l.s;
}
