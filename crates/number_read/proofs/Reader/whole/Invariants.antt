-- What the loop of `Reader::whole` keeps: the digits that are left give what all of them give.
use Rattle.std.proofs.Common.{◌≡◌, ◌≤◌, drop}
use Rattle.number.specs.Numbers.{whole}
use Rattle.number_read.proofs.Reader.whole.Given as goal

abbrev pub invariant-loop-at : goal.invariant-loop-at
invariant-loop-at l = record {
  within : l.n ≤ l.self.largest;
  answer : whole l.self.largest l.self.unit l.self.neg l.n (drop l.at l.s) ≡ whole l.self.largest l.self.unit l.self.neg 0 l.s;
}
