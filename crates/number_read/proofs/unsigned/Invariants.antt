-- What the loop of `unsigned` keeps: the digits that are left give what all of them give.
use Rattle.std.proofs.Common.{◌≡◌, ◌≤◌, drop}
use Rattle.law.specs.Limits.{largest_integer}
use Rattle.number.specs.Integers.{digits, whole_by}
use Rattle.number_read.proofs.unsigned.Given as goal

abbrev pub invariant-loop-b : goal.invariant-loop-b
invariant-loop-b l = record {
  within : l.n ≤ largest_integer;
  answer : whole_by l.neg (digits l.n (drop l.b-index l.s)) ≡ whole_by l.neg (digits 0 l.s);
}
