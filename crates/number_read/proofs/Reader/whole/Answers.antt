-- The slice behind a point is the list from there on.
use Rattle.std.proofs.Common.{◌+◌, arith}
use Rattle.number_read.proofs.NumberLaws.{rest_is, whole_point, whole_bare, whole_bad}
use Rattle.number_read.proofs.Reader.whole.Goals as goal
use Rattle.number_read.proofs.Reader.whole.Goals.{else-b-eq46-via-then-b-eq46+else-starts_with_digit, else-b-eq46-via-else-b-eq46}

pub returns-then-starts_with_digit : goal.returns-then-starts_with_digit
returns-then-starts_with_digit c =
    let k = rw (rest_is c.args.s.now (c.loop-at.at + 1)) at c.starts_with_digit.ensures in
    let h = rw (rest_is c.args.s.now (c.loop-at.at + 1)) at c.decimals.ensures in
    grind (arith, whole_point)

pub returns-then-not-is_digit : goal.returns-then-not-is_digit
returns-then-not-is_digit c = elim c.else-b-eq46.branch [
  | else-b-eq46-via-then-b-eq46+else-starts_with_digit w ↦
      let k = rw (rest_is c.args.s.now (c.loop-at.at + 1)) at w.starts_with_digit.ensures in
      grind (arith, whole_bare)
  | else-b-eq46-via-else-b-eq46 w ↦ grind (arith, whole_bad)
]
