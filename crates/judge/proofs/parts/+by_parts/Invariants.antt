-- Why `by_parts`, which calls itself, ends.
use Rattle.judge.proofs.PartLaws.{left}
use Rattle.judge.proofs.parts.+by_parts.Given as goal

abbrev pub decreases-by_parts : goal.decreases-by_parts
decreases-by_parts l = left l.parts l.part
