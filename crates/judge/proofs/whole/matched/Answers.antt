-- `judge::whole::matched` meets its contract. Assumes nothing.
use borrow.Author.Rules.{rules}
use Rattle.judge.proofs.VerdictLaws.{first_wrong, second_wrong, both_right}
use Rattle.judge.proofs.whole.matched.Goals as goal

ruleset laws = (first_wrong, second_wrong, both_right, rules)

pub is_library-requires : goal.is_library-requires
is_library-requires c = search laws

pub verdict-requires : goal.verdict-requires
verdict-requires c = search laws

pub returns-then-is_library : goal.returns-then-is_library
returns-then-is_library c = search laws

pub is_library-requires-2 : goal.is_library-requires-2
is_library-requires-2 c = search laws

pub verdict-requires-then-not-is_library : goal.verdict-requires-then-not-is_library
verdict-requires-then-not-is_library c = search laws

pub returns-then-not-is_library : goal.returns-then-not-is_library
returns-then-not-is_library c = search laws

pub placed-requires : goal.placed-requires
placed-requires c = search laws

pub returns : goal.returns
returns c = search laws
