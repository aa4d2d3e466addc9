-- `judge::parts::+by_parts` meets its contract. Assumes nothing.
use borrow.Author.Rules.{rules}
use Rattle.judge.proofs.PartLaws.{divided_some, divided_less, divided_all, told_last, told_next, next_less}
use Rattle.judge.proofs.parts.+by_parts.Goals as goal

ruleset laws = (divided_some, divided_less, divided_all, told_last, told_next, next_less, rules)

pub of_part-requires : goal.of_part-requires
of_part-requires t c = search laws

pub enum_known-n : goal.enum_known-n
enum_known-n t c = search laws

pub by_parts-requires : goal.by_parts-requires
by_parts-requires t c = search laws

pub enum_known-v : goal.enum_known-v
enum_known-v t c = search laws

pub by_parts-requires-then-part-parts : goal.by_parts-requires-then-part-parts
by_parts-requires-then-part-parts t c = search laws

pub sooner-requires : goal.sooner-requires
sooner-requires t c = search laws

pub returns-then-part-parts : goal.returns-then-part-parts
returns-then-part-parts t c = search laws

pub returns-in-Divided : goal.returns-in-Divided
returns-in-Divided t c = search laws

pub returns-else-part-parts : goal.returns-else-part-parts
returns-else-part-parts t c = search laws
