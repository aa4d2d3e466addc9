-- `write::whole::is_writable` meets its contract. Assumes nothing.
use borrow.Author.Rules.{rules}
use Rattle.write.proofs.WholeLaws.{writable_fallen, writable_not, writable_by}
use Rattle.write.proofs.whole.is_writable.Goals as goal

ruleset laws = (writable_fallen, writable_not, writable_by, rules)

pub rise-requires : goal.rise-requires
rise-requires c = search laws

pub returns-then-not-rise : goal.returns-then-not-rise
returns-then-not-rise c = search laws

pub carry-requires : goal.carry-requires
carry-requires c = search laws

pub some_twice-requires : goal.some_twice-requires
some_twice-requires c = search laws

pub returns-then-carry : goal.returns-then-carry
returns-then-carry c = search laws

pub returns : goal.returns
returns c = search laws
