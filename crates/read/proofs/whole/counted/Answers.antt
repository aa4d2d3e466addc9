-- `read::whole::counted` meets its contract. Assumes nothing.
use borrow.Author.Rules.{rules}
use Rattle.read.proofs.ReplyLaws.{counted_row, counted_nothing, counted_refused}
use Rattle.read.proofs.whole.counted.Goals as goal

ruleset laws = (counted_row, counted_nothing, counted_refused, rules)

pub enum_told-1 : goal.enum_told-1
enum_told-1 c = search laws

pub enum_told-in-Nothing : goal.enum_told-in-Nothing
enum_told-in-Nothing c = search laws

pub enum_known-f : goal.enum_known-f
enum_known-f c = search laws

pub refusal-requires : goal.refusal-requires
refusal-requires c = search laws

pub returns-in-Row : goal.returns-in-Row
returns-in-Row c = search laws

pub returns-in-Nothing : goal.returns-in-Nothing
returns-in-Nothing c = search laws

pub returns-in-Refused : goal.returns-in-Refused
returns-in-Refused c = search laws
