-- `write_columns::holds_bytes` meets its contract. Assumes nothing.
use borrow.Author.Rules.{rules}
use Rattle.write_columns.proofs.ColumnLaws.{holds_text, holds_date, holds_integer, holds_number, holds_word}
use Rattle.write_columns.proofs.holds_bytes.Goals as goal

ruleset laws = (holds_text, holds_date, holds_integer, holds_number, holds_word, rules)

pub enum_known-t : goal.enum_known-t
enum_known-t c = search laws

pub is_barred-requires : goal.is_barred-requires
is_barred-requires c = search laws

pub is_text-requires : goal.is_text-requires
is_text-requires c = search laws

pub enum_told-1 : goal.enum_told-1
enum_told-1 c = search laws

pub is_date-requires : goal.is_date-requires
is_date-requires c = search laws

pub enum_told-in-Integer : goal.enum_told-in-Integer
enum_told-in-Integer c = search laws

pub enum_told-in-Number : goal.enum_told-in-Number
enum_told-in-Number c = search laws

pub enum_told-in-Word : goal.enum_told-in-Word
enum_told-in-Word c = search laws

pub returns-in-Text : goal.returns-in-Text
returns-in-Text c = search laws

pub returns-in-Date : goal.returns-in-Date
returns-in-Date c = search laws

pub returns-in-Integer : goal.returns-in-Integer
returns-in-Integer c = search laws

pub returns-in-Number : goal.returns-in-Number
returns-in-Number c = search laws

pub returns-in-Word : goal.returns-in-Word
returns-in-Word c = search laws
