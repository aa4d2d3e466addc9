-- `write_columns::field_fits` meets its contract. Assumes nothing.
use borrow.Author.Rules.{rules}
use Rattle.write_columns.proofs.ColumnLaws.{field_text, field_date, field_integer, field_number, field_word}
use Rattle.write_columns.proofs.field_fits.Goals as goal

ruleset laws = (field_text, field_date, field_integer, field_number, field_word, rules)

pub enum_told-1 : goal.enum_told-1
enum_told-1 c = search laws

pub range_fits-requires : goal.range_fits-requires
range_fits-requires c = search laws

pub enum_told-in-Date : goal.enum_told-in-Date
enum_told-in-Date c = search laws

pub range_fits-requires-in-Date : goal.range_fits-requires-in-Date
range_fits-requires-in-Date c = search laws

pub enum_told-in-Integer : goal.enum_told-in-Integer
enum_told-in-Integer c = search laws

pub integer_fits-requires : goal.integer_fits-requires
integer_fits-requires c = search laws

pub enum_known-t : goal.enum_known-t
enum_known-t c = search laws

pub is_within-requires : goal.is_within-requires
is_within-requires c = search laws

pub enum_known-t-in-Word-1 : goal.enum_known-t-in-Word-1
enum_known-t-in-Word-1 c = search laws

pub word_fits-requires : goal.word_fits-requires
word_fits-requires c = search laws

pub returns-in-Text : goal.returns-in-Text
returns-in-Text c = search laws

pub returns-in-Date : goal.returns-in-Date
returns-in-Date c = search laws

pub returns-in-Integer : goal.returns-in-Integer
returns-in-Integer c = search laws

pub returns-in-Number : goal.returns-in-Number
returns-in-Number c = search laws

pub returns-in-Word : goal.returns-in-Word
returns-in-Word c = search laws
