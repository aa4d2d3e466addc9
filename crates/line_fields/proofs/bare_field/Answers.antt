-- `line_fields::bare_field` meets its contract. Assumes nothing.
use borrow.Author.Rules.{rules}
use Rattle.line_fields.proofs.FieldLaws.{field_text, field_date, field_integer, field_number, field_word}
use Rattle.line_fields.proofs.bare_field.Goals as goal

ruleset laws = (field_text, field_date, field_integer, field_number, field_word, rules)

pub enum_known-t : goal.enum_known-t
enum_known-t c = search laws

pub text_field-requires : goal.text_field-requires
text_field-requires c = search laws

pub enum_told-1 : goal.enum_told-1
enum_told-1 c = search laws

pub date_field-requires : goal.date_field-requires
date_field-requires c = search laws

pub enum_told-in-Integer : goal.enum_told-in-Integer
enum_told-in-Integer c = search laws

pub integer_field-requires : goal.integer_field-requires
integer_field-requires c = search laws

pub enum_known-t-in-Number-1 : goal.enum_known-t-in-Number-1
enum_known-t-in-Number-1 c = search laws

pub count_field-requires : goal.count_field-requires
count_field-requires c = search laws

pub enum_known-t-in-Word-1 : goal.enum_known-t-in-Word-1
enum_known-t-in-Word-1 c = search laws

pub word_field-requires : goal.word_field-requires
word_field-requires c = search laws

pub returns-in-Text : goal.returns-in-Text
returns-in-Text c = search laws

pub returns-in-Date : goal.returns-in-Date
returns-in-Date c = search laws

pub returns-in-Integer : goal.returns-in-Integer
returns-in-Integer c = search laws

pub returns-in-Number : goal.returns-in-Number
returns-in-Number c = search laws

pub returns-in-Word : goal.returns-in-Word
returns-in-Word c = search laws
