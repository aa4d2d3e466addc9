-- `write_lines::values::value_len` meets its contract. Assumes nothing.
use borrow.Author.Rules.{rules}
use Rattle.write_lines.proofs.PieceLaws.{length_as, value_text_lem, lies_text, date_length, value_integer, value_number, value_word, small_integer, small_number}
use Rattle.write_lines.proofs.values.value_len.Goals as goal

ruleset laws = (length_as, value_text_lem, lies_text, date_length, value_integer, value_number, value_word, small_integer, small_number, rules)

pub enum_known-t : goal.enum_known-t
enum_known-t c = search laws

pub part_len-requires : goal.part_len-requires
part_len-requires c = search laws

pub enum_told-1 : goal.enum_told-1
enum_told-1 c = search laws

pub magnitude-requires : goal.magnitude-requires
magnitude-requires c = search laws

pub enum_told-in-Integer : goal.enum_told-in-Integer
enum_told-in-Integer c = search laws

pub integer_len-requires : goal.integer_len-requires
integer_len-requires c = search laws

pub enum_known-t-in-Number-1 : goal.enum_known-t-in-Number-1
enum_known-t-in-Number-1 c = search laws

pub number_len-requires : goal.number_len-requires
number_len-requires c = search laws

pub enum_known-t-in-Word-1 : goal.enum_known-t-in-Word-1
enum_known-t-in-Word-1 c = search laws

pub magnitude-requires-in-Word : goal.magnitude-requires-in-Word
magnitude-requires-in-Word c = search laws

pub word_row-row-requires : goal.word_row-row-requires
word_row-row-requires c = search laws

pub slice_bounds-padded_len-end : goal.slice_bounds-padded_len-end
slice_bounds-padded_len-end c = search laws

pub padded_len-requires : goal.padded_len-requires
padded_len-requires c = search laws

pub returns-in-Text : goal.returns-in-Text
returns-in-Text c = search laws

pub returns-in-Date : goal.returns-in-Date
returns-in-Date c = search laws

pub returns-in-Integer : goal.returns-in-Integer
returns-in-Integer c = search laws

pub returns-in-Number : goal.returns-in-Number
returns-in-Number c = search laws

pub returns-in-Word : goal.returns-in-Word
returns-in-Word c = search laws
