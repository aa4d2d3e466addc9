-- `write_lines::values::put_value` meets its contract. Assumes nothing.
use borrow.Author.Rules.{rules}
use Rattle.write_lines.proofs.PieceLaws.{room_as, wrote_as, value_text_lem, value_date, lies_text, lies_date, value_integer, value_number, value_word, small_integer, small_number}
use Rattle.write_lines.proofs.values.put_value.Goals as goal

ruleset laws = (room_as, wrote_as, value_text_lem, value_date, lies_text, lies_date, value_integer, value_number, value_word, small_integer, small_number, rules)

pub enum_known-t : goal.enum_known-t
enum_known-t c = search laws

pub put_part-requires : goal.put_part-requires
put_part-requires c = search laws

pub enum_told-1 : goal.enum_told-1
enum_told-1 c = search laws

pub put_date-requires : goal.put_date-requires
put_date-requires c = search laws

pub enum_told-in-Integer : goal.enum_told-in-Integer
enum_told-in-Integer c = search laws

pub put_integer-requires : goal.put_integer-requires
put_integer-requires c = search laws

pub enum_known-t-in-Number-1 : goal.enum_known-t-in-Number-1
enum_known-t-in-Number-1 c = search laws

pub put_number-requires : goal.put_number-requires
put_number-requires c = search laws

pub enum_known-t-in-Word-1 : goal.enum_known-t-in-Word-1
enum_known-t-in-Word-1 c = search laws

pub magnitude-requires : goal.magnitude-requires
magnitude-requires c = search laws

pub word_row-row-requires : goal.word_row-row-requires
word_row-row-requires c = search laws

pub slice_bounds-put_padded-end : goal.slice_bounds-put_padded-end
slice_bounds-put_padded-end c = search laws

pub put_padded-requires : goal.put_padded-requires
put_padded-requires c = search laws

pub shape_of-out-in-Text : goal.shape_of-out-in-Text
shape_of-out-in-Text c = search laws

pub returns-in-Text : goal.returns-in-Text
returns-in-Text c = search laws

pub shape_of-out-in-Date : goal.shape_of-out-in-Date
shape_of-out-in-Date c = search laws

pub returns-in-Date : goal.returns-in-Date
returns-in-Date c = search laws

pub shape_of-out-in-Integer : goal.shape_of-out-in-Integer
shape_of-out-in-Integer c = search laws

pub returns-in-Integer : goal.returns-in-Integer
returns-in-Integer c = search laws

pub shape_of-out-in-Number : goal.shape_of-out-in-Number
shape_of-out-in-Number c = search laws

pub returns-in-Number : goal.returns-in-Number
returns-in-Number c = search laws

pub shape_of-out-in-Word : goal.shape_of-out-in-Word
shape_of-out-in-Word c = search laws

pub returns-in-Word : goal.returns-in-Word
returns-in-Word c = search laws
