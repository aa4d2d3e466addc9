-- `line_rows::columns::put_field` meets its contract. Assumes nothing.
use borrow.Author.Rules.{rules}
use Rattle.line_rows.proofs.FillLaws.{number_room, number_put, word_fits_lem, word_room, word_put, text_fits, text_room, text_start, text_length_lem, text_put, refused_put}
use Rattle.line_rows.proofs.columns.put_field.Goals as goal

ruleset laws = (rules, number_room, number_put, word_fits_lem, word_room, word_put, text_fits, text_room, text_start, text_length_lem, text_put, refused_put)

pub overflow_cast-n : goal.overflow_cast-n
overflow_cast-n c = search (laws, c.in_ok-z.was)

pub overflow_add-base : goal.overflow_add-base
overflow_add-base c = search (laws, c.in_ok-z.was)

pub put_text-requires : goal.put_text-requires
put_text-requires c = search (laws, c.in_ok-z.was)

pub returns-in-Word : goal.returns-in-Word
returns-in-Word c = search (laws, c.in_ok-z.was)
