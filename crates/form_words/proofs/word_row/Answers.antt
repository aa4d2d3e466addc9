-- `form_words::word_row` meets its contract. Assumes nothing.
use Rattle.std.proofs.Common.{rules}
use Rattle.std.proofs.lemmas.Option.{unwrap_or-slice_get}
use Rattle.form_words.specs.Padded.{word_row, no_word}
use Rattle.form_words.proofs.word_row.Goals as goal

pub returns : goal.returns
unfolding word_row no_word
returns c = search (rules, unwrap_or-slice_get)
