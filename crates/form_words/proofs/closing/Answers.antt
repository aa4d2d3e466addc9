-- `form_words::closing` meets its contract. Assumes nothing.
use native.Mathlib.Omega.{arith}
use Rattle.form_words.specs.Padded.{keyword_table}
use Rattle.form_words.proofs.KeywordLaws.{number_fits, close_found, close_lost}
use Rattle.form_words.proofs.closing.Goals as goal

pub overflow_add-result : goal.overflow_add-result
overflow_add-result c = number_fits _ c.args.s.now c.place_among.result c.in-Some.n (omega arith) c.place_among.ensures c.in-Some.is

pub returns-in-Some : goal.returns-in-Some
unfolding keyword_table
returns-in-Some c = close_found c.args.s.now c.place_among.result c.place_among.ensures c.in-Some.n c.in-Some.is

pub returns-in-None : goal.returns-in-None
unfolding keyword_table
returns-in-None c = close_lost c.args.s.now c.place_among.result c.place_among.ensures c.in-None.is
