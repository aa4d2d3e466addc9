-- `form_words::read_keyword` meets its contract. Assumes nothing.
use native.Mathlib.Omega.{arith}
use Rattle.form_words.specs.Padded.{keyword_table}
use Rattle.form_words.proofs.KeywordLaws.{number_fits, key_none, key_open, key_close}
use Rattle.form_words.proofs.read_keyword.Goals as goal

pub returns-in_default : goal.returns-in_default
returns-in_default c = key_none c.args.s.now c.in_default.ensures.cases

pub overflow_add-result : goal.overflow_add-result
overflow_add-result c = number_fits _ c.in-Some.name.now c.place_among.result c.in-Some-place_among.n (omega arith) c.place_among.ensures c.in-Some-place_among.is

pub returns-in-Some-place_among : goal.returns-in-Some-place_among
unfolding keyword_table
returns-in-Some-place_among c =
    key_open c.args.s.now c.in-Some.ensures.cases.0 c.in-Some.name.now c.in-Some.ensures.cases.1 c.place_among.result c.place_among.ensures c.in-Some-place_among.n c.in-Some-place_among.is

pub returns-in-None : goal.returns-in-None
unfolding keyword_table
returns-in-None c = key_close c.args.s.now c.in-Some.ensures.cases.0 c.in-Some.name.now c.in-Some.ensures.cases.1 c.place_among.result c.place_among.ensures c.closing.result c.in-None.is c.closing.ensures
