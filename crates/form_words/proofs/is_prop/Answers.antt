-- `form_words::is_prop` meets its contract. Assumes nothing.
use Rattle.form_words.proofs.SeekLaws.{prop_is}
use Rattle.form_words.proofs.is_prop.Goals as goal

pub returns : goal.returns
returns c = prop_is c.args.s.now c.same_letters.result c.same_letters.ensures
