-- `form_words::place_among` meets its contract. Assumes nothing.
use Rattle.std.proofs.Common.{rules, tests, ◌∙◌}
use Rattle.std.proofs.lemmas.Iterator.{YieldsList-from_slice}
use Rattle.std.proofs.lemmas.Iterator.Search.{position_from_yields_List}
use Rattle.std.proofs.lemmas.Iterator.Adapters.{position_from-zero}
use Rattle.form_words.specs.Padded.{matched}
use Rattle.form_words.proofs.SeekLaws.{sought_is}
use Rattle.form_words.proofs.place_among.Goals as goal

pub returns : goal.returns
returns g c =
    position_from_yields_List (λ row. matched row c.args.s.now) c.position.new.self _ c.position.result c.position.ensures.ran (YieldsList-from_slice c.args.rows.now (cc)) (λ x b q k. search (rules, tests))
    ∙ position_from-zero (λ row. matched row c.args.s.now) c.args.rows.now ∙ sought_is 0 c.args.rows.now c.args.s.now
