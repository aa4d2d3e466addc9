-- `form_words::place_of` meets its contract. Assumes nothing.
use Rattle.std.proofs.Common.{rules, ◌∙◌}
use Rattle.form_words.proofs.SeekLaws.{place_found, same_mapped}
use Rattle.form_words.proofs.place_of.Goals as goal

pub returns : goal.returns
returns c =
    same_mapped c.place_among.result c.map.result c.map.ensures.cases (λ x y k. search rules)
    ∙ place_found c.args.v c.args.l c.args.s.now c.rows_of.result.now c.place_among.result c.rows_of.ensures c.place_among.ensures
