-- `write_columns::is_text` meets its contract. Assumes nothing.
use Rattle.std.proofs.Common.{rules, tests, ◌∙◌}
use Rattle.std.proofs.lemmas.Iterator.Search.{all_from_yields_List}
use Rattle.std.proofs.lemmas.Iterator.{YieldsList-from_slice}
use Rattle.law.specs.Fits.{text_byte}
use Rattle.write_columns.proofs.ColumnLaws.{all_texts}
use Rattle.write_columns.proofs.is_text.Goals as goal

pub returns : goal.returns
returns c = all_from_yields_List text_byte _ _ c.all.result c.all.ensures.ran (YieldsList-from_slice c.args.s.now cc) (λ x b q k. search (rules, tests)) ∙ all_texts c.args.s.now
