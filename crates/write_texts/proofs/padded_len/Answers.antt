-- `write_texts::padded_len` meets its contract. Assumes nothing.
use Rattle.std.proofs.Common.{◌∙◌, ap, length}
use Rattle.std.specs.Option.{unwrap_or}
use Rattle.write_texts.proofs.WordLaws.{trimmed_long}
use Rattle.write_texts.proofs.padded_len.Goals as goal

pub returns : goal.returns
returns c = c.unwrap_or.ensures ∙ ap (λ o. unwrap_or o (length c.args.row.now)) c.padding.ensures ∙ trimmed_long c.args.row.now
