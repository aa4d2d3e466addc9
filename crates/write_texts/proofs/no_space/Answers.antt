-- `write_texts::no_space` meets its contract. Assumes nothing.
use Rattle.std.proofs.Common.{◌∙◌, ap, not}
use Rattle.write_texts.proofs.WordLaws.{spaceless}
use Rattle.write_texts.proofs.no_space.Goals as goal

pub returns : goal.returns
returns c = ap not c.contains.ensures.value ∙ spaceless c.args.s.now
