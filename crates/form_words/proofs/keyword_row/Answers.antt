-- `form_words::keyword_row` meets its contract. Assumes nothing.
use mathlib.Core.Logic.{inl, inr}
use native.Mathlib.Omega.{arith}
use Rattle.form_words.specs.Padded.{keyword_table, no_keyword}
use Rattle.form_words.proofs.RowLaws.{keyword_there, keyword_none}
use Rattle.form_words.proofs.keyword_row.Goals as goal
use Rattle.form_words.proofs.keyword_row.Goals.{in_default-via-then-s-lt1, in_default-via-else-s-lt1+else-s-lt16}

pub returns-in-1-to-15 : goal.returns-in-1-to-15
unfolding keyword_table
returns-in-1-to-15 c = keyword_there c.args.first c.args.s (omega arith) (omega arith)

pub returns-in_default : goal.returns-in_default
unfolding no_keyword
returns-in_default c = keyword_none c.args.first c.args.s (elim c.in_default.branch [ in_default-via-then-s-lt1 w ↦ inl (omega arith) | in_default-via-else-s-lt1+else-s-lt16 w ↦ inr (omega arith) ])
