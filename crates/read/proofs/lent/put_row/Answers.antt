-- `read::lent::put_row` meets its contract. Assumes nothing.
use borrow.Author.Rules.{rules}
use native.Mathlib.Omega.{arith}
use mir.Syntax.{w64}
use mir.ValLaws.{to_z_pos}
use Rattle.read.proofs.RowLaws.{put_is}
use Rattle.read.proofs.lent.put_row.Goals as goal

pub returns : goal.returns
returns c = put_is _ _ _ _ _ _ _ (omega arith) (search rules) (search rules) (omega arith) (to_z_pos w64 c.args.line (omega arith))
