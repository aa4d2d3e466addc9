-- `text::permits` meets its contract: each class but one is permitted. Assumes nothing.
use Rattle.text.proofs.ByteLaws.{forbidden_not, other_permitted}
use Rattle.text.proofs.permits.Goals as goal
use Rattle.text.proofs.permits.Goals.{in-Forbidden, in_default}

pub returns : goal.returns
returns c = elim c.match-matches.branch [ in-Forbidden w ↦ rw w.matches-is (forbidden_not _ _ c.class.ensures w.in-Forbidden.is) | in_default w ↦ rw w.matches-is (other_permitted _ _ c.class.ensures w.in_default.not-Forbidden) ]
