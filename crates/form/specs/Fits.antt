-- The refusal of a number beyond its limit.
use Rattle.law.specs.declared.Limit.{Limit}
use Rattle.law.specs.declared.Limit.TheVariants.{Length as L, NotBelow as L0, Above as Lp, Included as A, Rotation as R, Version as Ver}
use Rattle.law.specs.declared.refusals.Refusal.{Refusal}
use Rattle.law.specs.declared.refusals.Refusal.TheVariants.{WrongWord, BeyondLimit}

-- the refusal beyond it
unfoldable pub beyond : Limit → Refusal
beyond L = BeyondLimit
beyond L0 = BeyondLimit
beyond Lp = BeyondLimit
beyond A = BeyondLimit
beyond R = BeyondLimit
beyond Ver = WrongWord
