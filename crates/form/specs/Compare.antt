-- Words found in a list.
use Rattle.std.specs.Prelude.{ℕ, zero, suc, List, [], ◌∷◌, cond}
use Rattle.std.proofs.Math.Option.{Option, none, some}
use Rattle.law.specs.Words.{same_bytes}

abbrev pub up : Option ℕ → Option ℕ
up none = none
up (some n) = some (suc n)

-- the place of a word in its list
unfoldable pub place_of : List (List ℕ) → List ℕ → Option ℕ
place_of [] s = none
place_of (w ∷ ws) s = cond (same_bytes w s) (some zero) (up (place_of ws s))
