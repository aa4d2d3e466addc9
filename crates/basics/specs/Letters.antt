-- Letters in capitals, or as they stand.
use Rattle.std.specs.Prelude.{ℕ, List, Bool, true, false}
use Rattle.law.specs.Words.{capital, folded}

abbrev pub keyed : Bool → ℕ → ℕ
keyed true b = capital b
keyed false b = b

unfoldable pub cased : Bool → List ℕ → List ℕ
cased true s = folded s
cased false s = s
