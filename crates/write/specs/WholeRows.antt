-- The whole rows of a slice; what is left behind them is not looked at.
use Rattle.std.specs.Prelude.{ℕ, zero, suc, ◌*◌, List, [], ◌∷◌, ℤ, length, take, drop}
use Rattle.law.specs.Rows.{width, stride, capacity}

unfoldable pub chunks : ℕ → List ℤ → List (List ℤ)
chunks zero zs = []
chunks (suc n) zs = take width zs ∷ chunks n (drop stride zs)

unfoldable pub whole_rows : List ℤ → List (List ℤ)
whole_rows zs = chunks (capacity (length zs)) zs

-- row i, counted from 0
abbrev pub row_in : List ℤ → ℕ → List ℤ
row_in zs i = take width (drop (i * stride) zs)
