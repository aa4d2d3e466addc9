-- Rows, each of its own.
use Rattle.std.specs.Prelude.{ℕ, ◌≡◌, List, [], ◌∷◌, ℤ, length}
use Rattle.law.specs.Values.{Rec}
use Rattle.law.specs.Layouts.{types_of}
use Rattle.law.specs.Rows.{width, Holds}
use Rattle.law.specs.declared.Rules.{Rules}

-- rows, each of its own, hold the values of records, one by one
pub data ListMeans (v : Rules) (bytes : List ℕ) : List Rec → List (List ℤ) → Type 0 where
  none : ListMeans v bytes [] []
  more : {r : Rec} {rs : List Rec} {x : List ℤ} {xs : List (List ℤ)} → Holds bytes r.kind (types_of v r.kind) x r.values → ListMeans v bytes rs xs
      → ListMeans v bytes (r ∷ rs) (x ∷ xs)

-- each row has its width
pub data Wide : List (List ℤ) → Type 0 where
  no_row : Wide []
  a_row : {x : List ℤ} {xs : List (List ℤ)} → length x ≡ width → Wide xs → Wide (x ∷ xs)
