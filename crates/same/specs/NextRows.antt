-- The next record of what is left of a file.
use Rattle.std.specs.Prelude.{◌≡◌, ℤ, List, [], ◌∷◌, Option, MatchOption}
use Rattle.walk.specs.declared.steps.Turns.{Turns}
use Rattle.walk.specs.Walks.{trace_at}
use Rattle.same.specs.SameLists.{list_in}

-- the rows that are left to a walk, one for each record
unfoldable pub rows_left : Turns → List (List ℤ)
rows_left s = list_in (trace_at s.file.now s.walk)

-- the first of them, and what is left behind it; none where no record is left
pub record NextRow (s : Turns) (r : Option (List ℤ)) (t : Turns) : Type 0 where
  pub file : t.file.now ≡ s.file.now
  pub row : MatchOption r (rows_left s ≡ []) (λ x. rows_left s ≡ x ∷ rows_left t)
