-- Which rows, over the bytes lent with them, are a list that a file may say: each row by its state, and no name used twice.
use Rattle.std.specs.Prelude.{ℕ, List, [], ◌∷◌, Bool, true, false, cond, not, ◌&&◌, ◌||◌, ℤ, Result, Ok as Next, Err as Refused}
use Rattle.rows_texts.specs.Names.{same_names}
use Rattle.rows.specs.RowKinds.{leads_component}
use Rattle.rows.specs.Columns.{type_in_row, point_in}
use Rattle.law.specs.Fits.{under}
use Rattle.law.specs.declared.Rules.{Rules}
use Rattle.order.specs.Automaton.{start, accepting, accepted, type_at, stepped}
use Rattle.order.specs.declared.State.{State}
use Rattle.order.specs.declared.Reason.TheVariants.{Unfit}
use Rattle.order.specs.declared.Reason.{Reason}
use Rattle.write_columns.specs.Columns.{kind_in, row_fits}

-- what a row does in a state: its values fit there, and it goes on as a line with these values would
unfoldable pub row_step : Rules → List ℕ → State → List ℤ → Result State Reason
row_step v bytes st x = cond (row_fits (under v (type_at st)) bytes x) (stepped v st (kind_in x) (type_in_row x) (point_in x)) (Refused Unfit)

-- rows carry a state to one where a file may end
unfoldable pub carries : Rules → List ℕ → State → List (List ℤ) → Bool
carries v bytes st [] = accepting st
carries v bytes st (x ∷ xs) = accepted (row_step v bytes st x) (λ t. carries v bytes t xs)

-- a row names the component that x names
unfoldable pub names_it : List ℕ → List ℤ → List ℤ → Bool
names_it bytes x y = leads_component y && same_names bytes x bytes y

unfoldable pub named_in : List ℕ → List ℤ → List (List ℤ) → Bool
named_in bytes x [] = false
named_in bytes x (y ∷ ys) = names_it bytes x y || named_in bytes x ys

-- a row names a component that one behind it names again
unfoldable pub twice : List ℕ → List (List ℤ) → Bool
twice bytes [] = false
twice bytes (x ∷ xs) = (leads_component x && named_in bytes x xs) || twice bytes xs

unfoldable pub writable : Rules → List ℕ → List (List ℤ) → Bool
writable v bytes xs = carries v bytes start xs && not (twice bytes xs)
