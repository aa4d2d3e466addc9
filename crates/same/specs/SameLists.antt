-- Two files by their records in their order.
use Rattle.std.specs.Prelude.{List, [], ◌∷◌, ℕ, Bool, true, false, ◌&&◌, ℤ}
use Rattle.walk.specs.Walks.{Trace, done, stop, skip, row, trace_of}
use Rattle.same.specs.SameRows.{same_row}
use Rattle.same.specs.declared.Ignored.{Ignored}

-- the rows that a walk finds, one for each record
unfoldable pub list_in : Trace → List (List ℤ)
list_in (done w) = []
list_in (stop n l) = []
list_in (skip l t) = list_in t
list_in (row l x t) = x ∷ list_in t

abbrev pub list_of : List ℕ → List (List ℤ)
list_of file = list_in (trace_of file)

-- as many records, each the same as its fellow
unfoldable pub same_lists : Ignored → List ℕ → List (List ℤ) → List ℕ → List (List ℤ) → Bool
same_lists g f [] h [] = true
same_lists g f [] h (y ∷ ys) = false
same_lists g f (x ∷ xs) h [] = false
same_lists g f (x ∷ xs) h (y ∷ ys) = same_row g f x h y && same_lists g f xs h ys

-- two files say the same list, but for the fields that are left out
abbrev pub same_files : Ignored → List ℕ → List ℕ → Bool
same_files g f h = same_lists g f (list_of f) h (list_of h)
