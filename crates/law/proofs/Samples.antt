-- Records for the cases: a small board, and the library of document 01's listing.
use Prim.Native.Nat.{ℕ}
use Prim.Native.String.{String}
use mathlib.Core.List.{List, [], ◌∷◌, ◌++◌}
use lib.IntN.{pos}
use Rattle.law.specs.Bytes.{ascii}
use Rattle.law.specs.Values.{Value, number, word, text, Rec}

abbrev pub of : ℕ → List Value → Rec
of k vs = record { kind = k; values = vs }

abbrev pub said : String → Value
said s = text (ascii s)

abbrev pub count : ℕ → Value
count n = number (pos n)

-- a point of label 0
abbrev pub point_at : ℕ → ℕ → ℕ → ℕ → Rec
point_at k x y a = of k (count 0 ∷ count x ∷ count y ∷ count a ∷ [])

abbrev pub title : ℕ → Rec
title t = of 11 (word t ∷ count 300_000 ∷ said "CAD 1" ∷ said "2024/05/06.07:08:09" ∷ count 1 ∷ [])

-- a board with a circle of an outline, and these placements
abbrev pub heading : List Rec
heading = of 10 [] ∷ title 0 ∷ of 12 (said "n" ∷ word 0 ∷ []) ∷ of 19 [] ∷ []

abbrev pub circled : List Rec
circled = of 20 (word 0 ∷ []) ∷ of 21 (count 1 ∷ []) ∷ point_at 22 0 0 0 ∷ point_at 22 100_000 0 36_000_000 ∷ of 29 [] ∷ []

abbrev pub placing : List Rec → List Rec
placing ps = of 130 [] ∷ (ps ++ (of 139 [] ∷ []))

abbrev pub board : List Rec → List Rec
board ps = heading ++ (circled ++ ([] ++ placing ps))

-- a part, and where it is
abbrev pub part : String → String → String → Rec
part g p r = of 131 (said g ∷ said p ∷ said r ∷ [])

abbrev pub position : Rec
position = of 132 (count 0 ∷ count 0 ∷ count 0 ∷ count 0 ∷ word 0 ∷ word 0 ∷ [])

-- a component's section of kinds k to k + 9, written out
abbrev pub component : ℕ → ℕ → ℕ → ℕ → String → String → List Rec
component o l q c g p =
    of o [] ∷ of l (said g ∷ said p ∷ word 1 ∷ count 2_500_000 ∷ []) ∷ point_at q 0 0 0 ∷ point_at q 5_000_000 0 36_000_000 ∷ of c [] ∷ []

abbrev pub electrical : String → String → List Rec
electrical g p = component 140 141 142 149 g p

abbrev pub mechanical : String → String → List Rec
mechanical g p = component 150 151 152 159 g p

abbrev pub library : List Rec → List Rec
library cs = (of 10 [] ∷ title 2 ∷ of 19 [] ∷ []) ++ cs
