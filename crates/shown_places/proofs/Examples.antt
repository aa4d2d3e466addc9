-- A row that names other bytes of the same spelling meant the same values, and is no row of the line.
use Prim.Native.Nat.{ℕ}
use mathlib.Core.Path.{◌≡◌, refl, ap}
use mathlib.Core.List.{List, [], ◌∷◌}
use native.Mathlib.Omega.{arith}
use lib.IntN.{ℤ, pos}
use lib.ListN.{get_or}
use Rattle.law.specs.Fits.{meaning, is_name}
use Rattle.law.specs.declared.Texts.TheVariants.{Plain}
use Rattle.law.specs.declared.FieldType.TheVariants.{Text as T}
use Rattle.law.specs.Rows as column
use Rattle.law.specs.Rows.{Holds, a_text}
use Rattle.law.specs.RowPlaces.{RowOf}
use Rattle.law.proofs.DerivedPlaces.{property, its, row_from, its_row}
use Rattle.shown_places.proofs.OneRow.{row_one}
use Rattle.law.specs.Words.{named, is_in, folded, same_bytes}

-- the values of PROP A A are meant by a row in which the second text has the place of the first
pub meant_elsewhere : Holds property 143 (T Plain ∷ T Plain ∷ []) (row_from 5 5) its.values
unfolding meaning is_name named is_in folded same_bytes
meant_elsewhere = record {
  columns = pos 5 ∷ pos 1 ∷ pos 5 ∷ pos 1 ∷ [];
  left = 5;
  is = refl;
  ten = refl;
  means = a_text {a = 5} {l = 1} (omega arith) (a_text {a = 5} {l = 1} (omega arith) column.none);
}

-- but it is not the row of the line, which has it at 7
pub not_elsewhere : RowOf 0 property its (row_from 5 5) → ⊥
not_elsewhere p =
    let e : pos 7 ≡ pos 5 = ap (λ (x : List ℤ). get_or x 3 (pos 0)) (row_one (its_row 0) p) in
    let n : ◌≡◌ {A = ℕ} 7 5 = cc in
    omega arith
