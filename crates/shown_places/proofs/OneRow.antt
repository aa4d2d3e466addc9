-- A line gives its record one row, and the lines of a file give its records one list of rows.
use Prim.Native.Nat.{ℕ}
use mathlib.Core.Path.{◌≡◌, refl, sym, ap, ap₂, ◌∙◌}
use mathlib.Core.List.{List, [], ◌∷◌, ◌++◌}
use native.Mathlib.Omega.{arith}
use lib.IntN.{ℤ, pos}
use lib.ListN.{length, replicate, length-append, length-replicate}
use Rattle.law.specs.Values.{Rec}
use Rattle.law.specs.declared.Context.{Context}
use Rattle.shown_spelling.proofs.FileSpelling.{record_not_free}
use Rattle.law.specs.FieldPlaces.{Spot}
use Rattle.law.specs.Rows.{with_line}
use Rattle.law.specs.RowPlaces.{columns_of_all, RowOf, RowsAt, end, free, line}
use Rattle.shown_places.proofs.Spots.{places_unique}

-- two ends of one length of a list are the same
pub ends_one : {A : Type 0} (es bs cs ds : List A) → length bs ≡ length ds → es ++ bs ≡ cs ++ ds → bs ≡ ds
ends_one [] bs [] ds h e = e
ends_one [] bs (c ∷ cs) ds h e = absurd (omega (arith, h, ap length e, length-append cs ds))
ends_one (a ∷ es) bs [] ds h e = absurd (omega (arith, h, ap length e, length-append es bs))
ends_one (a ∷ es) bs (c ∷ cs) ds h e = ends_one es bs cs ds h (cc)

module _ {b : ℕ} {l : List ℕ} {r : Rec} where
  pub row_one : {x y : List ℤ} → RowOf b l r x → RowOf b l r y → x ≡ y
  row_one {x} {y} p q =
      let o : p.own ≡ q.own = ends_one p.front p.own q.front q.own (p.each ∙ sym q.each) (places_unique p.spelled q.spelled) in
      let u = length-append (columns_of_all r.values p.own) (replicate p.left (pos 0)) in
      let v = length-append (columns_of_all r.values q.own) (replicate q.left (pos 0)) in
      let w : length (columns_of_all r.values p.own) ≡ length (columns_of_all r.values q.own) = ap (λ (s : List Spot). length (columns_of_all r.values s)) o in
      let n : p.left ≡ q.left = omega (arith, u, v, w, length-replicate p.left (pos 0), length-replicate q.left (pos 0), p.ten, q.ten, ap length p.is, ap length q.is) in
      p.is ∙ rw (o, n) (sym q.is)

pub rows_one : {c : Context} {file : List ℕ} {b n : ℕ} {ls : List (List ℕ)} {rs : List Rec} {xs ys : List ℤ} → RowsAt c file b n ls rs xs → RowsAt c file b n ls rs ys → xs ≡ ys
rows_one end end = refl
rows_one (free h p) (free i q) = rows_one p q
rows_one (free h p) (line i x q) = absurd (record_not_free i h)
rows_one (line h x p) (free i q) = absurd (record_not_free h i)
rows_one (line {n = n} h x p) (line i y q) = ap₂ (λ (u w : List ℤ). with_line u (pos n) ++ w) (row_one x y) (rows_one p q)
