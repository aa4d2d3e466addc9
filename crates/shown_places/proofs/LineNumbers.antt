-- The lines of rows, by the lines that spell their records: they rise, where no line is free they are counted, and nothing else decides them.
use Prim.Native.Nat.{ℕ, suc, ◌≤◌, ◌<◌}
use mathlib.Core.Path.{◌≡◌, refl, sym, ap, ◌∙◌}
use mathlib.Core.List.{List, [], ◌∷◌, ◌++◌, append_assoc}
use native.Mathlib.Omega.{arith}
use borrow.Author.Tests.{lt-ltb}
use lib.IntN.{ℤ, pos}
use lib.ListN.{length, get_or}
use lib.Seq.{drop_at, get_or_at}
use Rattle.law.specs.Values.{Rec}
use Rattle.law.specs.declared.Context.{Context}
use Rattle.read.proofs.RowWidths.{lined_wide}
use Rattle.shown_spelling.proofs.FileSpelling.{record_not_free}
use Rattle.law.specs.Rows as column
use Rattle.law.specs.Rows.{width, stride, with_line, lines_in, Rises}
use Rattle.law.specs.RowPlaces.{RowsAt, end, free, line, up_from}

-- the line of the first row, and those of the others
lines_more : (k : ℕ) (x : List ℤ) (n : ℤ) (xs : List ℤ) → length x ≡ width → lines_in (suc k) (with_line x n ++ xs) ≡ n ∷ lines_in k xs
unfolding lines_in
lines_more k x n xs w =
    let g : get_or (with_line x n ++ xs) width (pos 0) ≡ n = rw (append_assoc x (n ∷ []) xs) (get_or_at x n xs (pos 0) width w) in
    rw (g, drop_at (with_line x n) xs stride (lined_wide x n w))

module _ {c : Context} {file : List ℕ} where
  -- each is above those before it
  pub lines_rise : {b n : ℕ} {ls : List (List ℕ)} {rs : List Rec} {xs : List ℤ} → RowsAt c file b n ls rs xs → (m : ℕ) → m < n → Rises (pos m) (lines_in (length rs) xs)
  unfolding lines_in
  lines_rise end m h = column.none
  lines_rise (free f p) m h = lines_rise p m (omega arith)
  lines_rise (line {n = n} {rs = rs} {x = x} {xs = xs} f o p) m h = rw (lines_more (length rs) x (pos n) xs o.ten) (column.next (lt-ltb m n h) (lines_rise p n (omega arith)))

  -- there are no more records than lines
  few : {b n : ℕ} {ls : List (List ℕ)} {rs : List Rec} {xs : List ℤ} → RowsAt c file b n ls rs xs → length rs ≤ length ls
  few end = omega arith
  few (free f p) = omega (arith, few p)
  few (line f o p) = omega (arith, few p)

  -- with as many lines as records, the lines are counted
  pub lines_counted : {b n : ℕ} {ls : List (List ℕ)} {rs : List Rec} {xs : List ℤ} → RowsAt c file b n ls rs xs → length ls ≡ length rs → lines_in (length rs) xs ≡ up_from n (length rs)
  unfolding lines_in up_from
  lines_counted end e = refl
  lines_counted (free f p) e = absurd (omega (arith, few p, e))
  lines_counted (line {n = n} {rs = rs} {x = x} {xs = xs} f o p) e = rw (lines_more (length rs) x (pos n) xs o.ten) (ap (λ (k : List ℤ). pos n ∷ k) (lines_counted p (omega (arith, e))))

-- they depend on the lines alone, and not on where these stand
pub lines_same : {c d : Context} {f g : List ℕ} {a b n : ℕ} {ls : List (List ℕ)} {rs : List Rec} {xs ys : List ℤ} → RowsAt c f a n ls rs xs → RowsAt d g b n ls rs ys
    → lines_in (length rs) xs ≡ lines_in (length rs) ys
lines_same end end = refl
lines_same (free h p) (free i q) = lines_same p q
lines_same (free h p) (line i o q) = absurd (record_not_free i h)
lines_same (line h o p) (free i q) = absurd (record_not_free h i)
lines_same (line {n = n} {rs = rs} {x = x} {xs = xs} h o p) (line {x = y} {xs = ys} i w q) =
    lines_more (length rs) x (pos n) xs o.ten ∙ ap (λ (k : List ℤ). pos n ∷ k) (lines_same p q) ∙ sym (lines_more (length rs) y (pos n) ys w.ten)
