-- The whole rows of a slice, one after the other or each of its own, mean the same lists, and their canonical text is that of the list.
use Prim.Native.Nat.{ℕ, zero, suc, ◌+◌, ◌*◌, ◌≤◌}
use mathlib.Core.Path.{◌≡◌, refl, sym, ap, ◌∙◌, subst}
use mathlib.Core.List.{List, [], ◌++◌}
use native.Mathlib.Omega.{arith}
use lib.IntN.{ℤ, pos}
use lib.ListN.{length, take, drop, get_or, length-append, length-drop}
use lib.Seq.{take-add, take-suc, take_all, length-take-le}
use Rattle.law.specs.Values.{Rec}
use Rattle.law.specs.Layouts.{types_of}
use Rattle.law.specs.declared.Rules.{Rules}
use Rattle.law.specs.declared.Rules.TheVariants.{Idf3}
use Rattle.law.specs.Rows.{width, stride, capacity, with_line, Holds, RowsMean, whole}
use Rattle.write_columns.proofs.HeldRecords.{held_is}
use Rattle.write_lines.specs.LineText.{anywhere, line_text}
use Rattle.read.proofs.RowWidths.{lined_wide}
use Rattle.write.specs.WholeRows.{chunks, whole_rows}
use Rattle.write.specs.Outcomes.{text_of}
use Rattle.law.specs.Rows as rows
use Rattle.shown_read.proofs.RowsTold.{row_wide, rows_long, record_same, behind_same}
use Rattle.law.specs.Canonical.{canonical_text}
use Rattle.shown_write.specs.Texts.{ListMeans, none, more, Wide, no_row, a_row}

module _ (v : Rules) (bytes : List ℕ) where
  -- the record that a row holds is the one that is read in it
  pub list_one : {rs qs : List Rec} {xs : List (List ℤ)} → ListMeans v bytes rs xs → ListMeans v bytes qs xs → rs ≡ qs
  list_one none none = refl
  list_one (more {r = r} {x = x} g m) (more {r = q} h n) =
      let e : r ≡ q = sym (held_is (anywhere v) bytes x r g) ∙ held_is (anywhere v) bytes x q h in
      rw (e, list_one m n)

  pub list_text : {rs : List Rec} {xs : List (List ℤ)} → ListMeans v bytes rs xs → text_of v bytes xs ≡ canonical_text v rs
  unfolding text_of line_text canonical_text
  list_text none = refl
  list_text (more {r = r} {x = x} h m) = rw (held_is (anywhere v) bytes x r h, list_text m)

-- n rows and what follows them
module _ (n : ℕ) (zs : List ℤ) (h : stride * suc n ≤ length zs) where
  -- the line of the first
  abbrev chunk_line : ℤ
  chunk_line = get_or zs width (pos 0)

  chunk_row : take stride zs ≡ with_line (take width zs) chunk_line
  chunk_row = take-suc zs width (pos 0) (omega arith)

  chunk_take : take (stride * suc n) zs ≡ with_line (take width zs) chunk_line ++ take (stride * n) (drop stride zs)
  chunk_take =
      let e : stride * suc n ≡ stride + stride * n = omega arith in
      ap (λ (k : ℕ). take k zs) e ∙ take-add stride (stride * n) zs ∙ ap (λ (x : List ℤ). x ++ take (stride * n) (drop stride zs)) chunk_row

  chunk_wide : length (take width zs) ≡ width
  chunk_wide = length-take-le width zs (omega arith)

  chunk_left : stride * n ≤ length (drop stride zs)
  chunk_left = omega (arith, length-drop stride zs)

chunks_wide : (n : ℕ) (zs : List ℤ) → stride * n ≤ length zs → Wide (chunks n zs)
unfolding chunks
chunks_wide zero zs h = no_row
chunks_wide (suc n) zs h = a_row (chunk_wide n zs h) (chunks_wide n (drop stride zs) (chunk_left n zs h))

whole_most : (zs : List ℤ) → stride * (capacity (length zs)) ≤ length zs
whole_most zs = omega arith

pub whole_wide : (zs : List ℤ) → Wide (whole_rows zs)
unfolding whole_rows
whole_wide zs = chunks_wide (capacity (length zs)) zs (whole_most zs)

module _ (bytes : List ℕ) where
  nothing_left : {rs : List Rec} {ys : List ℤ} → RowsMean bytes rs ys → ys ≡ [] → ListMeans Idf3 bytes rs []
  nothing_left rows.none e = none
  nothing_left (rows.row {x = x} {xs = xs} k h m) e = absurd (omega (arith, lined_wide x k (row_wide h), ap length e, length-append (with_line x k) xs))

  parted : (n : ℕ) (zs : List ℤ) {rs : List Rec} {ys : List ℤ} → stride * n ≤ length zs → RowsMean bytes rs ys → ys ≡ take (stride * n) zs → ListMeans Idf3 bytes rs (chunks n zs)
  unfolding chunks
  parted zero zs h m e = nothing_left m e
  parted (suc n) zs h rows.none e =
      absurd (omega (arith, ap length e, length-take-le (stride * suc n) zs h))
  parted (suc n) zs h (rows.row {r = r} {x = x} {xs = xs} k g m) e =
      let f = e ∙ chunk_take n zs h in
      let i = record_same x (take width zs) k (chunk_line n zs h) xs (take (stride * n) (drop stride zs)) (row_wide g) (chunk_wide n zs h) f in
      let j = behind_same x (take width zs) k (chunk_line n zs h) xs (take (stride * n) (drop stride zs)) (row_wide g) (chunk_wide n zs h) f in
      more (subst (λ (z : List ℤ). Holds bytes r.kind (types_of Idf3 r.kind) z r.values) i g) (parted n (drop stride zs) (chunk_left n zs h) m j)

  chained : (n : ℕ) (zs : List ℤ) {rs : List Rec} {xs : List (List ℤ)} → stride * n ≤ length zs → xs ≡ chunks n zs → ListMeans Idf3 bytes rs xs → RowsMean bytes rs (take (stride * n) zs)
  unfolding chunks
  chained zero zs h e none = rows.none
  chained zero zs h e (more g m) = absurd (omega (arith, ap length e))
  chained (suc n) zs h e none = absurd (omega (arith, ap length e))
  chained (suc n) zs h e (more {r = r} {x = x} {xs = xs} g m) =
      let i : x ≡ take width zs = cc in
      let j : xs ≡ chunks n (drop stride zs) = cc in
      rw (chunk_take n zs h) (rows.row (chunk_line n zs h) (rw i at g) (chained n (drop stride zs) (chunk_left n zs h) j m))

  pub whole_list : (zs : List ℤ) {rs : List Rec} → RowsMean bytes rs (whole zs) → ListMeans Idf3 bytes rs (whole_rows zs)
  unfolding whole_rows
  whole_list zs m = parted (capacity (length zs)) zs (whole_most zs) m refl

  pub list_whole : (zs : List ℤ) {rs : List Rec} → ListMeans Idf3 bytes rs (whole_rows zs) → RowsMean bytes rs (whole zs)
  unfolding whole_rows
  list_whole zs m = chained (capacity (length zs)) zs (whole_most zs) refl m

  -- rows with nothing behind them are whole
  pub all_whole : {rs : List Rec} {zs : List ℤ} → RowsMean bytes rs zs → RowsMean bytes rs (whole zs)
  all_whole {rs} {zs} m = let e : whole zs ≡ zs = take_all (stride * (capacity (length zs))) zs (omega (arith, rows_long m)) in rw e m
