-- Two files compare as the lists of records that they say.
use Prim.Native.Nat.{ℕ}
use mathlib.Core.Path.{◌≡◌, refl, ap, subst}
use mathlib.Core.List.{List, [], ◌∷◌}
use native.Mathlib.Omega.{arith}
use lib.IntN.{ℤ, pos}
use lib.ListN.{length, length-append}
use Rattle.law.specs.Values.{Rec}
use Rattle.law.specs.Layouts.{types_of}
use Rattle.law.specs.declared.Rules.TheVariants.{Idf3}
use Rattle.law.specs.Rows.{width, with_line, Holds, RowsMean}
use Rattle.order.specs.declared.State.{State}
use Rattle.walk.specs.Walks as walk
use Rattle.walk.specs.Walks.{Trace}
use Rattle.read.specs.Replies.{rows_in}
use Rattle.read.proofs.RowWidths.{lined_wide}
use Rattle.law.specs.Rows as rows
use Rattle.law.specs.Files.{FileSays}
use Rattle.shown_read.proofs.Traced as line
use Rattle.shown_read.proofs.Traced.{Follows, trace_follows}
use Rattle.shown_read.proofs.Checked.{check_rows}
use Rattle.shown_read.proofs.RowsTold.{row_wide, record_same, behind_same}
use Rattle.same.specs.Ignoring.{nothing}
use Rattle.same.specs.SameLists.{list_in, list_of, same_lists, same_files}
use Rattle.shown_same.proofs.Values.{same_recs}
use Rattle.shown_same.proofs.Fields.{row_is}

-- rows, each of its own, hold the values of records, one by one
data ListMeans (file : List ℕ) : List Rec → List (List ℤ) → Type 0 where
  none : ListMeans file [] []
  more : {r : Rec} {rs : List Rec} {x : List ℤ} {xs : List (List ℤ)} → Holds file r.kind (types_of Idf3 r.kind) x r.values → ListMeans file rs xs → ListMeans file (r ∷ rs) (x ∷ xs)

-- each row of a trace has its width
data Wide : Trace → Type 0 where
  done : {w : _} → Wide (walk.done w)
  stop : {n l : ℕ} → Wide (walk.stop n l)
  skip : {l : ℕ} {t : Trace} → Wide t → Wide (walk.skip l t)
  row : {l : ℕ} {x : List ℤ} {t : Trace} → length x ≡ width → Wide t → Wide (walk.row l x t)

follows_wide : {file : List ℕ} {st : State} {ls : List (List ℕ)} {k : ℕ} {t : Trace} → Follows file st ls k t → Wide t
follows_wide (line.done a b) = done
follows_wide (line.stop e) = stop
follows_wide (line.skip e f) = skip (follows_wide f)
follows_wide (line.row e h f) = row (row_wide h) (follows_wide f)

-- so rows one after the other are parted in one way
module _ (file : List ℕ) where
  nothing_left : {rs : List Rec} {xs : List ℤ} → RowsMean file rs xs → xs ≡ [] → ListMeans file rs []
  nothing_left rows.none e = none
  nothing_left (rows.row {x = x} {xs = xs} k h m) e = absurd (omega (arith, lined_wide x k (row_wide h), ap length e, length-append (with_line x k) xs))

  parted : {t : Trace} → Wide t → {rs : List Rec} {xs : List ℤ} → RowsMean file rs xs → xs ≡ rows_in t → ListMeans file rs (list_in t)
  unfolding rows_in list_in
  parted done m e = nothing_left m e
  parted stop m e = nothing_left m e
  parted (skip w) m e = parted w m e
  parted (row {l = l} {x = y} {t = t} n w) rows.none e = absurd (omega (arith, lined_wide y (pos l) n, ap length e, length-append (with_line y (pos l)) (rows_in t)))
  parted (row {l = l} {x = y} {t = t} n w) (rows.row {r = r} {x = x} {xs = xs} k h m) e =
      let i = record_same x y k (pos l) xs (rows_in t) (row_wide h) n e in
      let j = behind_same x y k (pos l) xs (rows_in t) (row_wide h) n e in
      more (subst (λ (z : List ℤ). Holds file r.kind (types_of Idf3 r.kind) z r.values) i h) (parted w m j)

  list_means : {rs : List Rec} → FileSays Idf3 rs file → ListMeans file rs (list_of file)
  list_means s = parted (follows_wide (trace_follows file)) (check_rows file s) refl

module _ (f h : List ℕ) where
  lists_are : {rs qs : List Rec} {xs ys : List (List ℤ)} → ListMeans f rs xs → ListMeans h qs ys → same_lists nothing f xs h ys ≡ same_recs rs qs
  unfolding same_lists same_recs
  lists_are none none = refl
  lists_are none (more b n) = refl
  lists_are (more a m) none = refl
  lists_are (more {r = r} {x = x} a m) (more {r = q} {x = y} b n) = rw (row_is f h x y r q a b, lists_are m n)

  pub files_are : {rs qs : List Rec} → FileSays Idf3 rs f → FileSays Idf3 qs h → same_files nothing f h ≡ same_recs rs qs
  files_are s t = lists_are (list_means f s) (list_means h t)
