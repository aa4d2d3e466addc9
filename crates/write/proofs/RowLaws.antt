-- Laws of rows one after the other, as the code leaves them.
use Prim.Native.Nat.{ℕ, zero, suc, ◌+◌, ◌*◌, ◌≤◌, ◌<◌}
use mathlib.Core.Path.{◌≡◌, refl, sym, ap, ◌∙◌}
use mathlib.Core.List.{List, [], ◌∷◌}
use mathlib.Core.Bool.{Bool, true, false, not, true≢false, false≢true}
use native.Mathlib.Numerals.{add-one}
use native.Mathlib.Omega.{arith}
use mir.Syntax.{w64}
use mir.Val.{SFits}
use mir.ValLaws.{to_z-of_z}
use borrow.Author.Tests.{not-true, not-false}
use lib.IntN.{ℤ, nat_abs}
use lib.ListN.{length, take, drop, drop_of_length-le}
use lib.Seq.{drop-drop}
use Rattle.rows.specs.Columns.{type_in_row, point_in, kind_column}
use Rattle.rows.specs.declared.Point.{Point}
use Rattle.basics.proofs.Integers.{back}
use Rattle.law.specs.Fits.{under}
use Rattle.law.specs.declared.Rules.{Rules}
use Rattle.law.specs.declared.FileType.{FileType}
use Rattle.law.specs.Rows.{width, stride, capacity}
use Rattle.order.specs.Automaton.{start, accepting, accepted, type_at, stepped}
use Rattle.order.specs.declared.State.{State}
use Rattle.order.specs.declared.Reason.{Reason}
use Rattle.order.specs.declared.Reason.TheVariants.{Unfit}
use Rattle.std.specs.Prelude.{Result, Ok as Next, Err as Refused}
use Rattle.write_columns.specs.Columns.{row_fits}
use Rattle.write.specs.WholeRows.{chunks, whole_rows, row_in}
use Rattle.write.specs.Writable.{row_step, carries}

-- a number of rows, as the code asks for it
module _ (rows : List ℤ) (n i : ℕ) (e : n ≡ capacity (length rows)) where
  pub row_in_lem : i < n → i < capacity (length rows)
  row_in_lem h = rw e at h

  pub rows_over : n ≤ i → capacity (length rows) ≤ i
  rows_over h = rw e at h

-- rows that are left
chunks_drop : (i n : ℕ) (zs : List ℤ) → i < n → drop i (chunks n zs) ≡ take width (drop (i * stride) zs) ∷ drop (suc i) (chunks n zs)
unfolding chunks
chunks_drop zero zero zs h = absurd (omega arith)
chunks_drop zero (suc n) zs h = refl
chunks_drop (suc i) zero zs h = absurd (omega arith)
chunks_drop (suc i) (suc n) zs h =
    let l : i < n = omega arith in
    let e : stride + i * stride ≡ suc i * stride = omega arith in
    let d : drop (i * stride) (drop stride zs) ≡ drop (suc i * stride) zs = drop-drop (i * stride) stride zs ∙ ap (λ (k : ℕ). drop k zs) e in
    chunks_drop i n (drop stride zs) l ∙ ap (λ (x : List ℤ). take width x ∷ drop (suc i) (chunks n (drop stride zs))) d

chunks_long : (n : ℕ) (zs : List ℤ) → length (chunks n zs) ≡ n
unfolding chunks
chunks_long zero zs = refl
chunks_long (suc n) zs = ap suc (chunks_long n (drop stride zs))

pub row_here : (rows : List ℤ) (i : ℕ) → i < capacity (length rows) → drop i (whole_rows rows) ≡ row_in rows i ∷ drop (i + 1) (whole_rows rows)
unfolding whole_rows
row_here rows i h = rw (add-one i) (chunks_drop i (capacity (length rows)) rows h)

pub row_none : (rows : List ℤ) (i : ℕ) → capacity (length rows) ≤ i → drop i (whole_rows rows) ≡ []
unfolding whole_rows
row_none rows i h = let l : length (chunks (capacity (length rows)) rows) ≤ i = omega (arith, chunks_long (capacity (length rows)) rows) in drop_of_length-le (chunks (capacity (length rows)) rows) l

-- what a row does
module _ (v : Rules) (bytes : List ℕ) (st : State) (row : List ℤ) (f : FileType) (e : f ≡ type_at st) (x : Bool) (g : x ≡ row_fits (record { rules = v; file = f }) bytes row) where
  fits_is : x ≡ row_fits (under v (type_at st)) bytes row
  fits_is = rw e at g

  pub step_unfit : not x ≡ true → Refused Unfit ≡ row_step v bytes st row
  unfolding row_step
  step_unfit h = rw (sym fits_is ∙ not-true x h)

  pub step_goes : (k : ℕ) (t : FileType) (d : Point) (o : Result State Reason) → not x ≡ false → SFits w64 (kind_column row) → k ≡ nat_abs (back (kind_column row)) → t ≡ type_in_row row → d ≡ point_in row
      → o ≡ stepped v st k t d → o ≡ row_step v bytes st row
  unfolding row_step
  step_goes k t d o h s i j m n = rw (sym fits_is ∙ not-false x h) (n ∙ rw (i, j, m, to_z-of_z w64 (kind_column row) s))

pub record Carrying (v : Rules) (rows : List ℤ) (bytes : List ℕ) (st : State) (i : ℕ) : Type 0 where
  pub left : carries v bytes st (drop i (whole_rows rows)) ≡ carries v bytes start (whole_rows rows)

pub carry_start : (v : Rules) (rows : List ℤ) (bytes : List ℕ) → Carrying v rows bytes start 0
carry_start v rows bytes = record { left = refl }

module _ (v : Rules) (rows : List ℤ) (bytes : List ℕ) (i : ℕ) (st : State) (r : Carrying v rows bytes st i) where
  pub carry_over : (x : Bool) → capacity (length rows) ≤ i → x ≡ accepting st → x ≡ carries v bytes start (whole_rows rows)
  unfolding carries
  carry_over x h e = e ∙ rw (row_none rows i h) at r.left

  module _ (h : i < capacity (length rows)) (row : List ℤ) (a : row ≡ row_in rows i) (o : Result State Reason) (b : o ≡ row_step v bytes st row) where
    abbrev after : Result State Reason → Bool
    after p = accepted p (λ t. carries v bytes t (drop (i + 1) (whole_rows rows)))

    here : carries v bytes st (drop i (whole_rows rows)) ≡ after o
    unfolding carries
    here = rw (row_here rows i h, b, a)

    pub carry_stop : (e : Reason) → o ≡ Refused e → false ≡ carries v bytes start (whole_rows rows)
    carry_stop e k = sym (here ∙ ap after k) ∙ r.left

    pub carry_more : (t : State) → o ≡ Next t → Carrying v rows bytes t (i + 1)
    carry_more t k = record { left = sym (here ∙ ap after k) ∙ r.left }
