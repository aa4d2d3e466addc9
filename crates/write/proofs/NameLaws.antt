-- Laws of components by name among rows, as the code leaves them.
use Prim.Native.Nat.{ℕ, ◌+◌, ◌≤◌, ◌<◌}
use mathlib.Core.Path.{◌≡◌, refl, sym, ◌∙◌}
use mathlib.Core.List.{List}
use mathlib.Core.Bool.{Bool, true, false, ◌||◌}
use lib.IntN.{ℤ}
use lib.ListN.{length, drop}
use Rattle.rows_texts.specs.Names.{same_names}
use Rattle.rows.specs.RowKinds.{leads_component}
use Rattle.law.specs.Rows.{capacity}
use Rattle.write.specs.WholeRows.{whole_rows, row_in}
use Rattle.write.specs.Writable.{names_it, named_in}
use Rattle.write.proofs.RowLaws.{row_here, row_none}

module _ (bytes : List ℕ) (x y : List ℤ) (a : Bool) (e : a ≡ leads_component y) where
  pub names_not : a ≡ false → false ≡ names_it bytes x y
  unfolding names_it
  names_not h = rw (sym e ∙ h)

  pub names_by : (b : Bool) → a ≡ true → b ≡ same_names bytes x bytes y → b ≡ names_it bytes x y
  unfolding names_it
  names_by b h i = rw (sym e ∙ h) i

-- rows behind one
pub record Seeking (rows : List ℤ) (bytes : List ℕ) (from : ℕ) (x : List ℤ) (i : ℕ) : Type 0 where
  pub left : named_in bytes x (drop i (whole_rows rows)) ≡ named_in bytes x (drop from (whole_rows rows))

pub seek_start : (rows : List ℤ) (bytes : List ℕ) (from : ℕ) (x : List ℤ) → Seeking rows bytes from x from
seek_start rows bytes from x = record { left = refl }

module _ (rows : List ℤ) (bytes : List ℕ) (from : ℕ) (x : List ℤ) (i : ℕ) (r : Seeking rows bytes from x i) where
  pub seek_over : capacity (length rows) ≤ i → false ≡ named_in bytes x (drop from (whole_rows rows))
  unfolding named_in
  seek_over h = rw (row_none rows i h) at r.left

  module _ (h : i < capacity (length rows)) (row : List ℤ) (a : row ≡ row_in rows i) (b : Bool) (e : b ≡ names_it bytes x row) where
    seek_here : named_in bytes x (drop i (whole_rows rows)) ≡ (b || named_in bytes x (drop (i + 1) (whole_rows rows)))
    unfolding named_in
    seek_here = rw (row_here rows i h, e, a)

    pub seek_found : b ≡ true → true ≡ named_in bytes x (drop from (whole_rows rows))
    seek_found k = sym (rw k at seek_here) ∙ r.left

    pub seek_more : b ≡ false → Seeking rows bytes from x (i + 1)
    seek_more k = record { left = sym (rw k at seek_here) ∙ r.left }
