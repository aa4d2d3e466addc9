-- Laws of the lines of rows, as the code leaves them: their length up to the limit, and their bytes.
use Prim.Native.Nat.{ℕ, ◌+◌, ◌≤◌, ◌<◌}
use mathlib.Core.Path.{◌≡◌, refl, sym, ap, ◌∙◌}
use mathlib.Core.List.{List, [], ◌++◌, append_assoc, append-nil}
use mathlib.Core.Bool.{true, ◌&&◌}
use native.Mathlib.Omega.{arith}
use lib.IntN.{ℤ}
use lib.ListN.{length, drop, length-append}
use lib.Seq.{sets}
use Rattle.basics.proofs.Bools.{and_left, and_right}
use Rattle.number_print.specs.Printing.{Wrote}
use Rattle.number_print.proofs.PrintLaws.{wrote_length, wrote_more}
use Rattle.law.specs.declared.Rules.{Rules}
use Rattle.law.specs.Answers.{limit}
use Rattle.write_columns.specs.Columns.{row_fits}
use Rattle.write_lines.specs.LineText.{line_text, anywhere, up_to}
use Rattle.write_lines.proofs.PieceLaws.{up_again, up_over, up_in, up_small}
use Rattle.law.specs.Rows.{capacity}
use Rattle.write.specs.WholeRows.{whole_rows, row_in}
use Rattle.write.specs.Outcomes.{text_of, all_fit}
use Rattle.write.proofs.RowLaws.{row_here, row_none}

-- rows from number i on fit
module _ (v : Rules) (rows : List ℤ) (bytes : List ℕ) (i : ℕ) (f : all_fit v bytes (drop i (whole_rows rows)) ≡ true) (h : i < capacity (length rows)) (row : List ℤ) (a : row ≡ row_in rows i) where
  both_fit : row_fits (anywhere v) bytes row && all_fit v bytes (drop (i + 1) (whole_rows rows)) ≡ true
  unfolding all_fit
  both_fit = rw a (rw (row_here rows i h) at f)

  row_fit : row_fits (anywhere v) bytes row ≡ true
  row_fit = and_left (row_fits (anywhere v) bytes row) _ both_fit

  rest_fit : all_fit v bytes (drop (i + 1) (whole_rows rows)) ≡ true
  rest_fit = and_right (row_fits (anywhere v) bytes row) _ both_fit

  text_here : text_of v bytes (drop i (whole_rows rows)) ≡ line_text v bytes row ++ text_of v bytes (drop (i + 1) (whole_rows rows))
  unfolding text_of
  text_here = rw (row_here rows i h, a)

text_none : (v : Rules) (rows : List ℤ) (bytes : List ℕ) (i : ℕ) → capacity (length rows) ≤ i → text_of v bytes (drop i (whole_rows rows)) ≡ []
unfolding text_of
text_none v rows bytes i h = rw (row_none rows i h)

-- their length
pub record Counting (v : Rules) (rows : List ℤ) (bytes : List ℕ) (sum i : ℕ) : Type 0 where
  pub fit : all_fit v bytes (drop i (whole_rows rows)) ≡ true
  pub small : sum ≤ limit
  pub left : up_to (sum + length (text_of v bytes (drop i (whole_rows rows)))) ≡ up_to (length (text_of v bytes (whole_rows rows)))

pub count_start : (v : Rules) (rows : List ℤ) (bytes : List ℕ) → all_fit v bytes (whole_rows rows) ≡ true → Counting v rows bytes 0 0
count_start v rows bytes f = record { fit = f; small = omega arith; left = ap up_to (omega arith) }

module _ (v : Rules) (rows : List ℤ) (bytes : List ℕ) (sum i : ℕ) (r : Counting v rows bytes sum i) where
  pub count_small : sum ≤ limit + 1
  count_small = omega (arith, r.small)

  pub count_over : capacity (length rows) ≤ i → sum ≡ up_to (length (text_of v bytes (whole_rows rows)))
  count_over h = let z : sum ≡ sum + length (text_of v bytes (drop i (whole_rows rows))) = omega (arith, ap length (text_none v rows bytes i h)) in up_in sum r.small ∙ ap up_to z ∙ r.left

  module _ (h : i < capacity (length rows)) (row : List ℤ) (a : row ≡ row_in rows i) where
    pub count_fits : row_fits (anywhere v) bytes row ≡ true
    count_fits = row_fit v rows bytes i r.fit h row a

    module _ (m : ℕ) (e : m ≡ up_to (sum + length (line_text v bytes row))) where
      count_next : up_to (m + length (text_of v bytes (drop (i + 1) (whole_rows rows)))) ≡ up_to (length (text_of v bytes (whole_rows rows)))
      count_next =
          let x = line_text v bytes row in
          let y = text_of v bytes (drop (i + 1) (whole_rows rows)) in
          let z : sum + length x + length y ≡ sum + length (text_of v bytes (drop i (whole_rows rows))) = omega (arith, ap length (text_here v rows bytes i r.fit h row a), length-append x y) in
          rw e (up_again (sum + length x) (length y)) ∙ ap up_to z ∙ r.left

      pub count_far : limit < m → m ≡ up_to (length (text_of v bytes (whole_rows rows)))
      count_far k =
          let p : m ≤ limit + 1 = rw e (up_small (sum + length (line_text v bytes row))) in
          let q : m ≡ limit + 1 = omega arith in
          q ∙ up_over (m + length (text_of v bytes (drop (i + 1) (whole_rows rows)))) (omega arith) ∙ count_next

      pub count_more : m ≤ limit → Counting v rows bytes m (i + 1)
      count_more k = record { fit = rest_fit v rows bytes i r.fit h row a; small = k; left = count_next }

-- their bytes
pub record Writing (v : Rules) (rows : List ℤ) (bytes o p : List ℕ) (at i : ℕ) : Type 0 where
  pub fit : all_fit v bytes (drop i (whole_rows rows)) ≡ true
  pub done : List ℕ
  pub wrote : Wrote o p 0 at done
  pub left : done ++ text_of v bytes (drop i (whole_rows rows)) ≡ text_of v bytes (whole_rows rows)

pub write_start : (v : Rules) (rows : List ℤ) (bytes o : List ℕ) → all_fit v bytes (whole_rows rows) ≡ true → Writing v rows bytes o o 0 0
write_start v rows bytes o f = record { fit = f; done = []; wrote = record { is = refl; next = refl }; left = refl }

module _ (v : Rules) (rows : List ℤ) (bytes o p : List ℕ) (at i : ℕ) (r : Writing v rows bytes o p at i) where
  pub write_same : length p ≡ length o
  write_same = wrote_length r.wrote

  pub write_over : capacity (length rows) ≤ i → p ≡ sets o 0 (text_of v bytes (whole_rows rows))
  write_over h =
      let z : r.done ≡ text_of v bytes (whole_rows rows) = sym (append-nil r.done) ∙ ap (λ (l : List ℕ). r.done ++ l) (sym (text_none v rows bytes i h)) ∙ r.left in
      r.wrote.is ∙ ap (sets o 0) z

  module _ (h : i < capacity (length rows)) (row : List ℤ) (a : row ≡ row_in rows i) where
    pub write_fits : row_fits (anywhere v) bytes row ≡ true
    write_fits = row_fit v rows bytes i r.fit h row a

    split : (r.done ++ line_text v bytes row) ++ text_of v bytes (drop (i + 1) (whole_rows rows)) ≡ text_of v bytes (whole_rows rows)
    split =
        append_assoc r.done (line_text v bytes row) (text_of v bytes (drop (i + 1) (whole_rows rows)))
        ∙ ap (λ (l : List ℕ). r.done ++ l) (sym (text_here v rows bytes i r.fit h row a)) ∙ r.left

    pub write_room : length (text_of v bytes (whole_rows rows)) ≤ length o → at + length (line_text v bytes row) ≤ length p
    write_room l =
        let x = line_text v bytes row in
        omega (arith, r.wrote.next, wrote_length r.wrote, ap length split, length-append (r.done ++ x) (text_of v bytes (drop (i + 1) (whole_rows rows))), length-append r.done x)

    pub write_more : (q : List ℕ) (m : ℕ) → Wrote p q at m (line_text v bytes row) → Writing v rows bytes o q m (i + 1)
    write_more q m w = record { fit = rest_fit v rows bytes i r.fit h row a; done = r.done ++ line_text v bytes row; wrote = wrote_more r.wrote w; left = split }
