-- The canonical text of a permitted list is a file that says it, so writing and reading give the list and the text back.
use Prim.Native.Nat.{ℕ, ◌*◌, ◌≤◌}
use mathlib.Core.Path.{◌≡◌, refl, sym, ap, ◌∙◌, subst}
use mathlib.Core.Logic.{◌↔◌}
use mathlib.Core.List.{List, ◌++◌, append-nil}
use native.Mathlib.Omega.{arith}
use lib.IntN.{ℤ}
use lib.ListN.{length, take, drop, drop_of_length-le}
use lib.Seq.{take_at}
use Rattle.law.specs.Values.{Rec}
use Rattle.law.specs.declared.Rules.{Rules}
use Rattle.law.specs.declared.Rules.TheVariants.{Idf3}
use Rattle.law.specs.Rows.{stride, capacity, RowsMean, RowsSay}
use Rattle.law.specs.Lists.{Permitted, Distinct}
use Rattle.law.specs.Answers.{limit, reply}
use Rattle.read.specs.Replies.{check_reply, rows_of, read_rows}
use Rattle.write.specs.Outcomes.{write_reply, write_text}
use Rattle.law.specs.Files.{titled, FileSays}
use Rattle.shown_told.proofs.WellFormedLists.{permitted_fit}
use Rattle.shown_told.proofs.Mending.{canonical_lines, canonical_file, canonical_spell}
use Rattle.shown_told.proofs.WholeFiles.{one_list}
use Rattle.shown_read.proofs.Checked.{check_rows, check_long, check_count}
use Rattle.shown_read.proofs.ReadSays.{read_puts}
use Rattle.shown_places.proofs.FileRows.{rows_at}
use Rattle.shown_places.proofs.LineNumbers.{lines_rise}
use Rattle.law.specs.Canonical.{canonical_text}
use Rattle.shown_write.proofs.WholeRows.{all_whole}
use Rattle.shown_write.proofs.RowsWritten.{write_says, write_puts}

module _ (v : Rules) where
  -- the canonical text of a list that a file may say is a file that says it
  pub canonical_spells : {rs : List Rec} → Permitted v rs → Distinct v rs → FileSays v rs (canonical_text v rs)
  canonical_spells {rs} p d =
      let f = permitted_fit p in
      let u = titled rs in
      record {
        lines = canonical_lines v rs;
        made = canonical_file v u f;
        say = record { spelled = canonical_spell v u f; permitted = p; distinct = d };
      }

  -- no two such lists have one text
  pub one_text : {rs qs : List Rec} → Permitted v rs → Distinct v rs → Permitted v qs → Distinct v qs → (canonical_text v rs ≡ canonical_text v qs) ↔ (rs ≡ qs)
  one_text {rs} {qs} p d q e = (
    λ h. one_list v (canonical_spells p d) (subst (FileSays v qs) (sym h) (canonical_spells q e)),
    λ h. ap (canonical_text v) h,
  )

-- the text is accepted, with as many rows as records, and its rows mean the list
pub round_trip : {rs : List Rec} → Permitted Idf3 rs → Distinct Idf3 rs → length (canonical_text Idf3 rs) ≤ limit
    → (check_reply (canonical_text Idf3 rs) ≡ reply 0 0 (length rs)) × RowsMean (canonical_text Idf3 rs) rs (rows_of (canonical_text Idf3 rs))
round_trip {rs} p d h = let s = canonical_spells Idf3 p d in (check_count (canonical_text Idf3 rs) h s, check_rows (canonical_text Idf3 rs) s)

-- the rows of a file that says a list say it too, over the file, and their lines rise
pub file_rows : (file : List ℕ) {rs : List Rec} → FileSays Idf3 rs file → RowsSay file rs (rows_of file)
file_rows file {rs} s =
    let n : capacity (length (rows_of file)) ≡ length rs = omega (arith, check_long file s) in
    record {
      means = all_whole file (check_rows file s);
      permitted = s.say.permitted;
      distinct = s.say.distinct;
      rising = rw n (lines_rise (rows_at file s s.made) 0 (omega arith));
    }

-- Read, then write

module _ (file : List ℕ) {rs : List Rec} (s : FileSays Idf3 rs file) where
  -- what `read` leaves in front of a slice with room for it are the file's rows
  pub read_front : length file ≤ limit → (old : List ℤ) → length rs ≤ capacity (length old) → take (stride * length rs) (read_rows file old) ≡ rows_of file
  read_front h old i = rw (read_puts file h s old i) (take_at (rows_of file) (drop (length (rows_of file)) old) (stride * length rs) (check_long file s))

  pub write_read_text : length (canonical_text Idf3 rs) ≤ limit → (old : List ℕ) → length (canonical_text Idf3 rs) ≤ length old
      → (write_reply (rows_of file) file (length old) ≡ reply 0 0 (length (canonical_text Idf3 rs)))
      × (write_text (rows_of file) file old ≡ canonical_text Idf3 rs ++ drop (length (canonical_text Idf3 rs)) old)
  write_read_text h old i = let r = file_rows file s in (write_says (rows_of file) file r h (length old) i, write_puts (rows_of file) file r h old i)

-- canonical text is written as itself
module _ {rs : List Rec} (p : Permitted Idf3 rs) (d : Distinct Idf3 rs) (f : List ℕ) (e : f ≡ canonical_text Idf3 rs) (h : length f ≤ limit) (old : List ℕ) where
  pub write_again : length f ≤ length old → (write_reply (rows_of f) f (length old) ≡ reply 0 0 (length f)) × (write_text (rows_of f) f old ≡ f ++ drop (length f) old)
  write_again i =
      let s : FileSays Idf3 rs f = rw e (canonical_spells Idf3 p d) in
      let j : length (canonical_text Idf3 rs) ≤ limit = rw (sym e) h in
      let k : length (canonical_text Idf3 rs) ≤ length old = rw (sym e) i in
      let w = write_read_text f s j old k in
      (rw (sym e) at w.0, rw (sym e) at w.1)

  -- and fills a slice of its length
  pub write_same : length old ≡ length f → write_text (rows_of f) f old ≡ f
  write_same z =
      let i : length f ≤ length old = omega arith in
      let j : length old ≤ length f = omega arith in
      (write_again i).1 ∙ rw (drop_of_length-le old j) (append-nil f)

-- Write, then read

module _ (rows : List ℤ) (bytes : List ℕ) {rs : List Rec} (s : RowsSay bytes rs rows) (h : length (canonical_text Idf3 rs) ≤ limit) (old : List ℕ) (i : length (canonical_text Idf3 rs) ≤ length old) where
  -- what `write` says that it wrote
  abbrev pub wrote : List ℕ
  wrote = take (write_reply rows bytes (length old)).count (write_text rows bytes old)

  pub wrote_is : wrote ≡ canonical_text Idf3 rs
  wrote_is = rw (write_says rows bytes s h (length old) i, write_puts rows bytes s h old i) (take_at (canonical_text Idf3 rs) (drop (length (canonical_text Idf3 rs)) old) (length (canonical_text Idf3 rs)) refl)

  -- is accepted, and its rows mean the list that the rows meant
  pub read_written : (check_reply wrote ≡ reply 0 0 (length rs)) × RowsMean wrote rs (rows_of wrote)
  read_written = rw wrote_is (round_trip s.permitted s.distinct h)
