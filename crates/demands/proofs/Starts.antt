-- Document 01, "a text is two numbers, its start and length in the file, quotes left off": where every start in the rows of `read` stands, by the rules for producing files.
use Prim.Native.Nat.{ℕ, ◌+◌, ◌*◌, ◌≤◌}
use mathlib.Core.Path.{◌≡◌, sym, ap, subst, ◌∙◌}
use mathlib.Core.Logic.{◌↔◌}
use mathlib.Core.List.{List, ◌∷◌, ◌++◌}
use lib.IntN.{ℤ}
use lib.ListN.{length, take}
use Rattle.law.specs.Lines.{File, Free}
use Rattle.law.specs.Values.{Rec}
use Rattle.law.specs.Fits.{under}
use Rattle.law.specs.declared.Rules.TheVariants.{Idf3}
use Rattle.law.specs.Rows.{stride, capacity, RowsMean}
use Rattle.law.specs.declared.Reply.{Reply}
use Rattle.law.specs.declared.FileType.{FileType}
use Rattle.read.specs.Replies.{rows_of}
use Rattle.law.specs.Files.{titled, FileSays}
use Rattle.shown_told.proofs.WholeFiles as files
use Rattle.shown_write.proofs.RoundTrip as texts
use Rattle.law.specs.RowPlaces.{RowsOf, start_after, LineRow}
use Rattle.shown_places.proofs.FileRows.{rows_at}
use Rattle.shown_places.proofs.OneRow as one
use Rattle.shown_places.proofs.Meant.{rows_meant}
use Rattle.shown_places.proofs.LinePlaces as places
use Rattle.demands.specs.Outcomes.{Reads}
use Rattle.demands.proofs.Answers.{read_list}

-- `read`, of a file that is made of the lines ls
module _ {file : List ℕ} {old new : List ℤ} {r : Reply} (o : Reads file old r new) (z : r.number ≡ 0) {ls : List (List ℕ)} (m : File ls file) {rs : List Rec} (s : FileSays Idf3 rs file) where
  left : take (stride * length rs) new ≡ rows_of file
  left =
      let w = read_list file (length old) (sym (ap (λ (q : Reply). q.number) o.answer) ∙ z) in
      let e : w.1.0 ≡ rs = files.one_list Idf3 w.1.1 s in
      ap (take (stride * length rs)) o.left ∙ texts.read_front file s w.0 old (subst (λ (k : List Rec). length k ≤ capacity (length old)) e w.1.2)

  -- what it leaves are the rows of the lines, in which each start is the place of the field's own first byte, and the last number that of the line
  pub starts : RowsOf (under Idf3 (titled rs)) file ls rs (take (stride * length rs) new)
  starts = subst (RowsOf (under Idf3 (titled rs)) file ls rs) (sym left) (rows_at file s m)

  -- and no other numbers are
  pub starts_iff : (xs : List ℤ) → RowsOf (under Idf3 (titled rs)) file ls rs xs ↔ (xs ≡ take (stride * length rs) new)
  starts_iff xs = (λ p. one.rows_one p starts, λ e. subst (RowsOf (under Idf3 (titled rs)) file ls rs) (sym e) starts)

-- the row of one line, of those that are no comment and not blank
pub starts_line : {file : List ℕ} {old new : List ℤ} {r : Reply} → Reads file old r new → r.number ≡ 0 → (us : List (List ℕ)) (l : List ℕ) (ms : List (List ℕ)) → File (us ++ (l ∷ ms)) file
    → {rs : List Rec} → FileSays Idf3 rs file → (Free l → ⊥) → LineRow (under Idf3 (titled rs)) (start_after file 0 us) (1 + length us) l rs (take (stride * length rs) new)
starts_line o z us l ms m s h = places.line_row us l ms h (starts o z m s)

-- rows by their places mean their list: the places say no less than `RowsMean`
pub starts_mean : {t : FileType} {file : List ℕ} {ls : List (List ℕ)} {rs : List Rec} {xs : List ℤ} → File ls file → RowsOf (under Idf3 t) file ls rs xs → RowsMean file rs xs
starts_mean m p = rows_meant m p
