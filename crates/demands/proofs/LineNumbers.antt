-- W-205, "Each row gains an eleventh number, the line it came from": what the numbers of rows are, and what the writer asks of them. That they are
-- those of the lines which spell the records is part of `records` and `starts`.
use Prim.Native.Nat.{ℕ, ◌*◌, ◌≤◌}
use mathlib.Core.Path.{◌≡◌, ap}
use mathlib.Core.List.{List}
use native.Mathlib.Omega.{arith}
use lib.IntN.{ℤ, pos}
use lib.ListN.{length, take}
use Rattle.law.specs.Values.{Rec}
use Rattle.law.specs.declared.Rules.TheVariants.{Idf3}
use Rattle.law.specs.declared.Reply.{Reply}
use Rattle.law.specs.Rows.{stride, capacity, lines_in, Rises}
use Rattle.law.specs.RowPlaces.{up_from}
use Rattle.law.specs.Lists.{Permitted, Distinct}
use Rattle.law.specs.Files.{titled, FileSays}
use Rattle.law.specs.Answers.{limit}
use Rattle.law.specs.Canonical.{canonical_text}
use Rattle.shown_told.proofs.WellFormedLists.{permitted_fit}
use Rattle.shown_told.proofs.Mending.{canonical_file, canonical_long}
use Rattle.shown_places.proofs.LineNumbers.{lines_rise, lines_counted}
use Rattle.demands.specs.Outcomes.{Reads}
use Rattle.demands.proofs.Demands.{canonical_spells, read_whole}
use Rattle.demands.proofs.Starts.{starts}

-- "The numbers must rise strictly from row to row, starting at 1 or more": those of a file that was read do
pub numbers_rise : {file : List ℕ} {old new : List ℤ} {r : Reply} {rs : List Rec} → Reads file old r new → r.number ≡ 0 → FileSays Idf3 rs file
    → Rises (pos 0) (lines_in (length rs) (take (stride * length rs) new))
numbers_rise o z s = lines_rise (starts o z s.made s) 0 (omega arith)

-- a canonical text has a line for each record, so the lines of its rows are 1, 2, 3, …
pub numbers_counted : {rs : List Rec} {old new : List ℤ} {r : Reply} → Permitted Idf3 rs → Distinct Idf3 rs → length (canonical_text Idf3 rs) ≤ limit
    → Reads (canonical_text Idf3 rs) old r new → length rs ≤ capacity (length old) → lines_in (length rs) (take (stride * length rs) new) ≡ up_from 1 (length rs)
numbers_counted {rs} p d h o i =
    let s = canonical_spells p d in
    let m = canonical_file Idf3 (titled rs) (permitted_fit p) in
    lines_counted (starts o (ap (λ (q : Reply). q.number) (read_whole o h s i)) m s) (canonical_long Idf3 rs)
