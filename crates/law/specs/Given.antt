-- "No. | given exactly when": what each answer says of a file, or of rows and bytes, by the rules for producing files.
use Rattle.std.specs.Prelude.{ℕ, ◌+◌, ◌≤◌, ◌<◌, List, ◌∷◌, ◌++◌, ℤ, length, take, drop}
use Rattle.law.specs.Lines.{File}
use Rattle.law.specs.Values.{Rec}
use Rattle.law.specs.declared.Rules.TheVariants.{Idf3}
use Rattle.law.specs.Answers.{limit, reply}
use Rattle.law.specs.declared.Reply.{Reply}
use Rattle.law.specs.Files.{FileSays, Mendable}
use Rattle.law.specs.LineFaults.{FaultyAfter}
use Rattle.law.specs.Canonical.{canonical_text}
use Rattle.law.specs.Rows.{RowsSay}

-- line k, counted from 0, fails: some further lines after those before it make a file that says a list, and none after those up to and with it do
abbrev pub Fails : List (List ℕ) → ℕ → Type 0
Fails ls k = (k < length ls) × Mendable Idf3 (take k ls) × (Mendable Idf3 (take (k + 1) ls) → ⊥)

-- a file says no list, though some further lines after its own make a file that does
abbrev pub Short : List (List ℕ) → List ℕ → Type 0
Short ls file = Mendable Idf3 ls × ((rs : List Rec) → FileSays Idf3 rs file → ⊥)

-- a result, or a refusal with a number and a line: the first that is faulty, counted from 1
pub data Answered (file : List ℕ) : Reply → Type 0 where
  accepted : {rs : List Rec} → length file ≤ limit → FileSays Idf3 rs file → Answered file (reply 0 0 (length rs))
  too_large : limit < length file → Answered file (reply 1 0 0)
  refused : (ls : List (List ℕ)) (l : List ℕ) (more : List (List ℕ)) {n : ℕ} → length file ≤ limit → File (ls ++ (l ∷ more)) file → FaultyAfter Idf3 ls l n
      → Answered file (reply n (length ls + 1) 0)
  too_early : {ls : List (List ℕ)} → length file ≤ limit → File ls file → Short ls file → Answered file (reply 13 (length ls + 1) 0)

-- what `write` answers and leaves in a slice that held `old`
pub data Written (rows : List ℤ) (bytes old : List ℕ) : Reply → List ℕ → Type 0 where
  no_list : ((rs : List Rec) → RowsSay bytes rs rows → ⊥) → Written rows bytes old (reply 15 0 0) old
  too_large : {rs : List Rec} → RowsSay bytes rs rows → limit < length (canonical_text Idf3 rs) → Written rows bytes old (reply 1 0 0) old
  too_short : {rs : List Rec} → RowsSay bytes rs rows → length (canonical_text Idf3 rs) ≤ limit → length old < length (canonical_text Idf3 rs)
      → Written rows bytes old (reply 14 0 (length (canonical_text Idf3 rs))) old
  whole : {rs : List Rec} → RowsSay bytes rs rows → length (canonical_text Idf3 rs) ≤ limit → length (canonical_text Idf3 rs) ≤ length old
      → Written rows bytes old (reply 0 0 (length (canonical_text Idf3 rs))) (canonical_text Idf3 rs ++ drop (length (canonical_text Idf3 rs)) old)
