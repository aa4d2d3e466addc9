-- What `write` answers, and what it leaves in the slice.
use Rattle.std.specs.Prelude.{ℕ, List, [], ◌∷◌, ◌++◌, Bool, true, cond, ◌&&◌, ltb, eqb, ℤ, length}
use Rattle.std.proofs.lemmas.List.Edits.{sets}
use Rattle.law.specs.declared.Rules.{Rules}
use Rattle.law.specs.declared.Rules.TheVariants.{Idf3}
use Rattle.law.specs.Answers.{limit, reply}
use Rattle.law.specs.declared.Reply.{Reply}
use Rattle.write_columns.specs.Columns.{row_fits}
use Rattle.write_lines.specs.LineText.{line_text, anywhere}
use Rattle.write.specs.WholeRows.{whole_rows}
use Rattle.write.specs.LineNumbers.{all_rise}
use Rattle.write.specs.Writable.{writable}

-- the lines of rows
unfoldable pub text_of : Rules → List ℕ → List (List ℤ) → List ℕ
text_of v bytes [] = []
text_of v bytes (x ∷ xs) = line_text v bytes x ++ text_of v bytes xs

-- each row fits in some file
unfoldable pub all_fit : Rules → List ℕ → List (List ℤ) → Bool
all_fit v bytes [] = true
all_fit v bytes (x ∷ xs) = row_fits (anywhere v) bytes x && all_fit v bytes xs

-- a text of n bytes: 1 over the limit, 14 with n where the room is less, else 0 with n
abbrev pub sized_reply : ℕ → ℕ → Reply
sized_reply n room = cond (ltb limit n) (reply 1 0 0) (cond (ltb room n) (reply 14 0 n) (reply 0 0 n))

-- the whole rows of a slice are a list that a file may say, and their lines rise
unfoldable pub may_write : Rules → List ℕ → List ℤ → Bool
may_write v bytes rows = all_rise rows && writable v bytes (whole_rows rows)

-- 15 first, where the rows mean nothing that a file may say or their lines do not rise
unfoldable pub write_reply : List ℤ → List ℕ → ℕ → Reply
write_reply rows bytes room = cond (may_write Idf3 bytes rows) (sized_reply (length (text_of Idf3 bytes (whole_rows rows))) room) (reply 15 0 0)

-- the text in front of what was there; on every refusal what was there
unfoldable pub write_text : List ℤ → List ℕ → List ℕ → List ℕ
write_text rows bytes old = cond (eqb (write_reply rows bytes (length old)).number 0) (sets old 0 (text_of Idf3 bytes (whole_rows rows))) old
