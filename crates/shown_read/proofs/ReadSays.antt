-- Reading: the rows of a file that says a list stand at the front of the slice, and a refusal leaves the slice alone.
use Prim.Native.Nat.{ℕ, ◌≤◌, ◌<◌}
use mathlib.Core.Path.{◌≡◌}
use mathlib.Core.List.{List}
use borrow.Author.Tests.{lt-ltb, le-ltb, ne_eqb}
use lib.IntN.{ℤ}
use lib.ListN.{length}
use Rattle.law.specs.Values.{Rec}
use Rattle.law.specs.declared.Rules.TheVariants.{Idf3}
use Rattle.law.specs.Rows.{capacity}
use Rattle.law.specs.Answers.{limit, reply, over}
use Rattle.read.specs.Replies.{rows_of, read_reply, read_rows}
use Rattle.law.specs.Files.{FileSays}
use Rattle.shown_read.proofs.Checked.{check_count}

-- whatever the refusal
pub untouched : (file : List ℕ) (old : List ℤ) → ((read_reply file (length old)).number ≡ 0 → ⊥) → read_rows file old ≡ old
unfolding read_rows
untouched file old h = rw (ne_eqb (read_reply file (length old)).number 0 h)

module _ (file : List ℕ) (h : length file ≤ limit) {rs : List Rec} (s : FileSays Idf3 rs file) (old : List ℤ) where
  -- too few rows are lent
  pub read_short : capacity (length old) < length rs → read_reply file (length old) ≡ reply 2 0 (length rs)
  unfolding read_reply
  read_short i = rw (check_count file h s, lt-ltb (capacity (length old)) (length rs) i)

  module _ (i : length rs ≤ capacity (length old)) where
    -- enough rows are lent
    pub read_says : read_reply file (length old) ≡ reply 0 0 (length rs)
    unfolding read_reply
    read_says = rw (check_count file h s, le-ltb (capacity (length old)) (length rs) i)

    pub read_puts : read_rows file old ≡ over (rows_of file) old
    unfolding read_rows
    read_puts = rw read_says
