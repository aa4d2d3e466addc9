-- What the contracts of `check`, `read`, `write`, `same`, `judge` and the line reader allow: an answer r, and what the lent slice holds afterwards.
use Rattle.std.specs.Prelude.{ℕ, ◌≡◌, List, ℤ, length}
use Rattle.law.specs.declared.Reply.{Reply}
use Rattle.read.specs.Replies.{check_reply, read_reply, read_rows}
use Rattle.write.specs.Outcomes.{write_reply, write_text}
use Rattle.law.specs.declared.Verdict.{Verdict}
use Rattle.same.specs.Verdicts.{same_reply}
use Rattle.judge.specs.Verdicts.{judge_reply}
use Rattle.viewer.specs.declared.Step.{Step}
use Rattle.viewer.specs.Views.{step_of, places_after}

pub record Checks (file : List ℕ) (r : Reply) : Type 0 where
  pub answer : r ≡ check_reply file

-- the slice held `old` and then holds `new`
pub record Reads (file : List ℕ) (old : List ℤ) (r : Reply) (new : List ℤ) : Type 0 where
  pub answer : r ≡ read_reply file (length old)
  pub left : new ≡ read_rows file old

pub record Writes (rows : List ℤ) (bytes old : List ℕ) (r : Reply) (new : List ℕ) : Type 0 where
  pub answer : r ≡ write_reply rows bytes (length old)
  pub left : new ≡ write_text rows bytes old

pub record Compares (first second : List ℕ) (r : Verdict) : Type 0 where
  pub answer : r ≡ same_reply first second

pub record Judges (board library : List ℕ) (r : Verdict) : Type 0 where
  pub answer : r ≡ judge_reply board library

-- a reader at a place, where the line has the number n: its answer with the place and the line number after it
pub record Shows (file : List ℕ) (at n : ℕ) (old : List ℤ) (s : Step) (new : List ℤ) : Type 0 where
  pub answer : s ≡ step_of file at n (length old)
  pub left : new ≡ places_after file at n old
