-- What the answers stand for, by what the lines of a file say.
use Rattle.std.specs.Prelude.{ℕ, ◌+◌, cond, length}
use Rattle.order.specs.Automaton.{accepting}
use Rattle.law.specs.Answers.{reply}
use Rattle.shown_told.specs.Told.{Told, ended, broken}
use Rattle.law.specs.declared.Reply.{Reply}

-- n lines: as many rows as records; 13 where more lines are needed; or the first refused line, counted from 1, and its number
abbrev pub reply_of : Told → ℕ → Reply
reply_of (ended rs st) n = cond (accepting st) (reply 0 0 (length rs)) (reply 13 (n + 1) 0)
reply_of (broken k m) n = reply m (k + 1) 0
