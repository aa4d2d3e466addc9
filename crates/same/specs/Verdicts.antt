-- What `same` answers.
use Rattle.std.specs.Prelude.{ℕ, List, Bool, cond, eqb}
use Rattle.law.specs.declared.Reply.{Reply}
use Rattle.read.specs.Replies.{check_reply}
use Rattle.same.specs.Ignoring.{nothing}
use Rattle.same.specs.SameLists.{same_files}
use Rattle.law.specs.declared.Verdict.{Verdict}
use Rattle.law.specs.Answers.{verdict}

-- a file's own refusal, and which file it is
abbrev pub refused_as : Reply → ℕ → Verdict
refused_as r which = verdict r.number r.line 0 which

-- neither was refused
abbrev pub found_same : Bool → Verdict
found_same b = cond b (verdict 0 0 1 0) (verdict 0 0 0 0)

-- the first file's refusal, else the second's, else 1 if they mean the same and 0 if not
unfoldable pub same_reply : List ℕ → List ℕ → Verdict
same_reply f h =
    cond (eqb (check_reply f).number 0)
    (cond (eqb (check_reply h).number 0) (found_same (same_files nothing f h)) (refused_as (check_reply h) 2))
    (refused_as (check_reply f) 1)
