-- Laws of the verdicts, as the code leaves them.
use Prim.Native.Nat.{ℕ, ◌≤◌}
use mathlib.Core.Path.{◌≡◌, sym, ◌∙◌}
use mathlib.Core.List.{List}
use mathlib.Core.Bool.{Bool, true, false, not}
use borrow.Author.Tests.{eq-eqb, ne_eqb, not-true, not-false}
use lib.ListN.{length}
use Rattle.law.specs.declared.FileType.{FileType}
use Rattle.law.specs.Records.{is_library}
use Rattle.law.specs.Answers.{limit, verdict}
use Rattle.law.specs.declared.Verdict.{Verdict}
use Rattle.read.specs.declared.Checked.{Checked}
use Rattle.read.specs.Replies.{examined}
use Rattle.read.proofs.ReplyLaws.{check_examined, accepted_small}
use Rattle.judge.specs.Verdicts.{refused_as, placed, matched, with_library, judge_reply}

-- the kinds of two accepted files
module _ (board library : List ℕ) (t u : FileType) (x : Bool) (i : x ≡ is_library t) (v : Verdict) where
  pub first_wrong : x ≡ true → v ≡ verdict 17 0 0 1 → v ≡ matched board t library u
  unfolding matched
  first_wrong h k = rw (sym i ∙ h) k

  module _ (h : x ≡ false) (y : Bool) (j : y ≡ is_library u) where
    pub second_wrong : not y ≡ true → v ≡ verdict 17 0 0 2 → v ≡ matched board t library u
    unfolding matched
    second_wrong g k = rw (sym i ∙ h, sym j ∙ not-true y g) k

    pub both_right : not y ≡ false → v ≡ placed board library → v ≡ matched board t library u
    unfolding matched
    both_right g k = rw (sym i ∙ h, sym j ∙ not-false y g) k

-- an accepted file is not too large
pub examined_small : (file : List ℕ) (c : Checked) → c ≡ examined file → c.reply.number ≡ 0 → length file ≤ limit
examined_small file c e h = accepted_small file c.reply (check_examined file c e) h

-- two whole files
module _ (board : List ℕ) (t : FileType) (library : List ℕ) (c : Checked) (e : c ≡ examined library) (v : Verdict) where
  pub second_refused : (c.reply.number ≡ 0 → ⊥) → v ≡ refused_as c.reply 2 → v ≡ with_library board t library
  unfolding with_library
  second_refused h k = rw (sym e, ne_eqb c.reply.number 0 h) k

  pub both_accepted : c.reply.number ≡ 0 → v ≡ matched board t library c.file → v ≡ with_library board t library
  unfolding with_library
  both_accepted h k = rw (sym e, eq-eqb c.reply.number 0 h) k

module _ (board library : List ℕ) (c : Checked) (e : c ≡ examined board) (v : Verdict) where
  pub first_refused : (c.reply.number ≡ 0 → ⊥) → v ≡ refused_as c.reply 1 → v ≡ judge_reply board library
  unfolding judge_reply
  first_refused h k = rw (sym e, ne_eqb c.reply.number 0 h) k

  pub first_accepted : c.reply.number ≡ 0 → v ≡ with_library board c.file library → v ≡ judge_reply board library
  unfolding judge_reply
  first_accepted h k = rw (sym e, eq-eqb c.reply.number 0 h) k
