-- Laws of the verdicts, as the code leaves them.
use Prim.Native.Nat.{ℕ}
use mathlib.Core.Path.{◌≡◌, sym, ◌∙◌}
use mathlib.Core.List.{List}
use mathlib.Core.Bool.{Bool, true, false}
use borrow.Author.Tests.{eq-eqb, ne_eqb}
use Rattle.law.specs.declared.Reply.{Reply}
use Rattle.law.specs.Answers.{verdict}
use Rattle.read.specs.Replies.{check_reply}
use Rattle.same.specs.declared.Ignored.{Ignored}
use Rattle.law.specs.declared.Verdict.{Verdict}
use Rattle.same.specs.Ignoring.{nothing}
use Rattle.same.specs.SameLists.{same_files}
use Rattle.same.specs.Verdicts.{refused_as, found_same, same_reply}

pub found_same_lem : (b : Bool) → b ≡ true → verdict 0 0 1 0 ≡ found_same b
found_same_lem b h = rw h

pub found_other : (b : Bool) → b ≡ false → verdict 0 0 0 0 ≡ found_same b
found_other b h = rw h

module _ (f h : List ℕ) (a : Reply) (e : a ≡ check_reply f) (v : Verdict) where
  pub first_refused : (a.number ≡ 0 → ⊥) → v ≡ refused_as a 1 → v ≡ same_reply f h
  unfolding same_reply
  first_refused k i = i ∙ rw (sym e, ne_eqb a.number 0 k)

  module _ (j : a.number ≡ 0) (b : Reply) (d : b ≡ check_reply h) where
    pub second_refused : (b.number ≡ 0 → ⊥) → v ≡ refused_as b 2 → v ≡ same_reply f h
    unfolding same_reply
    second_refused k i = i ∙ rw (sym e, sym d, eq-eqb a.number 0 j, ne_eqb b.number 0 k)

    pub both_accepted : (g : Ignored) (s : Bool) → b.number ≡ 0 → g ≡ nothing → s ≡ same_files g f h → v ≡ found_same s → v ≡ same_reply f h
    unfolding same_reply
    both_accepted g s k l m i = i ∙ rw (sym e, sym d, eq-eqb a.number 0 j, eq-eqb b.number 0 k, m, l)
