-- The numbers of an answer are those of what the answer is known to be, as the code leaves them.
use Prim.Native.Nat.{ℕ}
use mathlib.Core.Path.{◌≡◌, ap, ◌∙◌}
use mathlib.Core.List.{List}
use Rattle.law.specs.declared.Reply.{Reply}
use Rattle.law.specs.declared.Verdict.{Verdict}
use Rattle.viewer.specs.declared.Step.{Step}
use Rattle.quayladle.specs.Numbers.{of_one, of_two, of_place}

pub told_one : (r s : Reply) (a : List ℕ) → r ≡ s → a ≡ of_one r → a ≡ of_one s
told_one r s a e i = i ∙ ap of_one e

pub told_two : (v w : Verdict) (a : List ℕ) → v ≡ w → a ≡ of_two v → a ≡ of_two w
told_two v w a e i = i ∙ ap of_two e

-- a step by its parts
pub told_step : (r s : Step) (a : List ℕ) → r ≡ s → a ≡ of_one r.reply → a ≡ of_one s.reply
told_step r s a e i = i ∙ ap (λ (x : Step). of_one x.reply) e

pub told_place : (r s : Step) (a : List ℕ) → r ≡ s → a ≡ of_place r → a ≡ of_place s
told_place r s a e i = i ∙ ap of_place e
