-- What is read, or why it is refused.
use Rattle.law.specs.declared.refusals.Refusal.{Refusal}

-- an answer, or a refusal
pub data Reply (A : Type 0) : Type 0 where
  good : A → Reply A
  refused : Refusal → Reply A
