-- A reply as four numbers: number, line, count, and which of two files was refused, 0 where there is one file; a place as two.
use Rattle.std.specs.Prelude.{ℕ, List, [], ◌∷◌}
use Rattle.law.specs.declared.Reply.{Reply}
use Rattle.law.specs.declared.Verdict.{Verdict}
use Rattle.viewer.specs.declared.Step.{Step}

abbrev pub of_one : Reply → List ℕ
of_one r = r.number ∷ r.line ∷ r.count ∷ 0 ∷ []

abbrev pub of_two : Verdict → List ℕ
of_two v = v.number ∷ v.line ∷ v.count ∷ v.which ∷ []

-- where the next line begins, and its number
abbrev pub of_place : Step → List ℕ
of_place s = s.at ∷ s.line ∷ []
