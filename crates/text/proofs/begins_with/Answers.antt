-- `text::begins_with` meets its contract. Assumes nothing.
use Prim.Native.Nat.{ℕ}
use mathlib.Core.Path.{◌≡◌, refl, ◌∙◌}
use mathlib.Core.List.{List, [], ◌∷◌}
use denote.Bor.{Bor}
use lib.Dec.{eqb}
use Rattle.std.specs.Prelude.{Option, Some, None}
use Rattle.std.specs.List.{slice_get}
use Rattle.std.specs.Option.{option_eq, option_copied}
use Rattle.law.specs.Bytes.{begins}
use Rattle.text.proofs.begins_with.Goals as goal

-- a first byte compared
first_is : (s : List ℕ) (o : Option (Bor ℕ)) (r : Bor ℕ) → option_copied o ≡ slice_get s 0 → option_eq (λ x y. eqb x.now y.now) o (Some r) ≡ begins r.now s
unfolding begins
first_is [] None r e = refl
first_is [] (Some x) r e = cc
first_is (a ∷ s) None r e = cc
first_is (a ∷ s) (Some x) r e = let z : x.now ≡ a = cc in rw z

pub returns : goal.returns
returns c = c.eq.ensures ∙ first_is c.args.s.now c.first.result _ c.first.ensures.value
