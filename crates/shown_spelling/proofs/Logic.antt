-- Tests and answers, taken apart.
use Prim.Native.Nat.{ℕ}
use mathlib.Core.Path.{◌≡◌, refl}
use mathlib.Core.Bool.{Bool, true, false, cond}
use native.Mathlib.Omega.{arith}
use Rattle.law.specs.declared.refusals.Refusal.{Refusal}
use Rattle.form.specs.Values.{Reply, good, refused}

module _ {A : Type 0} where
  pub refused_good : {n : Refusal} {a : A} → refused n ≡ good a → ⊥
  refused_good {n} {a} e = let z : ◌≡◌ {A = ℕ} 0 1 = cc in omega arith

  -- a test that refuses where it fails, and one that refuses where it passes
  pub cond_good : (n : Refusal) (t : Bool) {x : Reply A} {a : A} → cond t x (refused n) ≡ good a → (t ≡ true) × (x ≡ good a)
  cond_good n true h = (refl, h)
  cond_good n false h = absurd (refused_good h)

  pub cond_not_good : (n : Refusal) (t : Bool) {x : Reply A} {a : A} → cond t (refused n) x ≡ good a → (t ≡ false) × (x ≡ good a)
  cond_not_good n true h = absurd (refused_good h)
  cond_not_good n false h = (refl, h)
