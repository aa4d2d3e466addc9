-- Laws of tests and of optional answers, taken apart and put together.
use Prim.Native.Nat.{ℕ}
use mathlib.Core.Path.{◌≡◌, refl, sym, ◌∙◌}
use mathlib.Core.Logic.{◌≢◌, ◌⊎◌, inl, inr}
use mathlib.Core.Option.{none, some}
use mathlib.Core.Bool.{Bool, true, false, cond, not, ◌&&◌, ◌||◌, true≢false, false≢true}
use native.Mathlib.Omega.{arith}
use borrow.Author.Tests.{eq-eqb}
use lib.Dec.{eqb}

-- both of two tests pass
pub and_left : (a b : Bool) → a && b ≡ true → a ≡ true
and_left true b h = refl
and_left false b h = h

pub and_right : (a b : Bool) → a && b ≡ true → b ≡ true
and_right true b h = h
and_right false b h = absurd (false≢true h)

pub both : (a b : Bool) → (a && b) ≡ true → (a ≡ true) × (b ≡ true)
both a b h = (and_left a b h, and_right a b h)

pub and_both : (a b : Bool) → a ≡ true → b ≡ true → (a && b) ≡ true
and_both a b p q = rw (p, q)

-- not both, since the second does not
pub and_none : (a b : Bool) → b ≡ false → (a && b) ≡ false
and_none true b h = h
and_none false b h = refl

-- neither of two tests passes
pub or_left : (a b : Bool) → (a || b) ≡ false → a ≡ false
or_left true b h = h
or_left false b h = refl

pub or_right : (a b : Bool) → (a || b) ≡ false → b ≡ false
or_right true b h = absurd (true≢false h)
or_right false b h = h

pub neither : (a b : Bool) → (a || b) ≡ false → (a ≡ false) × (b ≡ false)
neither a b h = (or_left a b h, or_right a b h)

-- one of two tests passes
pub or_first : (a b : Bool) → a ≡ true → (a || b) ≡ true
or_first a b h = rw h

pub or_second : (a b : Bool) → b ≡ true → (a || b) ≡ true
or_second true b h = refl
or_second false b h = h

pub either : (a b : Bool) → (a || b) ≡ true → (a ≡ true) ⊎ (b ≡ true)
either true b h = inl refl
either false b h = inr h

pub other : (a b : Bool) → a ≡ false → (a || b) ≡ true → b ≡ true
other true b e h = absurd (false≢true (sym e))
other false b e h = h

-- no test passes and fails
pub not_both : {a : Bool} → a ≡ true → a ≡ false → ⊥
not_both p q = true≢false (sym p ∙ q)

-- two tests agree
abbrev pub same_flag : Bool → Bool → Bool
same_flag true b = b
same_flag false b = not b

pub flag_eq : (a b : Bool) → same_flag a b ≡ true → a ≡ b
flag_eq true b h = sym h
flag_eq false true h = absurd (false≢true h)
flag_eq false false h = refl

-- a test that is true only where two things are equal is false where they differ
pub fails : {A : Type 0} (a b : A) (t : Bool) → (t ≡ true → a ≡ b) → a ≢ b → t ≡ false
fails a b true f n = absurd (n (f refl))
fails a b false f n = refl

pub eqb_self : (n : ℕ) → eqb n n ≡ true
eqb_self n = eq-eqb n n refl

-- a choice by a test
pub cond_cases {ℓ} : {A : Type ℓ} (t : Bool) {x y z : A} → cond t x y ≡ z → ((t ≡ true) × (x ≡ z)) ⊎ ((t ≡ false) × (y ≡ z))
cond_cases true h = inl (refl, h)
cond_cases false h = inr (refl, h)

pub cond_both {ℓ} : {A : Type ℓ} (t : Bool) {x y z : A} → x ≡ z → y ≡ z → cond t x y ≡ z
cond_both true p q = p
cond_both false p q = q

-- no answer is none and some
pub none_some : {A : Type 0} {a : A} → none ≡ some a → ⊥
none_some {A} {a} e = let z : ◌≡◌ {A = ℕ} 0 1 = cc in omega arith
