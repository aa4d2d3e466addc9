-- Laws of integers compared, and of an i64 read back from its bits.
use mathlib.Core.Path.{◌≡◌, refl, ap, sym, ◌∙◌}
use mathlib.Core.Logic.{◌≢◌}
use mathlib.Core.Bool.{Bool, true, false, ◌&&◌, false≢true}
use mir.Syntax.{w64}
use mir.Val.{SFits, to_z, of_z}
use mir.ValLaws.{to_z-of_z}
use borrow.Author.Tests.{eqb-true, eq-eqb, ne_eqb}
use lib.Dec.{eqb}
use lib.IntN.{ℤ, pos, negsuc}
use Rattle.basics.specs.Integers.{eq_z}
use Rattle.basics.proofs.Bools.{not_both, fails, eqb_self}

pub eq_z_true : (a b : ℤ) → eq_z a b ≡ true → a ≡ b
unfolding eq_z
eq_z_true (pos a) (pos b) h = ap pos (eqb-true a b h)
eq_z_true (pos a) (negsuc b) h = absurd (false≢true h)
eq_z_true (negsuc a) (pos b) h = absurd (false≢true h)
eq_z_true (negsuc a) (negsuc b) h = ap negsuc (eqb-true a b h)

pub eq_z_self : (a : ℤ) → eq_z a a ≡ true
unfolding eq_z
eq_z_self (pos a) = eqb_self a
eq_z_self (negsuc a) = eqb_self a

pub eq_z_same : (a b : ℤ) → a ≡ b → eq_z a b ≡ true
eq_z_same a b e = rw e (eq_z_self b)

pub eq_z_false : (a b : ℤ) → eq_z a b ≡ false → a ≢ b
eq_z_false a b h e = not_both (eq_z_same a b e) h

pub eq_z_differ : (a b : ℤ) → a ≢ b → eq_z a b ≡ false
eq_z_differ a b n = fails a b (eq_z a b) (eq_z_true a b) n

-- an i64 is read back from its bits
abbrev pub back : ℤ → ℤ
back z = to_z w64 (of_z w64 z)

-- two numbers that fit are the same exactly where their bits are
pub bits_same : (a b : ℤ) → SFits w64 a → SFits w64 b → eqb (of_z w64 a) (of_z w64 b) ≡ eq_z a b
bits_same a b fa fb = go (eq_z a b) refl
  where
    go : (t : Bool) → eq_z a b ≡ t → eqb (of_z w64 a) (of_z w64 b) ≡ t
    go true e = eq-eqb (of_z w64 a) (of_z w64 b) (ap (of_z w64) (eq_z_true a b e))
    go false e = ne_eqb (of_z w64 a) (of_z w64 b) (λ h. let z : a ≡ b = sym (to_z-of_z w64 a fa) ∙ ap (to_z w64) h ∙ to_z-of_z w64 b fb in not_both (eq_z_same a b z) e)

pub back_same : (a b : ℤ) (r : Bool) → SFits w64 a → SFits w64 b → r ≡ eq_z (back a) (back b) → r ≡ eq_z a b
back_same a b r fa fb e = rw e (rw (to_z-of_z w64 a fa, to_z-of_z w64 b fb))

pub both_same : (a b c d : ℤ) (r q : Bool) → SFits w64 a → SFits w64 b → SFits w64 c → SFits w64 d → r ≡ eq_z (back a) (back b) → q ≡ eq_z (back c) (back d)
    → (r && q) ≡ (eq_z a b && eq_z c d)
both_same a b c d r q fa fb fc fd e f = rw (back_same a b r fa fb e, back_same c d q fc fd f)

-- with a number that is written in the code
pub same_as : (a b : ℤ) (r : Bool) → SFits w64 a → r ≡ eq_z (back a) b → r ≡ eq_z a b
same_as a b r fa e = rw e (rw (to_z-of_z w64 a fa))
