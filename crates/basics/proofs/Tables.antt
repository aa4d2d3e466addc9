-- A rule of a table, proved at all of its entries by one test that antt computes; a match on a number answers what a table has there, a law for each kind of arm.
use Prim.Native.Nat.{ℕ, zero, suc, ◌+◌, ◌-◌, ◌≤◌, ◌<◌}
use mathlib.Core.Path.{◌≡◌, sym, ◌∙◌}
use mathlib.Core.Logic.{⊎_elim}
use mathlib.Core.Bool.{Bool, true, ◌&&◌, ◌||◌}
use native.Mathlib.Nat.{eq-or-lt_of_le}
use native.Mathlib.Omega.{arith}
use borrow.Author.Tests.{eqb-true, ne_eqb}
use lib.Dec.{eqb}
use Rattle.basics.proofs.Bools.{and_left, and_right}

-- the test f passes at each number below n
abbrev pub all_below : ℕ → (ℕ → Bool) → Bool
all_below zero f = true
all_below (suc n) f = f n && all_below n f

pub below_all : (n : ℕ) (f : ℕ → Bool) → all_below n f ≡ true → (k : ℕ) → k < n → f k ≡ true
below_all zero f t k h = absurd (omega arith)
below_all (suc n) f t k h = ⊎_elim (λ e. rw e (and_left (f n) _ t)) (λ l. below_all n f (and_right (f n) _ t) k l) (eq-or-lt_of_le {n = k} {m = n} (omega arith))

-- an arm of one number
pub at_number : {A : Type 0} (f : ℕ → A) (n m : ℕ) (x : A) → n ≡ m → x ≡ f m → x ≡ f n
at_number f n m x h e = rw h e

-- an arm of the m numbers from lo on
pub in_range : (f : ℕ → ℕ) (x lo m : ℕ) → all_below m (λ i. eqb x (f (lo + i))) ≡ true → (n : ℕ) → lo ≤ n → n < lo + m → x ≡ f n
in_range f x lo m t n h l =
    let e : lo + (n - lo) ≡ n = omega arith in
    rw e at (eqb-true x (f (lo + (n - lo))) (below_all m (λ i. eqb x (f (lo + i))) t (n - lo) (omega arith)))

-- all numbers below m but one
pub but_one : (f : ℕ → ℕ) (x one m : ℕ) → all_below m (λ i. eqb i one || eqb x (f i)) ≡ true → (n : ℕ) → n < m → (n ≡ one → ⊥) → x ≡ f n
but_one f x one m t n h l =
    let e : eqb n one || eqb x (f n) ≡ eqb x (f n) = rw (ne_eqb n one l) in
    eqb-true x (f n) (sym e ∙ below_all m (λ i. eqb i one || eqb x (f i)) t n h)

-- none of the m numbers from lo on, as the last arm is told
abbrev pub Missed : ℕ → ℕ → ℕ → Type 0
Missed lo zero n = Unit {0}
Missed lo (suc m) n = Missed lo m n × (n ≡ lo + m → ⊥)

pub over : (lo m n : ℕ) → lo + m ≤ n → Missed lo m n
over lo zero n h = tt
over lo (suc m) n h = (over lo m n (omega arith), λ e. omega arith)

pub below : (lo m n : ℕ) → Missed lo m n → n < lo + m → n < lo
below lo zero n p h = omega arith
below lo (suc m) n (p, q) h = below lo m n p (omega arith)

pub past : (lo m n : ℕ) → Missed lo m n → lo ≤ n → lo + m ≤ n
past lo zero n p h = omega arith
past lo (suc m) n (p, q) h = let k = past lo m n p h in omega arith
