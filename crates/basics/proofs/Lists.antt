-- Laws of lists that loops cite: what stands at an index, and what a part of a slice is.
use Prim.Native.Nat.{ℕ, zero, suc, ◌+◌, ◌-◌, ◌≤◌, ◌<◌}
use mathlib.Core.Path.{◌≡◌, refl}
use mathlib.Core.List.{List, [], ◌∷◌}
use mathlib.Core.Bool.{Bool, true, false}
use native.Mathlib.Omega.{arith}
use native.Mathlib.Numerals.{add-one}
use lib.ListN.{length, take, drop, get_or, length-drop}
use lib.Seq.{drop-cons, take_all}
use Rattle.law.specs.Bytes as by
use Rattle.law.specs.Bytes.{All, all_of}
use Rattle.basics.proofs.Bools.{and_left, and_right}

-- the list from an index: what stands there and the rest, or nothing
pub at_cons : (s : List ℕ) (i : ℕ) → i < length s → drop i s ≡ get_or s i 0 ∷ drop (i + 1) s
at_cons s i h = rw (add-one, drop-cons s i 0)

pub at_end : (s : List ℕ) (i : ℕ) → length s ≤ i → drop i s ≡ []
at_end [] zero h = refl
at_end [] (suc i) h = refl
at_end (x ∷ s) zero h = absurd (omega arith)
at_end (x ∷ s) (suc i) h = at_end s i (omega arith)

-- a part from a place to the end is what `drop` leaves
pub rest : (a : ℕ) (s : List ℕ) → take (length s - a) (drop a s) ≡ drop a s
rest a s = take_all (length s - a) (drop a s) (omega (arith, length-drop a s))

-- a test of all bytes, at an index
module _ (p : ℕ → Bool) (s : List ℕ) (i : ℕ) where
  pub all_more : i < length s → p (get_or s i 0) ≡ true → all_of p (drop i s) ≡ all_of p (drop (i + 1) s)
  unfolding all_of
  all_more h t = rw (at_cons s i h, t)

  pub all_stop : i < length s → p (get_or s i 0) ≡ false → all_of p (drop i s) ≡ false
  unfolding all_of
  all_stop h t = rw (at_cons s i h, t)

  pub all_over : length s ≤ i → all_of p (drop i s) ≡ true
  unfolding all_of
  all_over h = rw (at_end s i h)

-- the test and the rule say the same
pub all_sound : (p : ℕ → Bool) (s : List ℕ) → all_of p s ≡ true → All p s
unfolding all_of
all_sound p [] h = by.none
all_sound p (b ∷ s) h = by.one (and_left _ _ h) (all_sound p s (and_right (p b) _ h))

pub all_complete : (p : ℕ → Bool) {s : List ℕ} → All p s → all_of p s ≡ true
unfolding all_of
all_complete p by.none = refl
all_complete p (by.one h a) = rw h (all_complete p a)
