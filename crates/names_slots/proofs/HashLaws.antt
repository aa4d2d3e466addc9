-- Laws of the hash, as its loop leaves them.
use Prim.Native.Nat.{ℕ, ◌+◌, ◌*◌, ◌-◌, ◌%◌, ◌≤◌, ◌<◌}
use mathlib.Core.Path.{◌≡◌, refl, sym, ap, ◌∙◌}
use mathlib.Core.List.{List}
use native.Mathlib.Omega.{arith}
use mir.Syntax.{w64}
use mir.Val.{Fits}
use lib.ListN.{length, drop, get_or}
use Rattle.basics.proofs.Lists.{at_cons, at_end}
use Rattle.names_slots.specs.Looks.{looks}
use Rattle.names_slots.specs.Hashes.{hashed, slot_of}

-- what is left of the bytes, behind those that gave n
pub record Hashing (h : ℕ) (s : List ℕ) (n i : ℕ) : Type 0 where
  pub left : hashed n (drop i s) ≡ hashed h s
  pub within : i ≤ length s

pub hash_start : (h : ℕ) (s : List ℕ) → Hashing h s h 0
hash_start h s = record { left = refl; within = omega arith }

pub stirred_fits : (n : ℕ) → Fits w64 ((n % 1_099_511_627_689) * 11_400_715)
stirred_fits n = omega arith

pub sum_fits : (n x : ℕ) → x < 256 → Fits w64 ((n % 1_099_511_627_689) * 11_400_715 + x)
sum_fits n x h = omega arith

module _ (h : ℕ) (s : List ℕ) (n i : ℕ) (a : Hashing h s n i) where
  pub hash_more : (x : ℕ) → i < length s → x ≡ get_or s i 0 → Hashing h s ((n % 1_099_511_627_689) * 11_400_715 + x) (i + 1)
  unfolding hashed
  hash_more x k e = record { left = rw e (sym (ap (hashed n) (at_cons s i k)) ∙ a.left); within = omega arith }

  pub hash_over : length s ≤ i → (n % 1_099_511_627_689) * 11_400_715 ≡ hashed h s
  unfolding hashed
  hash_over k = sym (ap (hashed n) (at_end s i k)) ∙ a.left

pub slot_is : (h n : ℕ) → h % (n - looks) ≡ slot_of h n
unfolding slot_of
slot_is h n = refl
