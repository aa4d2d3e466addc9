-- Laws of bytes compared: what the test says, and how a loop over two slices follows it.
use Prim.Native.Nat.{ℕ}
use mathlib.Core.Path.{◌≡◌, refl, sym, ap, ap₂}
use mathlib.Core.Logic.{◌≢◌}
use mathlib.Core.List.{List, [], ◌∷◌}
use mathlib.Core.Bool.{Bool, true, false, ◌&&◌, false≢true}
use borrow.Author.Tests.{eqb-true}
use lib.Dec.{eqb}
use lib.ListN.{length}
use Rattle.std.specs.Cmp.Lexicographic.{pointwise}
use Rattle.law.specs.Words.{same_bytes}
use Rattle.basics.proofs.Bools.{both, not_both, fails, eqb_self}

pub bytes_true : (s t : List ℕ) → same_bytes s t ≡ true → s ≡ t
unfolding same_bytes
bytes_true [] [] h = refl
bytes_true [] (b ∷ t) h = absurd (false≢true h)
bytes_true (a ∷ s) [] h = absurd (false≢true h)
bytes_true (a ∷ s) (b ∷ t) h = let w = both (eqb a b) (same_bytes s t) h in ap₂ (λ (n : ℕ) (l : List ℕ). n ∷ l) (eqb-true a b w.0) (bytes_true s t w.1)

pub bytes_self : (s : List ℕ) → same_bytes s s ≡ true
unfolding same_bytes
bytes_self [] = refl
bytes_self (a ∷ s) = rw (eqb_self a) (bytes_self s)

pub bytes_same : (s t : List ℕ) → s ≡ t → same_bytes s t ≡ true
bytes_same s t e = rw e (bytes_self t)

pub bytes_false : (s t : List ℕ) → same_bytes s t ≡ false → s ≢ t
bytes_false s t h e = not_both (bytes_same s t e) h

pub bytes_differ : (s t : List ℕ) → s ≢ t → same_bytes s t ≡ false
bytes_differ s t n = fails s t (same_bytes s t) (bytes_true s t) n

-- slices of other lengths differ
pub len_differ : (s t : List ℕ) → (length s ≡ length t → ⊥) → false ≡ same_bytes s t
len_differ s t h = sym (bytes_differ s t (λ e. h (ap length e)))

-- what `==` answers of two slices
pub pointwise_bytes : (s t : List ℕ) → pointwise eqb s t ≡ same_bytes s t
unfolding same_bytes
pointwise_bytes [] [] = refl
pointwise_bytes [] (b ∷ t) = refl
pointwise_bytes (a ∷ s) [] = refl
pointwise_bytes (a ∷ s) (b ∷ t) = ap (λ (r : Bool). eqb a b && r) (pointwise_bytes s t)
