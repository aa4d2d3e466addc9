-- Laws of padded rows: compared with bytes, and what a match says of the row without its padding.
use Prim.Native.Nat.{ℕ, zero, suc, ◌≤◌, ◌<◌}
use mathlib.Core.Path.{◌≡◌, refl, sym, ap, ◌∙◌}
use mathlib.Core.List.{List, [], ◌∷◌}
use mathlib.Core.Bool.{Bool, true, false, cond, not, ◌&&◌, ◌||◌, true≢false, false≢true}
use native.Mathlib.Omega.{arith}
use lib.Dec.{leb, eqb, leb-suc-zero, leb-suc-suc}
use borrow.Author.Tests.{eq-eqb, ne_eqb, le-leb}
use lib.ListN.{length, get_or}
use Rattle.std.specs.List.{list_all, zip}
use Rattle.basics.proofs.Bools.{and_left, and_right}
use Rattle.law.specs.Words.{same_bytes, capital, folded}
use Rattle.form_words.specs.Padded.{trimmed, agree, agrees_at, matched}

-- more bytes than the row has are not the row's
pub matched_long : (row s : List ℕ) → length row < length s → false ≡ matched row s
unfolding matched
matched_long [] [] h = absurd (omega arith)
matched_long [] (b ∷ s) h = refl
matched_long (r ∷ row) [] h = absurd (omega arith)
matched_long (r ∷ row) (b ∷ s) h = go (not (eqb r 32)) (eqb r (capital b)) (matched_long row s (omega arith))
  where
    go : (x y : Bool) → false ≡ matched row s → false ≡ x && (y && matched row s)
    go true true e = e
    go true false e = refl
    go false y e = refl

-- nor are others of which one does not agree
pub matched_not : (row s : List ℕ) → list_all agree (zip row s) ≡ false → false ≡ matched row s
unfolding matched
matched_not [] [] h = sym h
matched_not [] (b ∷ s) h = refl
matched_not (r ∷ row) [] h = absurd (true≢false h)
matched_not (r ∷ row) (b ∷ s) h = go (not (eqb r 32)) (eqb r (capital b)) h (matched_not row s)
  where
    go : (x y : Bool) → (x && y) && list_all agree (zip row s) ≡ false → (list_all agree (zip row s) ≡ false → false ≡ matched row s) → false ≡ x && (y && matched row s)
    go true true k f = f k
    go true false k f = refl
    go false y k f = refl

-- where all agree, t says whether the row ends there or is padded
pub matched_all : (row s : List ℕ) (t : Bool) → list_all agree (zip row s) ≡ true → length s ≤ length row → (length s ≡ length row → t ≡ true) → (length s < length row → t ≡ eqb (get_or row (length s) 0) 32) → t ≡ matched row s
unfolding matched
matched_all [] [] t a h f g = f refl
matched_all [] (b ∷ s) t a h f g = absurd (omega arith)
matched_all (r ∷ row) [] t a h f g = g (omega arith)
matched_all (r ∷ row) (b ∷ s) t a h f g = go (not (eqb r 32)) (eqb r (capital b)) a (λ k. matched_all row s t k (omega arith) (λ e. f (omega arith)) (λ e. g (omega arith)))
  where
    go : (x y : Bool) → (x && y) && list_all agree (zip row s) ≡ true → (list_all agree (zip row s) ≡ true → t ≡ matched row s) → t ≡ x && (y && matched row s)
    go true true k i = i k
    go true false k i = absurd (false≢true k)
    go false y k i = absurd (false≢true k)

-- bytes that are not followed by padding, and bytes that are
pub matched_longer : (row s : List ℕ) → length s < length row → (get_or row (length s) 0 ≡ 32 → ⊥) → false ≡ matched row s
matched_longer row s h k = go (list_all agree (zip row s)) refl
  where
    go : (a : Bool) → list_all agree (zip row s) ≡ a → false ≡ matched row s
    go true e = matched_all row s false e (omega arith) (λ i. absurd (omega arith)) (λ i. sym (ne_eqb _ _ k))
    go false e = matched_not row s e

pub matched_by : (row s : List ℕ) (a : Bool) → a ≡ list_all agree (zip row s) → length s ≤ length row → (length s < length row → get_or row (length s) 0 ≡ 32) → a ≡ matched row s
matched_by row s true e h g = matched_all row s true (sym e) h (λ i. refl) (λ i. sym (eq-eqb _ _ (g i)))
matched_by row s false e h g = matched_not row s (sym e)

-- A byte that tells rows apart: bytes that do not agree there are not the row's
agreed : (row s : List ℕ) (at : ℕ) → matched row s ≡ true → (leb (length s) at || eqb (get_or row at 0) (capital (get_or s at 0))) ≡ true
unfolding matched
agreed [] [] at h = rw (le-leb 0 at (omega arith))
agreed [] (b ∷ s) at h = absurd (false≢true h)
agreed (r ∷ row) [] at h = rw (le-leb 0 at (omega arith))
agreed (r ∷ row) (b ∷ s) zero h = rw (leb-suc-zero (length s)) (and_left (eqb r (capital b)) _ (and_right (not (eqb r 32)) _ h))
agreed (r ∷ row) (b ∷ s) (suc at) h = rw (leb-suc-suc (length s) at) (agreed row s at (and_right (eqb r (capital b)) _ (and_right (not (eqb r 32)) _ h)))

pub matched_there : (row s : List ℕ) (at : ℕ) (t : Bool) → t ≡ agrees_at row s at → t ≡ false → false ≡ matched row s
unfolding agrees_at
matched_there row s at t e h = go (matched row s) refl
  where
    go : (m : Bool) → matched row s ≡ m → false ≡ m
    go true k = absurd (true≢false (sym (agreed row s at k) ∙ sym e ∙ h))
    go false k = refl

pub ruleset matching = (matched_long, matched_longer, matched_by, matched_there)

-- a row matches the bytes that it holds before its padding
pub matched_is : (row s : List ℕ) → matched row s ≡ same_bytes (trimmed row) (folded s)
unfolding matched trimmed same_bytes folded
matched_is [] [] = refl
matched_is [] (b ∷ s) = refl
matched_is (r ∷ row) [] = go (eqb r 32)
  where
    go : (t : Bool) → t ≡ same_bytes (cond t [] (r ∷ trimmed row)) []
    go true = refl
    go false = refl
matched_is (r ∷ row) (b ∷ s) = go (eqb r 32) (matched_is row s)
  where
    go : (t : Bool) → matched row s ≡ same_bytes (trimmed row) (folded s) → not t && (eqb r (capital b) && matched row s) ≡ same_bytes (cond t [] (r ∷ trimmed row)) (capital b ∷ folded s)
    go true e = refl
    go false e = ap (λ (m : Bool). eqb r (capital b) && m) e
