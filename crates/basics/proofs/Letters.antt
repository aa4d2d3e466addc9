-- Laws of letters in capitals: what folding keeps, and how a loop over two slices follows it.
use Prim.Native.Nat.{ℕ, zero, suc, ◌-◌, ◌≤◌, ◌<◌}
use mathlib.Core.Path.{◌≡◌, refl, sym, ap, ap₂, ◌∙◌}
use mathlib.Core.List.{List, [], ◌∷◌}
use mathlib.Core.Bool.{Bool, true, false, cond, not, ◌&&◌}
use native.Mathlib.Omega.{arith}
use borrow.Author.Tests.{leb-true, le-leb, lt-leb, ne_eqb}
use lib.Dec.{leb, eqb}
use lib.ListN.{length, get_or}
use Rattle.std.specs.List.{list_all, zip}
use Rattle.law.specs.Bytes.{permitted, all_of, begins}
use Rattle.law.specs.Words.{is_small, capital, folded, same_bytes}
use Rattle.law.specs.Fits.{text_byte}
use Rattle.law.specs.Canonical.{no_space}
use Rattle.basics.specs.Letters.{keyed, cased}
use Rattle.basics.proofs.Bools.{and_left, and_right}
use Rattle.basics.proofs.Bytes.{len_differ}

pub folded_long : (s : List ℕ) → length (folded s) ≡ length s
unfolding folded
folded_long [] = refl
folded_long (b ∷ s) = ap suc (folded_long s)

pub folded_at : (s : List ℕ) (i : ℕ) → get_or (folded s) i 0 ≡ capital (get_or s i 0)
unfolding folded
folded_at [] zero = refl
folded_at [] (suc i) = refl
folded_at (b ∷ s) zero = refl
folded_at (b ∷ s) (suc i) = folded_at s i

-- a small letter, and its capital
module _ (b : ℕ) (h : is_small b ≡ true) where
  from : 97 ≤ b
  from = leb-true 97 b (and_left (leb 97 b) (leb b 122) h)

  to : b ≤ 122
  to = leb-true b 122 (and_right (leb 97 b) (leb b 122) h)

  capital_large : is_small (b - 32) ≡ false
  capital_large = let z : b - 32 < 97 = omega (arith, to) in rw (lt-leb 97 (b - 32) z)

  low_byte : (n : ℕ) → 35 ≤ n → n ≤ 126 → permitted n ≡ true
  unfolding permitted
  low_byte n p q = let y : 32 ≤ n = omega arith in rw (le-leb 32 n y, le-leb n 126 q)

  permitted_stays : permitted (b - 32) ≡ permitted b
  permitted_stays = low_byte (b - 32) (omega (arith, from)) (omega (arith, to)) ∙ sym (low_byte b (omega (arith, from)) (omega (arith, to)))

  other_stays : (c : ℕ) → c < 65 → eqb (b - 32) c ≡ eqb b c
  other_stays c k = let y : b - 32 ≡ c → ⊥ = λ e. omega (arith, from) in let z : b ≡ c → ⊥ = λ e. omega (arith, from) in rw (ne_eqb (b - 32) c y, ne_eqb b c z)

-- a test on a byte that is the same of a small letter and of its capital
by_letter : (f : ℕ → Bool) (b : ℕ) → (is_small b ≡ true → f (b - 32) ≡ f b) → f (capital b) ≡ f b
by_letter f b g = go (is_small b) refl
  where
    go : (t : Bool) → is_small b ≡ t → f (cond t (b - 32) b) ≡ f b
    go true h = g h
    go false h = refl

capital_once : (b : ℕ) → is_small (capital b) ≡ false
capital_once b = go (is_small b) refl
  where
    go : (t : Bool) → is_small b ≡ t → is_small (cond t (b - 32) b) ≡ false
    go true h = capital_large b h
    go false h = h

pub folded_twice : (s : List ℕ) → folded (folded s) ≡ folded s
unfolding folded
folded_twice [] = refl
folded_twice (b ∷ s) = rw (capital_once b) (ap (λ (t : List ℕ). capital b ∷ t) (folded_twice s))

-- folding neither makes nor takes away bytes that no line has, or no text
folded_all : (f : ℕ → Bool) (s : List ℕ) → ((b : ℕ) → is_small b ≡ true → f (b - 32) ≡ f b) → all_of f (folded s) ≡ all_of f s
unfolding folded all_of
folded_all f [] g = refl
folded_all f (b ∷ s) g = ap₂ (λ (x y : Bool). x && y) (by_letter f b (g b)) (folded_all f s g)

pub folded_permitted : (s : List ℕ) → all_of permitted (folded s) ≡ all_of permitted s
folded_permitted s = folded_all permitted s permitted_stays

pub folded_text : (s : List ℕ) → all_of text_byte (folded s) ≡ all_of text_byte s
folded_text s = folded_all text_byte s (λ b h. ap₂ (λ (x y : Bool). x && not y) (permitted_stays b h) (other_stays b h 34 (omega arith)))

pub folded_spaces : (s : List ℕ) → all_of no_space (folded s) ≡ all_of no_space s
folded_spaces s = folded_all no_space s (λ b h. ap (λ (x : Bool). not x) (other_stays b h 32 (omega arith)))

-- nor a first byte that stands before the letters
pub folded_begins : (c : ℕ) (s : List ℕ) → c < 65 → begins c (folded s) ≡ begins c s
unfolding folded begins
folded_begins c [] k = refl
folded_begins c (b ∷ s) k = by_letter (λ n. eqb n c) b (λ h. other_stays b h c k)

-- as they are compared
pub cased_long : (x : Bool) (s : List ℕ) → length (cased x s) ≡ length s
unfolding cased
cased_long true s = folded_long s
cased_long false s = refl

pub letters_length : (x y : Bool) (s t : List ℕ) → (length s ≡ length t → ⊥) → false ≡ same_bytes (cased x s) (cased y t)
letters_length x y s t n = len_differ (cased x s) (cased y t) (λ e. n (sym (cased_long x s) ∙ e ∙ cased_long y t))

-- byte by byte
pub letters_all : (x y : Bool) (s t : List ℕ) → length s ≡ length t
    → list_all (λ p. eqb (keyed x p.0) (keyed y p.1)) (zip s t) ≡ same_bytes (cased x s) (cased y t)
unfolding same_bytes cased folded
letters_all true true [] [] l = refl
letters_all true false [] [] l = refl
letters_all false true [] [] l = refl
letters_all false false [] [] l = refl
letters_all x y [] (b ∷ t) l = absurd (omega arith)
letters_all x y (a ∷ s) [] l = absurd (omega arith)
letters_all true true (a ∷ s) (b ∷ t) l = ap (λ (r : Bool). eqb (capital a) (capital b) && r) (letters_all true true s t (omega arith))
letters_all true false (a ∷ s) (b ∷ t) l = ap (λ (r : Bool). eqb (capital a) b && r) (letters_all true false s t (omega arith))
letters_all false true (a ∷ s) (b ∷ t) l = ap (λ (r : Bool). eqb a (capital b) && r) (letters_all false true s t (omega arith))
letters_all false false (a ∷ s) (b ∷ t) l = ap (λ (r : Bool). eqb a b && r) (letters_all false false s t (omega arith))
