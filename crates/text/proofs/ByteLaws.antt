-- Laws of the byte classes, and of a line whose bytes are all permitted.
use Prim.Native.Nat.{ℕ, ◌+◌, ◌≤◌, ◌<◌}
use mathlib.Core.Path.{◌≡◌, refl, sym, ap, ◌∙◌}
use mathlib.Core.List.{List}
use mathlib.Core.Logic.{◌≢◌}
use mathlib.Core.Bool.{Bool, true, false, cond, ◌&&◌, and_assoc, and-true}
use native.Mathlib.Omega.{arith}
use borrow.Author.Tests.{le-leb, lt-leb, eq-eqb, ne_eqb, eqb-true}
use lib.Dec.{eqb}
use lib.ListN.{length, drop, get_or}
use Rattle.basics.proofs.Lists.{at_cons, at_end}
use Rattle.law.specs.Bytes.{permitted, all_of}
use Rattle.text.specs.Bytes.{class_of}
use Rattle.text.specs.declared.ByteClass.{ByteClass}
use Rattle.text.specs.declared.ByteClass.TheVariants.{Space, Quote, Permitted, Forbidden}

pub space_class : (b : ℕ) → b ≡ 32 → Space ≡ class_of b
unfolding class_of
space_class b h = simp (eq-eqb b 32 h)

pub quote_class : (b : ℕ) → b ≡ 34 → Quote ≡ class_of b
unfolding class_of
quote_class b h = rw h

pub low_class : (b : ℕ) → 32 ≤ b → b ≤ 126 → b ≢ 32 → b ≢ 34 → Permitted ≡ class_of b
unfolding class_of permitted
low_class b l h n m = simp (ne_eqb b 32 n, ne_eqb b 34 m, le-leb 32 b l, le-leb b 126 h)

pub high_class : (b : ℕ) → 128 ≤ b → b ≤ 255 → Permitted ≡ class_of b
unfolding class_of permitted
high_class b h l = simp (ne_eqb b 32 (omega arith), ne_eqb b 34 (omega arith), le-leb 32 b (omega arith), lt-leb b 126 (omega arith), le-leb 128 b h, le-leb b 255 l)

pub control_class : (b : ℕ) → b < 32 → Forbidden ≡ class_of b
unfolding class_of permitted
control_class b h = simp (ne_eqb b 32 (omega arith), ne_eqb b 34 (omega arith), lt-leb 32 b h)

pub delete_class : (b : ℕ) → b ≡ 127 → Forbidden ≡ class_of b
unfolding class_of permitted
delete_class b h = rw h

-- every class but the forbidden one is permitted
abbrev pub allowed : ByteClass → Bool
allowed Space = true
allowed Quote = true
allowed Permitted = true
allowed Forbidden = false

pub class_permits : (b : ℕ) → permitted b ≡ allowed (class_of b)
unfolding class_of permitted
class_permits b = go (eqb b 32) (eqb b 34) (permitted b) (λ h. rw (eqb-true b 32 h)) (λ h. rw (eqb-true b 34 h))
  where
    go : (s q p : Bool) → (s ≡ true → p ≡ true) → (q ≡ true → p ≡ true) → p ≡ allowed (cond s Space (cond q Quote (cond p Permitted Forbidden)))
    go true q p f g = f refl
    go false true p f g = g refl
    go false false true f g = refl
    go false false false f g = refl

pub class_allows : (b : ℕ) (k : ByteClass) → k ≡ class_of b → allowed k ≡ permitted b
class_allows b k e = ap allowed e ∙ sym (class_permits b)

pub forbidden_not : (b : ℕ) (k : ByteClass) → k ≡ class_of b → k ≡ Forbidden → false ≡ permitted b
forbidden_not b k e h = sym (ap allowed h) ∙ class_allows b k e

pub other_permitted : (b : ℕ) (k : ByteClass) → k ≡ class_of b → (k ≡ Forbidden → ⊥) → true ≡ permitted b
other_permitted b Space e n = class_allows b Space e
other_permitted b Quote e n = class_allows b Quote e
other_permitted b Permitted e n = class_allows b Permitted e
other_permitted b Forbidden e n = absurd (n refl)

-- all bytes permitted, those passed and those left
pub record Cleaning (line : List ℕ) (good : Bool) (i : ℕ) : Type 0 where
  pub left : (good && all_of permitted (drop i line)) ≡ all_of permitted line

pub clean_start : (line : List ℕ) → Cleaning line true 0
clean_start line = record { left = refl }

module _ (line : List ℕ) (good : Bool) (i : ℕ) (c : Cleaning line good i) where
  pub clean_more : (r : Bool) → i < length line → r ≡ permitted (get_or line i 0) → Cleaning line (good && r) (i + 1)
  unfolding all_of
  clean_more r h e = record { left = and_assoc good r (all_of permitted (drop (i + 1) line)) ∙ rw e (sym (ap (λ (s : List ℕ). good && all_of permitted s) (at_cons line i h)) ∙ c.left) }

  pub clean_over : length line ≤ i → good ≡ all_of permitted line
  unfolding all_of
  clean_over h = sym (and-true good) ∙ sym (ap (λ (s : List ℕ). good && all_of permitted s) (at_end line i h)) ∙ c.left
