-- Bytes of bare fields: numbers, integers, dates and names are of permitted bytes without space and quote, and do not begin with # or a period.
use Prim.Native.Nat.{ℕ, ◌≤◌}
use mathlib.Core.Path.{◌≡◌, refl}
use mathlib.Core.List.{List, [], ◌∷◌, ◌++◌, append-nil}
use mathlib.Core.Bool.{Bool, true, false, cond, not, ◌&&◌, ◌||◌, false≢true}
use native.Mathlib.Omega.{arith}
use borrow.Author.Tests.{ne_eqb, le-leb, leb-true, eqb-true, lt-leb}
use lib.Dec.{leb, eqb}
use lib.IntN.{ℤ}
use Rattle.basics.proofs.Bools.{and_left, and_right}
use Rattle.law.specs.Bytes as by
use Rattle.law.specs.Bytes.{permitted, in_bare, in_quotes, All}
use Rattle.law.specs.Numbers.{Digit, Numeral, Decimals, Unsigned, SpellsNumber}
use Rattle.number.specs.Numbers.{digit_here}
use Rattle.law.specs.Numbers as num
use Rattle.law.specs.Integers.{SpellsInteger, plain, plus, minus}
use Rattle.law.specs.Dates.{Piece, two, mark, date_pieces, is_date}
use Rattle.number_read.proofs.DateLaws.{Made, end, marked, digits, date_made}
use Rattle.number_read.proofs.NumberLaws.{digit_low}
use Rattle.number_read.proofs.NumberSpelling.{numeral_first}
use Rattle.law.specs.Words.{is_capital, is_small}
use Rattle.law.specs.Fits.{text_byte}
use Rattle.law.specs.WordSpelling.{AnyCase, end, same}

abbrev pub tight : ℕ → Bool
tight b = in_bare b && permitted b

-- begins with a byte that is neither # nor a period
abbrev pub safe : List ℕ → Bool
safe [] = false
safe (b ∷ s) = not (eqb b 35 || eqb b 46)

-- Lists
module _ {p : ℕ → Bool} where
  pub all_append : {s t : List ℕ} → All p s → All p t → All p (s ++ t)
  all_append by.none q = q
  all_append (by.one h a) q = by.one h (all_append a q)

  pub all_left : (s t : List ℕ) → All p (s ++ t) → All p s
  all_left [] t q = by.none
  all_left (b ∷ s) t (by.one h a) = by.one h (all_left s t a)

  pub all_right : (s : List ℕ) {t : List ℕ} → All p (s ++ t) → All p t
  all_right [] q = q
  all_right (b ∷ s) (by.one h a) = all_right s a

pub all_map : {p q : ℕ → Bool} {s : List ℕ} → ((b : ℕ) → p b ≡ true → q b ≡ true) → All p s → All q s
all_map f by.none = by.none
all_map f (by.one {b} h a) = by.one (f b h) (all_map f a)

-- two tests passed make a third
pub all_zip : {p q r : ℕ → Bool} {s : List ℕ} → ((b : ℕ) → p b ≡ true → q b ≡ true → r b ≡ true) → All p s → All q s → All r s
all_zip f by.none by.none = by.none
all_zip f (by.one {b} h a) (by.one k e) = by.one (f b h k) (all_zip f a e)

-- Bytes
tight_low : (b : ℕ) → 35 ≤ b → b ≤ 126 → tight b ≡ true
unfolding permitted
tight_low b l h = rw (ne_eqb b 32 (omega arith), ne_eqb b 34 (omega arith), le-leb 32 b (omega arith), le-leb b 126 h)

pub tight_bare : (b : ℕ) → tight b ≡ true → in_bare b ≡ true
tight_bare b h = and_left (in_bare b) _ h

pub tight_permitted : (b : ℕ) → tight b ≡ true → permitted b ≡ true
tight_permitted b h = and_right (in_bare b) _ h

tight_digit : {d b : ℕ} → Digit d b → tight b ≡ true
tight_digit {d} {b} g = tight_low b (omega arith) (omega arith)

-- Numbers
tight_numeral : {n : ℕ} {l : List ℕ} → Numeral n l → All tight l
tight_numeral (num.one g) = by.one (tight_digit g) by.none
tight_numeral (num.more r g) = all_append (tight_numeral r) (by.one (tight_digit g) by.none)

tight_decimals : {w v : ℕ} {l : List ℕ} → Decimals w v l → All tight l
tight_decimals (num.last g z) = by.one (tight_digit g) by.none
tight_decimals (num.next g z r) = by.one (tight_digit g) (tight_decimals r)

tight_unsigned : {u c : ℕ} {l : List ℕ} → Unsigned u c l → All tight l
unfolding permitted
tight_unsigned (num.no_point r) = tight_numeral r
tight_unsigned (num.with_point r f) = all_append (tight_numeral r) (by.one refl (tight_decimals f))

pub tight_number : {k x : ℕ} {z : ℤ} {l : List ℕ} → SpellsNumber k x z l → All tight l
unfolding permitted
tight_number (num.plain u h) = tight_unsigned u
tight_number (num.plus u h) = by.one refl (tight_unsigned u)
tight_number (num.minus u h) = by.one refl (tight_unsigned u)

digit_safe : (l : List ℕ) → digit_here l ≡ true → safe l ≡ true
unfolding digit_here
digit_safe [] h = absurd (false≢true h)
digit_safe (b ∷ l) h =
    let low = digit_low b h in
    rw (ne_eqb b 35 (omega arith), ne_eqb b 46 (omega arith))

numeral_safe : {n : ℕ} {l : List ℕ} → Numeral n l → safe l ≡ true
numeral_safe {n} {l} r = digit_safe l (rw append-nil at (numeral_first r []))

unsigned_safe : {u c : ℕ} {l : List ℕ} → Unsigned u c l → safe l ≡ true
unsigned_safe (num.no_point r) = numeral_safe r
unsigned_safe (num.with_point {l = l} {m = m} r f) = digit_safe (l ++ 46 ∷ m) (numeral_first r (46 ∷ m))

pub safe_number : {k x : ℕ} {z : ℤ} {l : List ℕ} → SpellsNumber k x z l → safe l ≡ true
safe_number (num.plain u h) = unsigned_safe u
safe_number (num.plus u h) = refl
safe_number (num.minus u h) = refl

-- Integers
pub tight_integer : {z : ℤ} {l : List ℕ} → SpellsInteger z l → All tight l
unfolding permitted
tight_integer (plain r h) = tight_numeral r
tight_integer (plus r h) = by.one refl (tight_numeral r)
tight_integer (minus r h) = by.one refl (tight_numeral r)

pub safe_integer : {z : ℤ} {l : List ℕ} → SpellsInteger z l → safe l ≡ true
safe_integer (plain r h) = numeral_safe r
safe_integer (plus r h) = refl
safe_integer (minus r h) = refl

-- Dates
abbrev tight_marks : List Piece → Bool
tight_marks [] = true
tight_marks (two lo hi ∷ ps) = tight_marks ps
tight_marks (mark m ∷ ps) = tight m && tight_marks ps

tight_made : {ps : List Piece} {s : List ℕ} → Made ps s → tight_marks ps ≡ true → All tight s
tight_made end h = by.none
tight_made (marked {m} r) h = by.one (and_left (tight m) _ h) (tight_made r (and_right (tight m) _ h))
tight_made (digits a b l u r) h = by.one (tight_digit a) (by.one (tight_digit b) (tight_made r h))

safe_two : {lo hi : ℕ} {ps : List Piece} {s : List ℕ} → Made (two lo hi ∷ ps) s → safe s ≡ true
safe_two (digits {a = a} g h l u r) = rw (ne_eqb a 35 (omega arith), ne_eqb a 46 (omega arith))

pub tight_date : (s : List ℕ) → is_date s ≡ true → All tight s
unfolding date_pieces permitted
tight_date s h = tight_made (date_made s h) refl

pub safe_date : (s : List ℕ) → is_date s ≡ true → safe s ≡ true
unfolding date_pieces
safe_date s h = safe_two (date_made s h)

-- Texts
pub text_permitted : (b : ℕ) → text_byte b ≡ true → permitted b ≡ true
text_permitted b h = and_left (permitted b) _ h

pub text_quoted : (b : ℕ) → text_byte b ≡ true → in_quotes b ≡ true
text_quoted b h = and_right (permitted b) _ h

pub tight_text : (b : ℕ) → text_byte b ≡ true → not (eqb b 32) ≡ true → tight b ≡ true
tight_text b h k = go (eqb b 32) (permitted b) (eqb b 34) h k
  where
    go : (x y z : Bool) → y && not z ≡ true → not x ≡ true → cond x false (not z) && y ≡ true
    go true y z h k = absurd (false≢true k)
    go false true true h k = h
    go false true false h k = refl
    go false false z h k = absurd (false≢true h)

pub bare_text : (b : ℕ) → in_bare b ≡ true → permitted b ≡ true → text_byte b ≡ true
bare_text b h k = go (eqb b 32) (eqb b 34) h
  where
    go : (x z : Bool) → cond x false (not z) ≡ true → permitted b && not z ≡ true
    go true z h = absurd (false≢true h)
    go false true h = absurd (false≢true h)
    go false false h = rw k

pub quoted_text : (b : ℕ) → in_quotes b ≡ true → permitted b ≡ true → text_byte b ≡ true
quoted_text b h k = rw k h

-- A byte of a keyword: a capital letter or an underscore
abbrev pub name_byte : ℕ → Bool
name_byte b = is_capital b || eqb b 95

name_range : (b : ℕ) → name_byte b ≡ true → (65 ≤ b) × (b ≤ 95)
name_range b h = go (is_capital b) refl h
  where
    go : (t : Bool) → is_capital b ≡ t → t || eqb b 95 ≡ true → (65 ≤ b) × (b ≤ 95)
    go true e h =
        let x = leb-true 65 b (and_left (leb 65 b) _ e) in
        let y = leb-true b 90 (and_right (leb 65 b) _ e) in
        (omega arith, omega arith)
    go false e h = let x = eqb-true b 95 h in (omega arith, omega arith)

pub tight_name : (b : ℕ) → name_byte b ≡ true → tight b ≡ true
tight_name b h = let r = name_range b h in tight_low b (omega arith) (omega arith)

pub name_not_small : (b : ℕ) → name_byte b ≡ true → is_small b ≡ false
name_not_small b h = let r = name_range b h in rw (lt-leb 97 b (omega arith))

-- so it is spelled by itself
pub name_case : (k : List ℕ) → All name_byte k → AnyCase k k
name_case [] by.none = end
name_case (b ∷ k) (by.one h a) = same (name_not_small b h) (name_case k a)
