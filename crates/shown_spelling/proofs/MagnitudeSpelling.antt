-- A field reads as a number or as too fine exactly where its magnitude, cut, is within the limit.
use Rattle.std.proofs.Common.{ℤ, Result, Ok, Err}
use Prim.Native.Nat.{ℕ, ◌+◌, ◌*◌, ◌-◌, ◌/◌, ◌^◌, ◌≤◌}
use mathlib.Core.Path.{◌≡◌, refl}
use mathlib.Core.List.{List, [], ◌∷◌, ◌++◌, append_assoc, append-nil}
use mathlib.Core.Bool.{Bool, true, false, cond, not, ◌&&◌, ◌||◌, false≢true}
use native.Mathlib.Nat.{zero-add, add_assoc}
use borrow.Author.Tests.{le-leb, leb-true, eqb-true}
use lib.Dec.{leb, eqb}
use Rattle.basics.proofs.Bools.{and_left, and_right}
use Rattle.law.specs.Numbers.{is_digit, Numeral, one, more}
use Rattle.number.specs.Numbers.{digit_here, to_count, decimals, whole, body, read_number}
use Rattle.number.specs.declared.NumberError.{NumberError}
use Rattle.number.specs.declared.NumberError.TheVariants.{NotNumber, TooFine}
use Rattle.number_read.proofs.NumberSpelling.{digit_is, digit_val, digit_of, numeral_first, numeral_body, read_digit}
use Rattle.law.specs.Magnitudes.{CutDecimals, last, next, CutUnsigned, no_point, with_point, InMagnitude, plain, plus, minus}

-- a number, though it may be too fine
abbrev pub is_number : Result ℤ NumberError → Bool
is_number (Ok z) = true
is_number (Err NotNumber) = false
is_number (Err TooFine) = true

-- Complete
module _ (x : ℕ) where
  counted_number : (neg fine : Bool) (n : ℕ) → n ≤ x → is_number (to_count x neg fine n) ≡ true
  unfolding to_count
  counted_number neg true n h = rw (le-leb n x h)
  counted_number neg false n h = rw (le-leb n x h)

  decimals_number : {w v : ℕ} {l : List ℕ} → CutDecimals w v l → (neg fine : Bool) (m : ℕ) → m + v ≤ x → is_number (decimals x neg fine w m l) ≡ true
  unfolding decimals
  decimals_number (last g) neg fine m h = rw (digit_is g, digit_val g) (counted_number neg _ _ h)
  decimals_number (next {w} {d} {b} {v} g r) neg fine m h = rw (digit_is g, digit_val g) (decimals_number r neg _ (m + d * w) (rw (add_assoc m (d * w) v) h))

  decimals_first : {w v : ℕ} {l : List ℕ} → CutDecimals w v l → digit_here l ≡ true
  unfolding digit_here
  decimals_first (last g) = digit_is g
  decimals_first (next g r) = digit_is g

  unsigned_number : {u : ℕ} {l : List ℕ} → CutUnsigned u x l → (neg : Bool) → is_number (body x u neg l) ≡ true
  unfolding whole
  unsigned_number {u} (no_point {n} {l} r h) neg = let e : body x u neg l ≡ to_count x neg false (n * u) = rw append-nil at (numeral_body x r u neg []) in rw e (counted_number neg false _ h)
  unsigned_number {u} (with_point {n} {v} {l} {m} r f h) neg = rw (numeral_body x r u neg (46 ∷ m), decimals_first f) (decimals_number f neg false (n * u) h)

  unsigned_first : {u : ℕ} {l : List ℕ} → CutUnsigned u x l → digit_here l ≡ true
  unsigned_first (no_point r h) = rw append-nil at (numeral_first r [])
  unsigned_first (with_point {m = m} r f h) = numeral_first r (46 ∷ m)

pub magnitude_complete : {k x : ℕ} {l : List ℕ} → InMagnitude k x l → is_number (read_number k x l) ≡ true
unfolding read_number
magnitude_complete {k} {x} (plain {l} u) = rw (read_digit x k l (unsigned_first x u)) (unsigned_number x u false)
magnitude_complete {k} {x} (plus u) = unsigned_number x u false
magnitude_complete {k} {x} (minus u) = unsigned_number x u true

-- Sound
cond_number : (t : Bool) (a : Result ℤ NumberError) → is_number (cond t a (Err NotNumber)) ≡ true → (t ≡ true) × (is_number a ≡ true)
cond_number true a h = (refl, h)
cond_number false a h = absurd (false≢true h)

module _ (x : ℕ) where
  counted_within : (neg fine : Bool) (m : ℕ) → is_number (to_count x neg fine m) ≡ true → m ≤ x
  unfolding to_count
  counted_within neg fine m h = leb-true m x (cond_number (leb m x) _ h).0

  decimals_cut : (b : ℕ) (l : List ℕ) (neg fine : Bool) (w m : ℕ) → is_number (decimals x neg fine w m (b ∷ l)) ≡ true
      → (v : ℕ) × CutDecimals w v (b ∷ l) × (m + v ≤ x)
  unfolding decimals
  decimals_cut b [] neg fine w m h =
      let e = cond_number (is_digit b) _ h in
      ((b - 48) * w, last (digit_of e.0), counted_within neg _ _ e.1)
  decimals_cut b (a ∷ l) neg fine w m h =
      let e = cond_number (is_digit b) _ h in
      let g = decimals_cut a l neg (fine || (eqb w 0 && not (eqb b 48))) (w / 10) (m + (b - 48) * w) e.1 in
      ((b - 48) * w + g.0, next (digit_of e.0) g.1, rw (add_assoc m ((b - 48) * w) g.0) at g.2)

  point_cut : (u : ℕ) (l : List ℕ) {p : List ℕ} {n : ℕ} → Numeral n p → (neg : Bool) → digit_here l ≡ true → is_number (decimals x neg false (u / 10) (n * u) l) ≡ true → CutUnsigned u x (p ++ 46 ∷ l)
  unfolding digit_here
  point_cut u [] r neg d h = absurd (false≢true d)
  point_cut u (b ∷ l) r neg d h = let g = decimals_cut b l neg false _ _ h in with_point r g.1 g.2

  whole_cut : (u : ℕ) (l : List ℕ) {p : List ℕ} {n : ℕ} → Numeral n p → (neg : Bool) → is_number (whole x u neg n l) ≡ true → CutUnsigned u x (p ++ l)
  unfolding whole
  whole_cut u [] {p} {n} r neg h = rw (append-nil p) (no_point r (counted_within neg false _ h))
  whole_cut u (b ∷ l) {p} {n} r neg h = go (is_digit b) refl (λ e i. whole_cut u l (more r (digit_of e)) neg i) h
    where
      go : (t : Bool) → is_digit b ≡ t → (is_digit b ≡ true → is_number (whole x u neg (n * 10 + (b - 48)) l) ≡ true → CutUnsigned u x ((p ++ b ∷ []) ++ l))
          → is_number (cond t (whole x u neg (n * 10 + (b - 48)) l) (cond (eqb b 46 && digit_here l) (decimals x neg false (u / 10) (n * u) l) (Err NotNumber))) ≡ true → CutUnsigned u x (p ++ b ∷ l)
      go true e k h = rw append_assoc at (k e h)
      go false e k h =
          let f = cond_number (eqb b 46 && digit_here l) _ h in
          rw (eqb-true b 46 (and_left _ _ f.0)) (point_cut u l r neg (and_right (eqb b 46) _ f.0) f.1)

  body_cut : (u : ℕ) (l : List ℕ) (neg : Bool) → is_number (body x u neg l) ≡ true → CutUnsigned u x l
  unfolding body digit_here whole
  body_cut u [] neg h = absurd (false≢true h)
  body_cut u (b ∷ l) neg h =
      let e = cond_number (is_digit b) _ h in
      whole_cut u l (one (digit_of e.0)) neg (rw (e.0, zero-add) at e.1)

pub magnitude_sound : (k x : ℕ) (l : List ℕ) → is_number (read_number k x l) ≡ true → InMagnitude k x l
unfolding read_number
magnitude_sound k x [] h = absurd (false≢true h)
magnitude_sound k x (b ∷ l) h = go (eqb b 45) (eqb b 43) refl refl h
  where
    go : (s t : Bool) → eqb b 45 ≡ s → eqb b 43 ≡ t
        → is_number (cond s (body x (10 ^ k) true l) (cond t (body x (10 ^ k) false l) (body x (10 ^ k) false (b ∷ l)))) ≡ true → InMagnitude k x (b ∷ l)
    go true t e f h = rw (eqb-true b 45 e) (minus (body_cut x (10 ^ k) l true h))
    go false true e f h = rw (eqb-true b 43 f) (plus (body_cut x (10 ^ k) l false h))
    go false false e f h = plain (body_cut x (10 ^ k) (b ∷ l) false h)
