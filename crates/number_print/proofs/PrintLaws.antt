-- Laws of what is written, and of a numeral's digits.
use Prim.Native.Nat.{ℕ, zero, suc, ◌^◌, ◌*◌, ◌+◌, ◌-◌, ◌/◌, ◌%◌, ◌≤◌, ◌<◌}
use mathlib.Core.Logic.{◌⊎◌, inl, inr}
use Rattle.std.specs.Prelude.{Option}
use Rattle.std.specs.Option.{IfNone, IfSome, unwrap_or}
use Rattle.std.specs.declared.option.Option.TheVariants.{None, Some}
use mathlib.Core.Path.{◌≡◌, refl, sym, ap, ◌∙◌}
use mathlib.Core.List.{List, [], ◌∷◌, ◌++◌}
use mathlib.Core.Bool.{Bool, true, false, cond}
use native.Mathlib.Omega.{arith}
use borrow.Author.Tests.{lt-ltb, le-ltb}
use lib.Dec.{ltb}
use lib.IntN.{ℤ, pos, negsuc, nat_abs}
use lib.Signed.{lt_z}
use lib.ListN.{length, set, length-append}
use lib.Seq.{sets, length-sets}
use Rattle.basics.proofs.Integers.{back}
use Rattle.law.specs.Limits.{below, largest_length}
use mir.Syntax.{w64}
use mir.Val.{Fits, SFits, bool_byte}
use mir.ValLaws.{to_z-of_z}
use Rattle.number.proofs.SignLaws.{same_abs}
use Rattle.number_print.specs.Printing.{Wrote, top}
use Rattle.law.specs.Printing.{numeral_of, decimals_of, magnitude_of, Form, decimal, whole, digits_of, sign_of, printed}

-- bytes behind bytes
pub sets_append : (o : List ℕ) (i : ℕ) (l m : List ℕ) → sets (sets o i l) (i + length l) m ≡ sets o i (l ++ m)
sets_append o i [] m = ap (λ (j : ℕ). sets o j m) (omega arith)
sets_append o i (x ∷ l) m = ap (λ (j : ℕ). sets (sets (set o i x) (suc i) l) j m) (omega arith) ∙ sets_append (set o i x) (suc i) l m

module _ {o p : List ℕ} {at r : ℕ} {l : List ℕ} where
  pub wrote_length : Wrote o p at r l → length p ≡ length o
  wrote_length w = ap length w.is ∙ length-sets o at l

  -- one piece after another
  pub wrote_more : {q : List ℕ} {e : ℕ} {m : List ℕ} → Wrote o p at r l → Wrote p q r e m → Wrote o q at e (l ++ m)
  wrote_more {q} {e} {m} v w = record {
    is = w.is ∙ rw (v.is, v.next) (sets_append o at l m);
    next = omega (arith, length-append l m);
  }

-- A numeral
pub numeral_length : (k n : ℕ) → length (numeral_of k n) ≤ suc k
unfolding numeral_of
numeral_length zero n = omega arith
numeral_length (suc k) n = go (ltb n 10) (numeral_length k (n / 10))
  where
    go : (t : Bool) → length (numeral_of k (n / 10)) ≤ suc k → length (cond t ((48 + n) ∷ []) (numeral_of k (n / 10) ++ (48 + n % 10) ∷ [])) ≤ suc (suc k)
    go true h = omega arith
    go false h = omega (arith, length-append (numeral_of k (n / 10)) ((48 + n % 10) ∷ []))

small_length : (k n : ℕ) → (k ≡ 0 → ⊥) → n < 10 → length (numeral_of k n) ≡ 1
unfolding numeral_of
small_length zero n z l = absurd (z refl)
small_length (suc k) n z l = rw (lt-ltb n 10 l)

more_length : (k n : ℕ) → (k ≡ 0 → ⊥) → 10 ≤ n → length (numeral_of k n) ≡ length (numeral_of (k - 1) (n / 10)) + 1
unfolding numeral_of
more_length zero n z l = absurd (z refl)
more_length (suc k) n z l = let x : suc k - 1 ≡ k = omega arith in rw (le-ltb n 10 l, x) (length-append (numeral_of k (n / 10)) ((48 + n % 10) ∷ []))

module _ (k n : ℕ) where
  pub top_zero : n < top k → k ≡ 0 → n < 10
  top_zero h e = rw e at h

  pub top_less : n < top k → (k ≡ 0 → ⊥) → n / 10 < top (k - 1)
  top_less h e = go k h e
    where
      go : (k : ℕ) → n < top k → (k ≡ 0 → ⊥) → n / 10 < top (k - 1)
      go zero h e = absurd (e refl)
      go (suc k) h e = let x : suc k - 1 ≡ k = omega arith in rw x (omega arith)

  pub mod_ten : n % 10 < 10
  mod_ten = omega arith

  pub numeral_more : (o p q : List ℕ) (at m r b : ℕ) → (k ≡ 0 → ⊥) → 10 ≤ n → b ≡ 48 + n % 10 → Wrote o p at m (numeral_of (k - 1) (n / 10)) → Wrote p q m r (b ∷ []) → Wrote o q at r (numeral_of k n)
  unfolding numeral_of
  numeral_more o p q at m r b z h e v w = go k z v
    where
      go : (k : ℕ) → (k ≡ 0 → ⊥) → Wrote o p at m (numeral_of (k - 1) (n / 10)) → Wrote o q at r (numeral_of k n)
      go zero z v = absurd (z refl)
      go (suc k) z v = let x : suc k - 1 ≡ k = omega arith in rw (le-ltb n 10 h) (wrote_more (rw x at v) (rw e at w))

  -- there is room for the first digits, and for the last
  module _ (o : List ℕ) (at : ℕ) (h : at + length (numeral_of k n) ≤ length o) where
    pub room_less : (k ≡ 0 → ⊥) → 10 ≤ n → at + length (numeral_of (k - 1) (n / 10)) ≤ length o
    room_less z l = omega (arith, more_length k n z l)

    pub numeral_room : (p : List ℕ) (m : ℕ) → (k ≡ 0 → ⊥) → 10 ≤ n → Wrote o p at m (numeral_of (k - 1) (n / 10)) → m < length p
    numeral_room p m z l v = omega (arith, more_length k n z l, wrote_length v)

-- a numeral of one digit
one_digit : (k n : ℕ) → n < 10 → numeral_of k n ≡ (48 + n) ∷ []
unfolding numeral_of
one_digit zero n h = refl
one_digit (suc k) n h = rw (lt-ltb n 10 h)

digit_left : (k n : ℕ) → n < top k → (k ≡ 0) ⊎ ((k ≡ 0 → ⊥) × (n < 10)) → n < 10
digit_left k n h (inl e) = top_zero k n h e
digit_left k n h (inr e) = e.1

module _ (k n : ℕ) (h : n < top k) (e : (k ≡ 0) ⊎ ((k ≡ 0 → ⊥) × (n < 10))) where
  pub digit_room : (o : List ℕ) (at : ℕ) → at + length (numeral_of k n) ≤ length o → at < length o
  digit_room o at r = omega (arith, ap length (one_digit k n (digit_left k n h e)))

  pub digit_wrote : (o p : List ℕ) (at r b : ℕ) → b ≡ 48 + n → Wrote o p at r (b ∷ []) → Wrote o p at r (numeral_of k n)
  digit_wrote o p at r b q w = rw (one_digit k n (digit_left k n h e)) (rw q at w)

-- Decimals: five digits, one after the other
pub decimals_wrote : (f : ℕ) (o p q s t u : List ℕ) (at a b c d e v w x y z : ℕ)
    → v ≡ 48 + f / 10 / 10 / 10 / 10 → Wrote o p at a (v ∷ [])
    → w ≡ 48 + f / 10 / 10 / 10 % 10 → Wrote p q a b (w ∷ [])
    → x ≡ 48 + f / 10 / 10 % 10 → Wrote q s b c (x ∷ [])
    → y ≡ 48 + f / 10 % 10 → Wrote s t c d (y ∷ [])
    → z ≡ 48 + f % 10 → Wrote t u d e (z ∷ [])
    → Wrote o u at e (decimals_of f)
unfolding decimals_of
decimals_wrote f o p q s t u at a b c d e v w x y z hv pv hw pw hx px hy py hz pz =
    wrote_more (rw hv at pv) (wrote_more (rw hw at pw) (wrote_more (rw hx at px) (wrote_more (rw hy at py) (rw hz at pz))))

pub decimals_length : (f : ℕ) → length (decimals_of f) ≡ 5
unfolding decimals_of
decimals_length f = refl

-- A magnitude: its whole part, the point, its decimals
magnitude_length : (c : ℕ) → length (magnitude_of c) ≡ length (numeral_of 10 (c / 100_000)) + 6
unfolding magnitude_of
magnitude_length c = omega (arith, length-append (numeral_of 10 (c / 100_000)) (46 ∷ decimals_of (c % 100_000)), decimals_length (c % 100_000))

pub whole_room : (c : ℕ) (o : List ℕ) (at : ℕ) → at + length (magnitude_of c) ≤ length o → at + length (numeral_of 10 (c / 100_000)) ≤ length o
whole_room c o at h = omega (arith, magnitude_length c)

module _ (c : ℕ) (o p : List ℕ) (at a : ℕ) (v : Wrote o p at a (numeral_of 10 (c / 100_000))) where
  pub point_room : at + length (magnitude_of c) ≤ length o → a < length p
  point_room h = omega (arith, wrote_length v, magnitude_length c)

  module _ (q : List ℕ) (b : ℕ) (w : Wrote p q a b (46 ∷ [])) where
    pub decimals_room : at + length (magnitude_of c) ≤ length o → b + 4 < length q
    decimals_room h = omega (arith, wrote_length v, wrote_length w, magnitude_length c)

    pub magnitude_wrote : (s : List ℕ) (r : ℕ) → Wrote q s b r (decimals_of (c % 100_000)) → Wrote o s at r (magnitude_of c)
    unfolding magnitude_of
    magnitude_wrote s r x = wrote_more v (wrote_more w x)

-- a numeral of at most eleven digits is short, with a point and decimals too
pub digits_short : (k : Form) (n : ℕ) → length (digits_of k n) ≤ 17
digits_short decimal n = omega (arith, magnitude_length n, numeral_length 10 (n / 100_000))
digits_short whole n = omega (arith, numeral_length 10 n)

pub sign_short : (z : ℤ) → length (sign_of (below z) []) ≤ 1
unfolding sign_of
sign_short (pos n) = omega arith
sign_short (negsuc n) = omega arith

-- A sign before the digits: n is the magnitude of z as it was read back
pub below_zero : (z : ℤ) → SFits w64 z → lt_z (back z) (pos 0) ≡ below z
below_zero z f = rw (to_z-of_z w64 z f) (go z)
  where
    go : (z : ℤ) → lt_z z (pos 0) ≡ below z
    go (pos n) = le-ltb n 0 (omega arith)
    go (negsuc n) = refl

pub below_back : (z : ℤ) → SFits w64 z → below (back z) ≡ below z
below_back z f = ap below (to_z-of_z w64 z f)

pub sign_none : (o : List ℕ) (at : ℕ) (z : ℤ) → below z ≡ false → Wrote o o at at (sign_of (below z) [])
unfolding sign_of
sign_none o at z h = rw h (record { is = refl; next = omega arith })

pub sign_minus : (o p : List ℕ) (at r : ℕ) (z : ℤ) → below z ≡ true → Wrote o p at r (45 ∷ []) → Wrote o p at r (sign_of (below z) [])
unfolding sign_of
sign_minus o p at r z h w = rw h w

pub minus_room : (z : ℤ) (o : List ℕ) (at : ℕ) → below z ≡ true → at + length (sign_of (below z) []) ≤ length o → at < length o
unfolding sign_of
minus_room z o at h r = let x : at + length (sign_of true []) ≤ length o = rw h at r in omega (arith, x)

pub sign_length : (z : ℤ) → length (sign_of (below z) []) ≡ cond (below z) 1 0
unfolding sign_of
sign_length (pos n) = refl
sign_length (negsuc n) = refl

module _ (k : Form) (z : ℤ) (f : SFits w64 z) (n : ℕ) (m : n ≡ nat_abs (back z)) where
  signed : printed k z ≡ sign_of (below z) [] ++ digits_of k n
  unfolding printed sign_of
  signed = rw (same_abs z f n m) (go (below z))
    where
      go : (t : Bool) → sign_of t (digits_of k (nat_abs z)) ≡ sign_of t [] ++ digits_of k (nat_abs z)
      go true = refl
      go false = refl

  signed_length : length (printed k z) ≡ length (sign_of (below z) []) + length (digits_of k n)
  signed_length = ap length signed ∙ length-append (sign_of (below z) []) (digits_of k n)

  -- which is short, so sums with it fit
  pub sum_fits : (a d : ℕ) → a ≡ length (sign_of (below z) []) → d ≡ length (digits_of k n) → Fits w64 (a + d)
  sum_fits a d e h = omega (arith, sign_short z, digits_short k n)

  pub sum_length : (a d : ℕ) → a ≡ length (sign_of (below z) []) → d ≡ length (digits_of k n) → a + d ≡ length (printed k z)
  sum_length a d e h = omega (arith, signed_length)

  module _ (o p : List ℕ) (at a : ℕ) (w : Wrote o p at a (sign_of (below z) [])) where
    pub digits_room : at + length (printed k z) ≤ length o → a + length (digits_of k n) ≤ length p
    digits_room h = omega (arith, wrote_length w, w.next, signed_length)

  pub signed_wrote : (o p q : List ℕ) (at a r : ℕ) → Wrote o p at a (sign_of (below (back z)) []) → Wrote p q a r (digits_of k n) → Wrote o q at r (printed k z)
  signed_wrote o p q at a r w v = rw signed (wrote_more (rw (to_z-of_z w64 z f) at w) v)

pub sign_room : (k : Form) (z : ℤ) (o : List ℕ) (at : ℕ) → SFits w64 z → at + length (printed k z) ≤ length o → at + length (sign_of (below z) []) ≤ length o
sign_room k z o at f h = let e : nat_abs z ≡ nat_abs (back z) = rw (to_z-of_z w64 z f) in omega (arith, signed_length k z f (nat_abs z) e)

-- the magnitude keeps its bound
pub mag_small : (z : ℤ) → SFits w64 z → (n : ℕ) → n ≡ nat_abs (back z) → nat_abs z ≤ largest_length → n ≤ largest_length
mag_small z f n m h = omega (arith, same_abs z f n m)

pub mag_top : (z : ℤ) → SFits w64 z → (n : ℕ) → n ≡ nat_abs (back z) → nat_abs z ≤ largest_length → n < top 10
mag_top z f n m h = omega (arith, same_abs z f n m)

-- How many digits a numeral has: one more than its logarithm
pub digit_count : (j n k : ℕ) → n < top j → 10 ^ k ≤ n → n < 10 * 10 ^ k → length (numeral_of j n) ≡ k + 1
unfolding numeral_of
digit_count zero n zero h a b = refl
digit_count zero n (suc k) h a b = absurd (omega arith)
digit_count (suc j) n zero h a b = rw (lt-ltb n 10 b)
digit_count (suc j) n (suc k) h a b =
    let x : 10 ≤ n = omega arith in
    let y : length (numeral_of j (n / 10)) ≡ k + 1 = digit_count j (n / 10) k (omega arith) (omega arith) (omega arith) in
    rw (le-ltb n 10 x) (length-append (numeral_of j (n / 10)) ((48 + n % 10) ∷ []) ∙ omega (arith, y))

pub log_count : (n : ℕ) (l : Option ℕ) → n ≤ largest_length → IfNone l (n ≡ 0) → IfSome l (λ k. 10 ^ k ≤ n) → IfSome l (λ k. n < 10 * 10 ^ k) → unwrap_or l 0 + 1 ≡ length (numeral_of 10 n)
unfolding numeral_of
log_count n None h e a b = rw e
log_count n (Some k) h e a b = sym (digit_count 10 n k (omega arith) a b)

pub as_byte : (z : ℤ) (b : Bool) (a : ℕ) → a ≡ bool_byte b → b ≡ below z → a ≡ length (sign_of (below z) [])
as_byte z b a e h = e ∙ ap bool_byte h ∙ go (below z) ∙ sym (sign_length z)
  where
    go : (t : Bool) → bool_byte t ≡ cond t 1 0
    go true = refl
    go false = refl

-- a numeral of at most eleven digits is short
pub numeral_short : (n : ℕ) → length (numeral_of 10 n) ≤ 11
numeral_short n = numeral_length 10 n

-- a count has a point and five decimals behind its digits
pub point_length : (n d : ℕ) → d ≡ length (numeral_of 10 (n / 100_000)) → d + 6 ≡ length (magnitude_of n)
point_length n d e = omega (arith, magnitude_length n)

-- so sums with these lengths fit
module _ (n d : ℕ) where
  pub point_fits : d ≡ length (numeral_of 10 n) → Fits w64 (d + 6)
  point_fits e = omega (arith, numeral_short n)
