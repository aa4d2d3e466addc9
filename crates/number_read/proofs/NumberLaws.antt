-- Laws of a number's definitions at an index of the list, as the loops cite them.
use Rattle.std.proofs.Common.{Err}
use Prim.Native.Nat.{ℕ, zero, suc, ◌+◌, ◌*◌, ◌-◌, ◌/◌, ◌^◌, ◌≤◌, ◌<◌}
use mathlib.Core.Path.{◌≡◌, refl}
use mathlib.Core.List.{List, [], ◌∷◌}
use mathlib.Core.Bool.{Bool, true, false, cond, not, ◌&&◌, ◌||◌}
use native.Mathlib.Omega.{arith}
use native.Mathlib.Nat.{mul-le-mul_right, mul-le-mul_left, mul-one}
use borrow.Author.Tests.{leb-true, lt-leb, eq-eqb, ne_eqb}
use lib.Dec.{leb, eqb}
use lib.ListN.{length, take, drop, get_or}
use Rattle.std.proofs.lemmas.List.{take_all, length-drop}
use Rattle.basics.proofs.Bools.{and_left, and_right, cond_both}
use Rattle.basics.proofs.Lists.{at_cons, at_end}
use Rattle.law.specs.Numbers.{is_digit}
use Rattle.number_read.specs.Signs.{is_minus, without_sign}
use Rattle.number.specs.Numbers.{digit_here, to_count, decimals, whole, body, read_number}
use Rattle.number.specs.declared.NumberError.TheVariants.{NotNumber}

-- a digit's bounds
pub digit_low : (b : ℕ) → is_digit b ≡ true → 48 ≤ b
digit_low b h = leb-true 48 b (and_left _ _ h)

pub digit_high : (b : ℕ) → is_digit b ≡ true → b ≤ 57
digit_high b h = leb-true b 57 (and_right (leb 48 b) (leb b 57) h)

-- a digit weighs at most nine times its weight
pub digit_weight : (b w : ℕ) → is_digit b ≡ true → (b - 48) * w ≤ 9 * w
digit_weight b w h = mul-le-mul_right w (omega (arith, digit_high b h))

-- the first byte
pub digit_here_some : (s : List ℕ) → 0 < length s → digit_here s ≡ is_digit (get_or s 0 0)
unfolding digit_here
digit_here_some [] h = absurd (omega arith)
digit_here_some (b ∷ s) h = refl

pub digit_here_none : (s : List ℕ) → length s ≡ 0 → digit_here s ≡ false
unfolding digit_here
digit_here_none [] h = refl
digit_here_none (b ∷ s) h = absurd (omega arith)

module _ (s : List ℕ) (i : ℕ) where
  pub decimals_end : (x : ℕ) (neg fine : Bool) (w m : ℕ) → length s ≤ i → decimals x neg fine w m (drop i s) ≡ to_count x neg fine m
  unfolding decimals
  decimals_end x neg fine w m h = rw (at_end s i h)

  pub decimals_bad : (x : ℕ) (neg fine : Bool) (w m : ℕ) → i < length s → is_digit (get_or s i 0) ≡ false → decimals x neg fine w m (drop i s) ≡ Err NotNumber
  unfolding decimals
  decimals_bad x neg fine w m h d = rw (at_cons s i h, d)

  pub decimals_more : (x : ℕ) (neg fine : Bool) (w m : ℕ) → i < length s → is_digit (get_or s i 0) ≡ true → decimals x neg fine w m (drop i s) ≡ decimals x neg (fine || (eqb w 0 && not (eqb (get_or s i 0) 48))) (w / 10) (m + (get_or s i 0 - 48) * w) (drop (i + 1) s)
  unfolding decimals
  decimals_more x neg fine w m h d = rw (at_cons s i h, d)

-- a slice from a place on
pub rest_is : (s : List ℕ) (i : ℕ) → take (length s - i) (drop i s) ≡ drop i s
rest_is s i = take_all (length s - i) (drop i s) (omega (arith, length-drop i s))

module _ (s : List ℕ) (i x u : ℕ) (neg : Bool) (n : ℕ) where
  pub whole_end : length s ≤ i → whole x u neg n (drop i s) ≡ to_count x neg false (n * u)
  unfolding whole
  whole_end h = rw (at_end s i h)

  pub whole_more : i < length s → is_digit (get_or s i 0) ≡ true → whole x u neg n (drop i s) ≡ whole x u neg (n * 10 + (get_or s i 0 - 48)) (drop (i + 1) s)
  unfolding whole
  whole_more h d = rw (at_cons s i h, d)

  module _ (h : i < length s) (d : is_digit (get_or s i 0) ≡ false) where
    pub whole_bad : (get_or s i 0 ≡ 46 → ⊥) → whole x u neg n (drop i s) ≡ Err NotNumber
    unfolding whole
    whole_bad e = rw (at_cons s i h, d, ne_eqb (get_or s i 0) 46 e)

    pub whole_bare : get_or s i 0 ≡ 46 → digit_here (drop (i + 1) s) ≡ false → whole x u neg n (drop i s) ≡ Err NotNumber
    unfolding whole
    whole_bare e f = rw (at_cons s i h, d, eq-eqb (get_or s i 0) 46 e, f)

    pub whole_point : get_or s i 0 ≡ 46 → digit_here (drop (i + 1) s) ≡ true → whole x u neg n (drop i s) ≡ decimals x neg false (u / 10) (n * u) (drop (i + 1) s)
    unfolding whole
    whole_point e f = rw (at_cons s i h, d, eq-eqb (get_or s i 0) 46 e, f)

-- a count beyond the largest stays there, whatever follows
count_big : (x : ℕ) (neg fine : Bool) (m : ℕ) → x < m → to_count x neg fine m ≡ Err NotNumber
unfolding to_count
count_big x neg fine m h = rw (lt-leb m x h)

times_big : (x n u : ℕ) → 0 < u → x < n → x < n * u
times_big x n u p h = omega (arith, mul-le-mul_left n p, mul-one n)

decimals_big : (l : List ℕ) (x : ℕ) (neg fine : Bool) (w m : ℕ) → x < m → decimals x neg fine w m l ≡ Err NotNumber
unfolding decimals
decimals_big [] x neg fine w m h = count_big x neg fine m h
decimals_big (b ∷ bs) x neg fine w m h = cond_both (is_digit b) (decimals_big bs x neg _ _ _ (omega arith)) refl

pub whole_big : (l : List ℕ) (x u : ℕ) (neg : Bool) (n : ℕ) → 0 < u → x < n → whole x u neg n l ≡ Err NotNumber
unfolding whole
whole_big [] x u neg n p h = count_big x neg false _ (times_big x n u p h)
whole_big (b ∷ bs) x u neg n p h =
    cond_both (is_digit b) (whole_big bs x u neg _ p (omega arith))
    (cond_both (eqb b 46 && digit_here bs) (decimals_big bs x neg false (u / 10) _ (times_big x n u p h)) refl)

-- the sign
pub read_signed : (k x : ℕ) (l : List ℕ) → body x (10 ^ k) (is_minus l) (without_sign l) ≡ read_number k x l
unfolding read_number body digit_here
read_signed k x [] = refl
read_signed k x (b ∷ l) = go (eqb b 45) (eqb b 43)
  where
    go : (m p : Bool) → body x (10 ^ k) m (cond (m || p) l (b ∷ l)) ≡ cond m (body x (10 ^ k) true l) (cond p (body x (10 ^ k) false l) (body x (10 ^ k) false (b ∷ l)))
    go true p = refl
    go false true = refl
    go false false = refl

-- the counts that make a whole
pub counts_some : (k : ℕ) → k ≤ 5 → 0 < 10 ^ k
counts_some zero h = omega arith
counts_some (suc k) h = omega (arith, counts_some k (omega arith))

pub counts_most : (k : ℕ) → k ≤ 5 → 10 ^ k ≤ 100000
counts_most zero h = omega arith
counts_most (suc zero) h = omega arith
counts_most (suc (suc zero)) h = omega arith
counts_most (suc (suc (suc zero))) h = omega arith
counts_most (suc (suc (suc (suc zero)))) h = omega arith
counts_most (suc (suc (suc (suc (suc zero))))) h = omega arith
counts_most (suc (suc (suc (suc (suc (suc k)))))) h = absurd (omega arith)

-- by the function that cites them
pub ruleset first_laws = (digit_here_some, digit_here_none)

pub ruleset decimal_laws = (decimals_end, decimals_bad, decimals_more, digit_weight)

pub ruleset whole_laws = (whole_end, whole_more, whole_big)

pub ruleset sign_laws = (read_signed, counts_some, counts_most)
