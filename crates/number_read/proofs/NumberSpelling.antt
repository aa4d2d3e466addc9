-- A number is read exactly where the rules spell it.
use Rattle.std.proofs.Common.{Result, Ok, Err}
use Prim.Native.Nat.{ℕ, zero, suc, ◌+◌, ◌*◌, ◌-◌, ◌/◌, ◌^◌, ◌≤◌}
use mathlib.Core.Path.{◌≡◌, refl, ◌∙◌}
use mathlib.Core.Logic.{⊎_elim}
use mathlib.Core.List.{List, [], ◌∷◌, ◌++◌, append_assoc, append-nil}
use mathlib.Core.Bool.{Bool, true, false, cond, not, ◌&&◌, false≢true}
use native.Mathlib.Omega.{arith}
use native.Mathlib.Nat.{zero-add, add_assoc}
use borrow.Author.Tests.{le-leb, eq-eqb, ne_eqb, leb-true, eqb-true, not-false}
use lib.Dec.{leb, eqb, eqb-suc-zero}
use lib.IntN.{ℤ, nat_abs}
use Rattle.basics.proofs.Bools.{and_left, and_right, cond_cases, neither}
use Rattle.number.specs.Signs.{signed}
use Rattle.law.specs.Numbers.{is_digit, Digit, Numeral, one, more, Decimals, last, next, Unsigned, no_point, with_point, SpellsNumber, plain, plus, minus}
use Rattle.number.specs.Numbers.{digit_here, to_count, decimals, whole, body, read_number}
use Rattle.number.specs.declared.NumberError.{NumberError}
use Rattle.number.specs.declared.NumberError.TheVariants.{NotNumber}
use Rattle.number.proofs.SignLaws.{abs_signed}
use Rattle.number_read.proofs.NumberLaws.{digit_low, digit_high}

-- Digits
pub digit_is : {d b : ℕ} → Digit d b → is_digit b ≡ true
digit_is {d} {b} g = rw (le-leb 48 b (omega arith), le-leb b 57 (omega arith))

pub digit_val : {d b : ℕ} → Digit d b → b - 48 ≡ d
digit_val g = omega arith

pub digit_of : {b : ℕ} → is_digit b ≡ true → Digit (b - 48) b
digit_of {b} h = record { small = omega (arith, digit_low b h, digit_high b h); byte = omega (arith, digit_low b h) }

pub numeral_first : {n : ℕ} {l : List ℕ} → Numeral n l → (rest : List ℕ) → digit_here (l ++ rest) ≡ true
unfolding digit_here
numeral_first (one g) rest = digit_is g
numeral_first (more {b = b} r g) rest = rw append_assoc (numeral_first r (b ∷ rest))

-- Complete: what the rules spell is read; x is the largest count
module _ (x : ℕ) where
  exact : {w d b : ℕ} → Digit d b → (w ≡ 0 → d ≡ 0) → eqb w 0 && not (eqb b 48) ≡ false
  exact {w = zero} {d} {b} g z = let e = z refl in rw (eq-eqb b 48 (omega arith))
  exact {w = suc k} g z = rw (eqb-suc-zero k)

  decimals_complete : {w v : ℕ} {l : List ℕ} → Decimals w v l → (neg : Bool) (m : ℕ) → decimals x neg false w m l ≡ to_count x neg false (m + v)
  unfolding decimals
  decimals_complete (last g z) neg m = rw (digit_is g, exact g z, digit_val g)
  decimals_complete (next {w} {d} {b} {v} g z r) neg m =
      rw (digit_is g, exact g z, digit_val g, ← add_assoc m (d * w) v) (decimals_complete r neg (m + d * w))

  numeral_complete : {n : ℕ} {l : List ℕ} → Numeral n l → (u : ℕ) (neg : Bool) (rest : List ℕ) → whole x u neg 0 (l ++ rest) ≡ whole x u neg n rest
  unfolding whole
  numeral_complete (one {d} g) u neg rest = rw (digit_is g, digit_val g, zero-add d)
  numeral_complete (more {n} {d} {b} {l} r g) u neg rest =
      rw append_assoc (numeral_complete r u neg (b ∷ rest) ∙ rw (digit_is g, digit_val g))

  decimals_first : {w v : ℕ} {l : List ℕ} → Decimals w v l → digit_here l ≡ true
  unfolding digit_here
  decimals_first (last g z) = digit_is g
  decimals_first (next g z r) = digit_is g

  pub numeral_body : {n : ℕ} {l : List ℕ} → Numeral n l → (u : ℕ) (neg : Bool) (rest : List ℕ) → body x u neg (l ++ rest) ≡ whole x u neg n rest
  unfolding body
  numeral_body r u neg rest = rw (numeral_first r rest) (numeral_complete r u neg rest)

  unsigned_counted : {u c : ℕ} {l : List ℕ} → Unsigned u c l → (neg : Bool) → body x u neg l ≡ to_count x neg false c
  unfolding whole
  unsigned_counted {u} (no_point {l = l} r) neg = rw append-nil at (numeral_body r u neg [])
  unsigned_counted {u} (with_point {n} {v} {l} {m} r f) neg =
      numeral_body r u neg (46 ∷ m) ∙ rw (decimals_first f) (decimals_complete f neg (n * u))

  unsigned_complete : {u c : ℕ} {l : List ℕ} → Unsigned u c l → c ≤ x → (neg : Bool) → body x u neg l ≡ Ok (signed neg c)
  unfolding to_count
  unsigned_complete {u} {c} r h neg = unsigned_counted r neg ∙ rw (le-leb c x h)

  unsigned_first : {u c : ℕ} {l : List ℕ} → Unsigned u c l → digit_here l ≡ true
  unsigned_first (no_point r) = rw append-nil at (numeral_first r [])
  unsigned_first (with_point {m = m} r f) = numeral_first r (46 ∷ m)

  pub read_digit : (k : ℕ) (l : List ℕ) → digit_here l ≡ true → read_number k x l ≡ body x (10 ^ k) false l
  unfolding read_number digit_here
  read_digit k [] h = absurd (false≢true h)
  read_digit k (b ∷ bs) h =
      let low = digit_low b h in
      rw (ne_eqb b 45 (omega arith), ne_eqb b 43 (omega arith))

pub number_complete : {k x : ℕ} {z : ℤ} {l : List ℕ} → SpellsNumber k x z l → read_number k x l ≡ Ok z
unfolding read_number
number_complete {k} {x} (plain {c} {l} u h) = read_digit x k l (unsigned_first x u) ∙ unsigned_complete x u h false
number_complete {k} {x} (plus u h) = unsigned_complete x u h false
number_complete {k} {x} (minus u h) = unsigned_complete x u h true

-- Sound: a count that is read is spelled so
cond_count : (t : Bool) {a : Result ℤ NumberError} {z : ℤ} → cond t a (Err NotNumber) ≡ Ok z → (t ≡ true) × (a ≡ Ok z)
cond_count true h = (refl, h)
cond_count false h = let z : ◌≡◌ {A = ℕ} 0 1 = cc in absurd (omega arith)

module _ (x : ℕ) where
  -- what a count says
  record Counted (neg fine : Bool) (m : ℕ) (z : ℤ) : Type 0 where
    fair : fine ≡ false
    is : z ≡ signed neg m
    within : m ≤ x

  count_sound : (neg fine : Bool) (m : ℕ) {z : ℤ} → to_count x neg fine m ≡ Ok z → Counted neg fine m z
  unfolding to_count
  count_sound neg true m h =
      let e = (cond_count (leb m x) h).1 in
      let z : ◌≡◌ {A = ℕ} 0 1 = cc in
      absurd (omega arith)
  count_sound neg false m h =
      let e = cond_count (leb m x) h in
      record { fair = refl; is = cc e.1; within = leb-true m x e.0 }

  exact_sound : (w b : ℕ) → is_digit b ≡ true → eqb w 0 && not (eqb b 48) ≡ false → w ≡ 0 → b - 48 ≡ 0
  exact_sound w b d h z =
      let e = eqb-true b 48 (not-false _ (rw (eq-eqb w 0 z) at h)) in
      omega arith

  -- what a count that was read from decimals says
  record Got (w m : ℕ) (neg fine : Bool) (z : ℤ) (l : List ℕ) : Type 0 where
    v : ℕ
    spelled : Decimals w v l
    fair : fine ≡ false
    is : z ≡ signed neg (m + v)
    within : m + v ≤ x

  decimals_sound : (b : ℕ) (l : List ℕ) (neg fine : Bool) (w m : ℕ) {z : ℤ} → decimals x neg fine w m (b ∷ l) ≡ Ok z → Got w m neg fine z (b ∷ l)
  unfolding decimals
  decimals_sound b [] neg fine w m h =
      let e = cond_count (is_digit b) h in
      let j = count_sound neg _ _ e.1 in
      let f = neither fine _ j.fair in
      record { v = (b - 48) * w; spelled = last (digit_of e.0) (exact_sound w b e.0 f.1); fair = f.0; is = j.is; within = j.within }
  decimals_sound b (a ∷ l) neg fine w m h =
      let e = cond_count (is_digit b) h in
      let g = decimals_sound a l neg _ _ _ e.1 in
      let f = neither fine _ g.fair in
      let s = add_assoc m ((b - 48) * w) g.v in
      record { v = (b - 48) * w + g.v; spelled = next (digit_of e.0) (exact_sound w b e.0 f.1) g.spelled; fair = f.0; is = rw s at g.is; within = rw s at g.within }

  -- what a count that was read from a magnitude says
  record Read (u : ℕ) (neg : Bool) (z : ℤ) (l : List ℕ) : Type 0 where
    c : ℕ
    spelled : Unsigned u c l
    is : z ≡ signed neg c
    within : c ≤ x

  point_sound : (u : ℕ) (l : List ℕ) {p : List ℕ} {n : ℕ} → Numeral n p → (neg : Bool) {z : ℤ} → digit_here l ≡ true → decimals x neg false (u / 10) (n * u) l ≡ Ok z → Read u neg z (p ++ 46 ∷ l)
  unfolding digit_here
  point_sound u [] r neg d h = absurd (false≢true d)
  point_sound u (b ∷ l) {p} r neg d h =
      let g = decimals_sound b l neg false _ _ h in
      record { c = _; spelled = with_point r g.spelled; is = g.is; within = g.within }

  whole_sound : (u : ℕ) (l : List ℕ) {p : List ℕ} {n : ℕ} → Numeral n p → (neg : Bool) {z : ℤ} → whole x u neg n l ≡ Ok z → Read u neg z (p ++ l)
  unfolding whole
  whole_sound u [] {p} {n} r neg h =
      let j = count_sound neg false _ h in
      record { c = n * u; spelled = rw (append-nil p) (no_point r); is = j.is; within = j.within }
  whole_sound u (b ∷ l) {p} r neg h =
      ⊎_elim
      (λ e. rw append_assoc at (whole_sound u l (more r (digit_of e.0)) neg e.1))
      (λ e.
      let f = cond_count (eqb b 46 && digit_here l) e.1 in
      rw (eqb-true b 46 (and_left _ _ f.0)) (point_sound u l r neg (and_right (eqb b 46) _ f.0) f.1))
      (cond_cases (is_digit b) h)

  body_sound : (u : ℕ) (l : List ℕ) (neg : Bool) {z : ℤ} → body x u neg l ≡ Ok z → Read u neg z l
  unfolding body digit_here whole
  body_sound u [] neg h = let z : ◌≡◌ {A = ℕ} 0 1 = cc in absurd (omega arith)
  body_sound u (b ∷ l) neg h =
      let e = cond_count (is_digit b) h in
      whole_sound u l (one (digit_of e.0)) neg (rw (e.0, zero-add) at e.1)

pub number_sound : (k x : ℕ) (l : List ℕ) {z : ℤ} → read_number k x l ≡ Ok z → SpellsNumber k x z l
unfolding read_number
number_sound k x [] h = let z : ◌≡◌ {A = ℕ} 0 1 = cc in absurd (omega arith)
number_sound k x (b ∷ l) h =
    ⊎_elim
    (λ e. let r = body_sound x (10 ^ k) l true e.1 in rw (eqb-true b 45 e.0, r.is) (minus r.spelled r.within))
    (λ e. ⊎_elim
    (λ f. let r = body_sound x (10 ^ k) l false f.1 in rw (eqb-true b 43 f.0, r.is) (plus r.spelled r.within))
    (λ f. let r = body_sound x (10 ^ k) (b ∷ l) false f.1 in rw r.is (plain r.spelled r.within))
    (cond_cases (eqb b 43) e.1))
    (cond_cases (eqb b 45) h)

-- and its magnitude is at most x
pub number_small : {k x : ℕ} {z : ℤ} {l : List ℕ} → SpellsNumber k x z l → nat_abs z ≤ x
number_small (plain r h) = h
number_small (plus r h) = h
number_small (minus {c} r h) = rw (abs_signed true c) h

-- So a list of bytes spells one number at most
pub number_unique : {k x : ℕ} {y z : ℤ} {l : List ℕ} → SpellsNumber k x y l → SpellsNumber k x z l → y ≡ z
number_unique p q = let e = number_complete p in let f = number_complete q in cc
