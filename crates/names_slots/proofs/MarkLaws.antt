-- Laws of marks: one turn of each loop, and what a mark does to every other.
use Prim.Native.Nat.{ℕ, zero, suc, ◌+◌, ◌*◌, ◌-◌, ◌/◌, ◌%◌, ◌^◌, ◌≤◌, ◌<◌, min, max}
use mathlib.Core.Path.{◌≡◌, refl, sym, ap, ap₂, ◌∙◌}
use mathlib.Core.List.{List}
use mathlib.Core.Bool.{Bool, true, false, cond, not, ◌&&◌, true≢false}
use native.Mathlib.Omega.{arith}
use native.Mathlib.Nat.{le_trans, le_of_eq, max-le, mod-lt, min-le_left, min-le_right, min-eq_right, le-max_left, mul-le-mul, one-mul, div-add-mod'}
use borrow.Author.Tests.{eqb-true, eqb-false, eq-eqb, not-true, not-false}
use mir.Syntax.{w64}
use mir.Val.{Fits}
use lib.Arith.{bin_ind}
use lib.Bits.{bit_and, bit_or, and_step, or_step, and_self, and_zero_r, or_comm}
use lib.Dec.{eqb}
use lib.ListN.{length, get_or, set, length-set}
use lib.Pow.{shl_exact}
use lib.Seq.{get_or-set_same, get_or-set_other}
use Rattle.basics.proofs.Bools.{and_left, and_right, and_both}
use Rattle.names_slots.specs.Marks.{bits, spot_of, word_of, bit_of, has_bit, with_bit, has_bits, with_bits, may_hold, marked}

-- the place of a bit fits its type

square : (i : ℕ) → i < bits → i * i ≤ 81
square i k = let a : i ≤ 9 = omega arith in mul-le-mul a a

step_bound : (q i : ℕ) → i < bits → q < 4_294_967_296 → i * (q * 2 + 1 + i * i) ≤ 77_309_412_048
step_bound q i k l =
    let s = square i k in
    let a : i ≤ 9 = omega arith in
    let b : q * 2 + 1 + i * i ≤ 8_589_934_672 = omega arith in
    mul-le-mul a b

module _ (h i : ℕ) (k : i < bits) where
  pub square_fits : Fits w64 (i * i)
  square_fits = let s = square i k in omega arith

  module _ (f : Fits w64 h) where
    l : h / 4_294_967_296 < 4_294_967_296
    l = omega arith

    pub step_fits : Fits w64 (h / 4_294_967_296 * 2 + 1 + i * i)
    step_fits = let s = square i k in omega arith

    pub steps_fit : Fits w64 (i * (h / 4_294_967_296 * 2 + 1 + i * i))
    steps_fit = let s = step_bound (h / 4_294_967_296) i k l in omega arith

    pub spot_fits : Fits w64 (h % 4_294_967_296 + i * (h / 4_294_967_296 * 2 + 1 + i * i))
    spot_fits = let s = step_bound (h / 4_294_967_296) i k l in omega arith

pub spot_is : (h i : ℕ) → h % 4_294_967_296 + i * (h / 4_294_967_296 * 2 + 1 + i * i) ≡ spot_of h i
unfolding spot_of
spot_is h i = refl

pub word_is : (p n : ℕ) → p / 16 % n ≡ word_of p n
unfolding word_of
word_is p n = refl

pub bit_is : (p : ℕ) → (1 * 2 ^ (p % 16)) % 2 ^ 16 ≡ bit_of p
unfolding bit_of
bit_is p =
    let l : 1 < 2 ^ 1 = omega arith in
    let r : 1 + p % 16 ≤ 16 = omega arith in
    shl_exact 1 (p % 16) 16 l r ∙ one-mul (2 ^ (p % 16))

word_lt : (p n : ℕ) → 0 < n → word_of p n < n
unfolding word_of
word_lt p n k = mod-lt (p / 16) k

module _ (xs : List ℕ) (p b at : ℕ) (e : at ≡ word_of p (length xs)) where
  pub word_within : 0 < length xs → at < length xs
  word_within k = rw e (word_lt p (length xs) k)

  module _ (d : b ≡ bit_of p) where
    pub has_is : eqb (bit_and (get_or xs at 0) b) b ≡ has_bit xs p
    unfolding has_bit
    has_is = rw (e, d)

    pub put_is : set xs at (bit_or (get_or xs at 0) b) ≡ with_bit xs p
    unfolding with_bit
    put_is = rw (e, d)

-- digits of numbers

high_digits : (a d g : ℕ) → a * 2 + d ≡ g → d < 2 → g / 2 ≡ a
high_digits a d g e l = omega arith

low_digit : (a d g : ℕ) → a * 2 + d ≡ g → d < 2 → g % 2 ≡ d
low_digit a d g e l = omega arith

max_lt : (a b : ℕ) → max (a % 2) (b % 2) < 2
max_lt a b =
    let p : a % 2 ≤ 1 = omega arith in
    let q : b % 2 ≤ 1 = omega arith in
    let l : max (a % 2) (b % 2) ≤ 1 = max-le p q in
    omega arith

min_lt : (a b : ℕ) → min (a % 2) (b % 2) < 2
min_lt a b = let l = min-le_right (a % 2) (b % 2) in omega arith

-- bits that are set stay set
or_keeps : (n m g : ℕ) → bit_and n g ≡ g → bit_and (bit_or n m) g ≡ g
or_keeps n =
    bin_ind (λ (n : ℕ). (m g : ℕ) → bit_and n g ≡ g → bit_and (bit_or n m) g ≡ g)
    (λ m g e. ap (bit_and (bit_or zero m)) (sym e) ∙ and_zero_r (bit_or zero m) ∙ e)
    (λ n ih m g e. digit n m g (sym (and_step n g) ∙ e) (ih (m / 2) (g / 2)))
    n
  where
    digit : (n m g : ℕ) → bit_and (n / 2) (g / 2) * 2 + min (n % 2) (g % 2) ≡ g
        → (bit_and (n / 2) (g / 2) ≡ g / 2 → bit_and (bit_or (n / 2) (m / 2)) (g / 2) ≡ g / 2)
        → bit_and (bit_or n m) g ≡ g
    digit n m g e ih =
        let high : bit_or n m / 2 ≡ bit_or (n / 2) (m / 2) = high_digits (bit_or (n / 2) (m / 2)) (max (n % 2) (m % 2)) (bit_or n m) (sym (or_step n m)) (max_lt n m) in
        let low : bit_or n m % 2 ≡ max (n % 2) (m % 2) = low_digit (bit_or (n / 2) (m / 2)) (max (n % 2) (m % 2)) (bit_or n m) (sym (or_step n m)) (max_lt n m) in
        let d : g % 2 ≡ min (n % 2) (g % 2) = low_digit (bit_and (n / 2) (g / 2)) (min (n % 2) (g % 2)) g e (min_lt n g) in
        let a : g / 2 ≡ bit_and (n / 2) (g / 2) = high_digits (bit_and (n / 2) (g / 2)) (min (n % 2) (g % 2)) g e (min_lt n g) in
        let l : g % 2 ≤ max (n % 2) (m % 2) = le_trans (le_of_eq d) (le_trans (min-le_left (n % 2) (g % 2)) (le-max_left (n % 2) (m % 2))) in
        and_step (bit_or n m) g
        ∙ ap₂ (λ (x y : ℕ). bit_and x (g / 2) * 2 + min y (g % 2)) high low
        ∙ ap₂ (λ (x y : ℕ). x * 2 + y) (ih (sym a)) (min-eq_right l)
        ∙ div-add-mod' g 2

or_sets : (n g : ℕ) → bit_and (bit_or n g) g ≡ g
or_sets n g = ap (λ (x : ℕ). bit_and x g) (or_comm n g) ∙ or_keeps g n g (and_self g)

-- words with all the bits of others
record Under (xs ys : List ℕ) : Type 0 where
  same : length ys ≡ length xs
  keeps : (p : ℕ) → has_bit xs p ≡ true → has_bit ys p ≡ true

under_self : (xs : List ℕ) → Under xs xs
under_self xs = record { same = refl; keeps = λ p e. e }

under_trans : (xs ys zs : List ℕ) → Under xs ys → Under ys zs → Under xs zs
under_trans xs ys zs a b = record { same = b.same ∙ a.same; keeps = λ p e. b.keeps p (a.keeps p e) }

with_length : (xs : List ℕ) (p : ℕ) → length (with_bit xs p) ≡ length xs
unfolding with_bit
with_length xs p = length-set xs (word_of p (length xs)) (bit_or (get_or xs (word_of p (length xs)) 0) (bit_of p))

module _ (xs : List ℕ) (some : 0 < length xs) (p : ℕ) where
  -- a word of the words with one bit more
  word_of_with : (q : ℕ) → word_of q (length (with_bit xs p)) ≡ word_of q (length xs)
  word_of_with q = ap (word_of q) (with_length xs p)

  at_word : get_or (with_bit xs p) (word_of p (length xs)) 0 ≡ bit_or (get_or xs (word_of p (length xs)) 0) (bit_of p)
  unfolding with_bit
  at_word = get_or-set_same xs (word_of p (length xs)) (bit_or (get_or xs (word_of p (length xs)) 0) (bit_of p)) 0 (word_lt p (length xs) some)

  at_other : (i : ℕ) → (i ≡ word_of p (length xs) → ⊥) → get_or (with_bit xs p) i 0 ≡ get_or xs i 0
  unfolding with_bit
  at_other i n = get_or-set_other xs (word_of p (length xs)) i (bit_or (get_or xs (word_of p (length xs)) 0) (bit_of p)) 0 n

  with_here : has_bit (with_bit xs p) p ≡ true
  unfolding has_bit
  with_here = rw (word_of_with p, at_word) (eq-eqb (bit_and (bit_or (get_or xs (word_of p (length xs)) 0) (bit_of p)) (bit_of p)) (bit_of p) (or_sets (get_or xs (word_of p (length xs)) 0) (bit_of p)))

  with_keeps : (q : ℕ) → has_bit xs q ≡ true → has_bit (with_bit xs p) q ≡ true
  unfolding has_bit
  with_keeps q k = rw (word_of_with q) (go (eqb (word_of q (length xs)) (word_of p (length xs))) refl)
    where
      held : bit_and (get_or xs (word_of q (length xs)) 0) (bit_of q) ≡ bit_of q
      held = eqb-true (bit_and (get_or xs (word_of q (length xs)) 0) (bit_of q)) (bit_of q) k

      go : (b : Bool) → eqb (word_of q (length xs)) (word_of p (length xs)) ≡ b → eqb (bit_and (get_or (with_bit xs p) (word_of q (length xs)) 0) (bit_of q)) (bit_of q) ≡ true
      go true e =
          let w : word_of q (length xs) ≡ word_of p (length xs) = eqb-true (word_of q (length xs)) (word_of p (length xs)) e in
          let x : get_or (with_bit xs p) (word_of q (length xs)) 0 ≡ bit_or (get_or xs (word_of q (length xs)) 0) (bit_of p) = rw w at_word in
          eq-eqb (bit_and (get_or (with_bit xs p) (word_of q (length xs)) 0) (bit_of q)) (bit_of q) (ap (λ (y : ℕ). bit_and y (bit_of q)) x ∙ or_keeps (get_or xs (word_of q (length xs)) 0) (bit_of p) (bit_of q) held)
      go false e = rw (at_other (word_of q (length xs)) (eqb-false (word_of q (length xs)) (word_of p (length xs)) e)) k

  with_under : Under xs (with_bit xs p)
  with_under = record { same = with_length xs p; keeps = with_keeps }

all_under : (f : ℕ) (xs : List ℕ) (h i : ℕ) → 0 < length xs → Under xs (with_bits f xs h i)
unfolding with_bits
all_under zero xs h i some = under_self xs
all_under (suc f) xs h i some =
    let s : 0 < length (with_bit xs (spot_of h i)) = rw (with_length xs (spot_of h i)) some in
    under_trans xs (with_bit xs (spot_of h i)) (with_bits f (with_bit xs (spot_of h i)) h (i + 1)) (with_under xs some (spot_of h i)) (all_under f (with_bit xs (spot_of h i)) h (i + 1) s)

has_under : (f : ℕ) (xs ys : List ℕ) (h i : ℕ) → Under xs ys → has_bits f xs h i ≡ true → has_bits f ys h i ≡ true
unfolding has_bits
has_under zero xs ys h i u k = refl
has_under (suc f) xs ys h i u k =
    and_both (has_bit ys (spot_of h i)) (has_bits f ys h (i + 1))
    (u.keeps (spot_of h i) (and_left (has_bit xs (spot_of h i)) (has_bits f xs h (i + 1)) k))
    (has_under f xs ys h (i + 1) u (and_right (has_bit xs (spot_of h i)) (has_bits f xs h (i + 1)) k))

all_here : (f : ℕ) (xs : List ℕ) (h i : ℕ) → 0 < length xs → has_bits f (with_bits f xs h i) h i ≡ true
unfolding has_bits with_bits
all_here zero xs h i some = refl
all_here (suc f) xs h i some =
    let s : 0 < length (with_bit xs (spot_of h i)) = rw (with_length xs (spot_of h i)) some in
    and_both (has_bit (with_bits f (with_bit xs (spot_of h i)) h (i + 1)) (spot_of h i)) (has_bits f (with_bits f (with_bit xs (spot_of h i)) h (i + 1)) h (i + 1))
    ((all_under f (with_bit xs (spot_of h i)) h (i + 1) s).keeps (spot_of h i) (with_here xs some (spot_of h i)))
    (all_here f (with_bit xs (spot_of h i)) h (i + 1) s)

-- a loop that tests: what is left tells all
pub record Testing (xs : List ℕ) (h i : ℕ) : Type 0 where
  pub left : has_bits (bits - i) xs h i ≡ may_hold xs h
  pub far : i ≤ bits

pub test_start : (xs : List ℕ) (h : ℕ) → Testing xs h 0
unfolding may_hold
test_start xs h = record { left = refl; far = omega arith }

module _ (xs : List ℕ) (h i : ℕ) (t : Testing xs h i) where
  pub test_over : bits ≤ i → true ≡ may_hold xs h
  unfolding has_bits
  test_over k = let e : bits - i ≡ 0 = omega arith in sym (ap (λ (f : ℕ). has_bits f xs h i) e) ∙ t.left

  module _ (p : ℕ) (r : Bool) (l : i < bits) (e : p ≡ spot_of h i) (d : r ≡ has_bit xs p) where
    test_one : r && has_bits (bits - (i + 1)) xs h (i + 1) ≡ may_hold xs h
    unfolding has_bits
    test_one =
        let f : bits - i ≡ suc (bits - (i + 1)) = omega arith in
        ap (λ (b : Bool). b && has_bits (bits - (i + 1)) xs h (i + 1)) (d ∙ ap (has_bit xs) e) ∙ sym (ap (λ (f : ℕ). has_bits f xs h i) f) ∙ t.left

    pub test_lacks : not r ≡ true → false ≡ may_hold xs h
    test_lacks k = ap (λ (b : Bool). b && has_bits (bits - (i + 1)) xs h (i + 1)) (sym (not-true r k)) ∙ test_one

    pub test_more : not r ≡ false → Testing xs h (i + 1)
    test_more k = record { left = ap (λ (b : Bool). b && has_bits (bits - (i + 1)) xs h (i + 1)) (sym (not-false r k)) ∙ test_one; far = omega arith }

-- a loop that sets: what is left sets the rest
pub record Setting (xs₀ xs : List ℕ) (h i : ℕ) : Type 0 where
  pub left : with_bits (bits - i) xs h i ≡ marked xs₀ h
  pub far : i ≤ bits
  pub some : 0 < length xs
  pub same : length xs ≡ length xs₀

pub set_start : (xs : List ℕ) (h : ℕ) → 0 < length xs → Setting xs xs h 0
unfolding marked
set_start xs h k = record { left = refl; far = omega arith; some = k; same = refl }

module _ (xs₀ xs : List ℕ) (h i : ℕ) (t : Setting xs₀ xs h i) where
  pub set_room : 0 < length xs
  set_room = t.some

  pub set_length : length xs ≡ length xs₀
  set_length = t.same

  pub set_over : bits ≤ i → xs ≡ marked xs₀ h
  unfolding with_bits
  set_over k = let e : bits - i ≡ 0 = omega arith in sym (ap (λ (f : ℕ). with_bits f xs h i) e) ∙ t.left

  pub set_more : (p : ℕ) (ys : List ℕ) → i < bits → p ≡ spot_of h i → ys ≡ with_bit xs p → Setting xs₀ ys h (i + 1)
  unfolding with_bits
  set_more p ys l e d =
      let f : bits - i ≡ suc (bits - (i + 1)) = omega arith in
      let n : length ys ≡ length xs = ap length d ∙ with_length xs p in
      record {
        left = ap (λ (zs : List ℕ). with_bits (bits - (i + 1)) zs h (i + 1)) (d ∙ ap (with_bit xs) e) ∙ sym (ap (λ (f : ℕ). with_bits f xs h i) f) ∙ t.left;
        far = omega arith;
        some = rw n t.some;
        same = n ∙ t.same;
      }

-- marks by their hashes

with_bits_length : (f : ℕ) (xs : List ℕ) (h i : ℕ) → length (with_bits f xs h i) ≡ length xs
unfolding with_bits
with_bits_length zero xs h i = refl
with_bits_length (suc f) xs h i = with_bits_length f (with_bit xs (spot_of h i)) h (i + 1) ∙ with_length xs (spot_of h i)

marked_length : (xs : List ℕ) (h : ℕ) → length (marked xs h) ≡ length xs
unfolding marked
marked_length xs h = with_bits_length bits xs h 0

pub marked_same_length : (xs ys : List ℕ) (h : ℕ) → ys ≡ marked xs h → length ys ≡ length xs
marked_same_length xs ys h e = ap length e ∙ marked_length xs h

-- with a mark where a test passes
module _ (xs : List ℕ) (h : ℕ) where
  pub marking_length : (b : Bool) → length (cond b (marked xs h) xs) ≡ length xs
  marking_length true = marked_length xs h
  marking_length false = refl

  module _ (some : 0 < length xs) where
    marked_held : may_hold (marked xs h) h ≡ true
    unfolding may_hold marked
    marked_held = all_here bits xs h 0 some

    marked_keeps : (g : ℕ) → may_hold xs g ≡ true → may_hold (marked xs h) g ≡ true
    unfolding may_hold marked
    marked_keeps g = has_under bits xs (with_bits bits xs h 0) g 0 (all_under bits xs h 0 some)

    -- what has no mark then had none before
    pub marking_keeps : (b : Bool) (g : ℕ) → may_hold (cond b (marked xs h) xs) g ≡ false → may_hold xs g ≡ false
    marking_keeps b g k = go b (may_hold xs g) refl k
      where
        go : (b c : Bool) → may_hold xs g ≡ c → may_hold (cond b (marked xs h) xs) g ≡ false → c ≡ false
        go b false e k = refl
        go false true e k = absurd (true≢false (sym e ∙ k))
        go true true e k = absurd (true≢false (sym (marked_keeps g e) ∙ k))

    -- and what was marked has one
    pub marking_here : (b c : Bool) (g : ℕ) → (c ≡ true → h ≡ g) → may_hold (cond b (marked xs h) xs) g ≡ false → (b && c) ≡ false
    marking_here false c g e k = refl
    marking_here true false g e k = refl
    marking_here true true g e k = absurd (true≢false (sym (ap (may_hold (marked xs h)) (sym (e refl)) ∙ marked_held) ∙ k))
