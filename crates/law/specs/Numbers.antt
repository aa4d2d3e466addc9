-- "Number: optional + or -, digits, optionally a point and digits, with at least one digit on each side. It is held as a count of
-- hundred-thousandths. Decimals past the fifth must be zeros; magnitude is judged without them."
use Rattle.std.specs.Prelude.{ℕ, ◌+◌, ◌*◌, ◌/◌, ◌^◌, ◌≤◌, ◌<◌, ◌≡◌, List, [], ◌∷◌, ◌++◌, Bool, ◌&&◌, leb, ℤ, pos, neg_ℤ}

-- 48 to 57
abbrev pub is_digit : ℕ → Bool
is_digit b = leb 48 b && leb b 57

-- the byte b of a digit d
pub record Digit (d b : ℕ) : Type 0 where
  pub small : d < 10
  pub byte : b ≡ 48 + d

-- a numeral is a digit, or a numeral and one digit more
pub data Numeral : ℕ → List ℕ → Type 0 where
  one : {d b : ℕ} → Digit d b → Numeral d (b ∷ [])
  more : {n d b : ℕ} {l : List ℕ} → Numeral n l → Digit d b → Numeral (n * 10 + d) (l ++ b ∷ [])

-- decimals of which the first weighs w, and each other a tenth of the one before it; one that weighs nothing is a 0
pub data Decimals : ℕ → ℕ → List ℕ → Type 0 where
  last : {w d b : ℕ} → Digit d b → (w ≡ 0 → d ≡ 0) → Decimals w (d * w) (b ∷ [])
  next : {w d b v : ℕ} {l : List ℕ} → Digit d b → (w ≡ 0 → d ≡ 0) → Decimals (w / 10) v l → Decimals w (d * w + v) (b ∷ l)

-- a magnitude, with or without a point (46), in counts of which u make a whole
pub data Unsigned (u : ℕ) : ℕ → List ℕ → Type 0 where
  no_point : {n : ℕ} {l : List ℕ} → Numeral n l → Unsigned u (n * u) l
  with_point : {n v : ℕ} {l m : List ℕ} → Numeral n l → Decimals (u / 10) v m → Unsigned u (n * u + v) (l ++ 46 ∷ m)

-- a number of which k decimals are kept: a sign (43 or 45) or none, and a magnitude of at most x counts
pub data SpellsNumber (k x : ℕ) : ℤ → List ℕ → Type 0 where
  plain : {c : ℕ} {l : List ℕ} → Unsigned (10 ^ k) c l → c ≤ x → SpellsNumber k x (pos c) l
  plus : {c : ℕ} {l : List ℕ} → Unsigned (10 ^ k) c l → c ≤ x → SpellsNumber k x (pos c) (43 ∷ l)
  minus : {c : ℕ} {l : List ℕ} → Unsigned (10 ^ k) c l → c ≤ x → SpellsNumber k x (neg_ℤ (pos c)) (45 ∷ l)
