-- "Decimals past the fifth must be zeros; magnitude is judged without them": numbers whose further decimals may be any, cut off.
use Rattle.std.specs.Prelude.{ℕ, ◌+◌, ◌*◌, ◌/◌, ◌^◌, ◌≤◌, List, [], ◌∷◌, ◌++◌}
use Rattle.law.specs.Numbers.{Digit, Numeral}

-- decimals as in `Decimals`, but one that weighs nothing may be any digit
pub data CutDecimals : ℕ → ℕ → List ℕ → Type 0 where
  last : {w d b : ℕ} → Digit d b → CutDecimals w (d * w) (b ∷ [])
  next : {w d b v : ℕ} {l : List ℕ} → Digit d b → CutDecimals (w / 10) v l → CutDecimals w (d * w + v) (b ∷ l)

-- a magnitude of at most x counts, of which u make a whole
pub data CutUnsigned (u x : ℕ) : List ℕ → Type 0 where
  no_point : {n : ℕ} {l : List ℕ} → Numeral n l → n * u ≤ x → CutUnsigned u x l
  with_point : {n v : ℕ} {l m : List ℕ} → Numeral n l → CutDecimals (u / 10) v m → n * u + v ≤ x → CutUnsigned u x (l ++ 46 ∷ m)

-- a number whose magnitude, judged without its decimals past the k-th, is at most x counts
pub data InMagnitude (k x : ℕ) : List ℕ → Type 0 where
  plain : {l : List ℕ} → CutUnsigned (10 ^ k) x l → InMagnitude k x l
  plus : {l : List ℕ} → CutUnsigned (10 ^ k) x l → InMagnitude k x (43 ∷ l)
  minus : {l : List ℕ} → CutUnsigned (10 ^ k) x l → InMagnitude k x (45 ∷ l)
