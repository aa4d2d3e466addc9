-- "A text is two numbers, its start and length in the file, quotes left off": the fields of a line as in Fields, each with the place of its
-- first byte.
use Rattle.std.specs.Prelude.{ℕ, ◌+◌, List, [], ◌∷◌, ◌++◌, true, false, ℤ, pos, length}
use Rattle.law.specs.Fields.{Field, field, Spells}

-- a field, and the place of its first byte, quotes left off
pub record Spot : Type 0 where
  pub at : ℕ
  pub what : Field

-- a field whose spelling begins at b: its own first byte stands there, or behind the opening quote
abbrev pub spot_of : ℕ → Field → Spot
spot_of b (field true s) = record { at = b + 1; what = field true s }
spot_of b (field false s) = record { at = b; what = field false s }

-- a line that begins at b: nothing; a space before a line; a field alone; a field before a line that starts with a space
pub data SpelledAt : ℕ → List Spot → List ℕ → Type 0 where
  end : {b : ℕ} → SpelledAt b [] []
  space : {b : ℕ} {ps : List Spot} {s : List ℕ} → SpelledAt (b + 1) ps s → SpelledAt b ps (32 ∷ s)
  last : {b : ℕ} {f : Field} {s : List ℕ} → Spells f s → SpelledAt b (spot_of b f ∷ []) s
  next : {b : ℕ} {f : Field} {ps : List Spot} {s t : List ℕ} → Spells f s → SpelledAt (b + length s) ps (32 ∷ t) → SpelledAt b (spot_of b f ∷ ps) (s ++ (32 ∷ t))

-- a field's bytes, without its quotes
abbrev pub bytes_of : Field → List ℕ
bytes_of (field q s) = s

-- start and length of a field
abbrev pub start_and_length : Spot → List ℤ
start_and_length p = pos p.at ∷ pos (length (bytes_of p.what)) ∷ []

-- of each field, one after the other
unfoldable pub numbers_of : List Spot → List ℤ
numbers_of [] = []
numbers_of (p ∷ ps) = start_and_length p ++ numbers_of ps
