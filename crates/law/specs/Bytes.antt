-- "In other lines the permitted bytes are 32 to 126 and 128 to 255." Bytes by class, and what is said of all bytes of a list.
use Rattle.std.specs.Prelude.{ℕ, ◌≡◌, List, [], ◌∷◌, Bool, true, false, cond, not, ◌&&◌, leb, eqb}
use Prim.Native.Char.{code}
use Prim.Native.String as str
use Prim.Native.String.{String}

-- 32 to 126 and 128 to 255
unfoldable pub permitted : ℕ → Bool
permitted b = cond (leb 32 b) (cond (leb b 126) true (cond (leb 128 b) (leb b 255) false)) false

-- what parts fields
abbrev pub is_space : ℕ → Bool
is_space b = eqb b 32

-- what a bare field is made of: no space and no quote
abbrev pub in_bare : ℕ → Bool
in_bare b = cond (eqb b 32) false (not (eqb b 34))

-- what stands between two quotes
abbrev pub in_quotes : ℕ → Bool
in_quotes b = not (eqb b 34)

-- what a line is made of
abbrev pub in_line : ℕ → Bool
in_line b = not (eqb b 10)

-- the bytes of a quoted text of ASCII characters
abbrev pub ascii : String → List ℕ
ascii str.[] = []
ascii (str.◌∷◌ c s) = code c ∷ ascii s

-- every number of a list passes a test: the bytes of a line, the sections of a file
pub data All (p : ℕ → Bool) : List ℕ → Type 0 where
  none : All p []
  one : {b : ℕ} {s : List ℕ} → p b ≡ true → All p s → All p (b ∷ s)

-- the same as a test
unfoldable pub all_of : (ℕ → Bool) → List ℕ → Bool
all_of p [] = true
all_of p (b ∷ s) = p b && all_of p s

-- begins with a byte
unfoldable pub begins : ℕ → List ℕ → Bool
begins a [] = false
begins a (b ∷ s) = eqb b a

-- ends in a byte
unfoldable pub ends_in : ℕ → List ℕ → Bool
ends_in a [] = false
ends_in a (b ∷ []) = eqb b a
ends_in a (b ∷ c ∷ s) = ends_in a (c ∷ s)
