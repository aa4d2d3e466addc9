-- "Spaces part fields. A field is bare (no quote in it), or is a quote, bytes without a quote, and a quote followed by a space or the line's end."
use Rattle.std.specs.Prelude.{ℕ, List, [], ◌∷◌, ◌++◌, Bool, true, false}
use Rattle.law.specs.Bytes.{in_bare, in_quotes, All}

-- a field of a line: whether it was quoted, and its bytes without the quotes
pub data Field : Type 0 where
  field : Bool → List ℕ → Field

-- a field is its bytes, at least one and none of them a space or a quote; or bytes that are no quote, between quotes
pub data Spells : Field → List ℕ → Type 0 where
  bare : {b : ℕ} {s : List ℕ} → All in_bare (b ∷ s) → Spells (field false (b ∷ s)) (b ∷ s)
  quoted : {s : List ℕ} → All in_quotes s → Spells (field true s) (34 ∷ (s ++ (34 ∷ [])))

-- a line: nothing; a space before a line; a field alone; a field before a line that starts with a space
pub data Spelled : List Field → List ℕ → Type 0 where
  end : Spelled [] []
  space : {fs : List Field} {s : List ℕ} → Spelled fs s → Spelled fs (32 ∷ s)
  last : {f : Field} {s : List ℕ} → Spells f s → Spelled (f ∷ []) s
  next : {f : Field} {fs : List Field} {s t : List ℕ} → Spells f s → Spelled fs (32 ∷ t) → Spelled (f ∷ fs) (s ++ (32 ∷ t))
