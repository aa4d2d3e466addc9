-- Marks of names among rows, by which names used twice are found; no answer depends on them.
use Rattle.std.specs.Prelude.{ℕ, ◌<◌, ◌≡◌, List, [], ◌∷◌, Bool, true, false, ◌&&◌, ◌||◌, ℤ, length}
use Rattle.rows_texts.specs.Names.{key_of}
use Rattle.rows.specs.RowKinds.{leads_component}
use Rattle.names_slots.specs.Marks.{may_hold}
use Rattle.write.specs.Writable.{named_in, twice}

-- a row names a doubtful component, one whose hash may have been marked in ds, that a row behind it names again
unfoldable pub again_among : List ℕ → List ℕ → List ℤ → List (List ℤ) → Bool
again_among bytes ds x ys = leads_component x && (may_hold ds (key_of bytes x) && named_in bytes x ys)

-- and some row does
unfoldable pub twice_among : List ℕ → List ℕ → List (List ℤ) → Bool
twice_among bytes ds [] = false
twice_among bytes ds (x ∷ xs) = again_among bytes ds x xs || twice_among bytes ds xs

-- a doubtful name without a mark is named by none of the rows
pub record Told (bytes : List ℕ) (rows : List (List ℤ)) (ds marks : List ℕ) : Type 0 where
  pub few : 0 < length ds
  pub room : 0 < length marks
  pub clear : (x : List ℤ) → may_hold ds (key_of bytes x) ≡ true → may_hold marks (key_of bytes x) ≡ false → named_in bytes x rows ≡ false

-- two rows name one component exactly if two name a doubtful one, and without a doubt none do
pub record Doubted (bytes ds : List ℕ) (rows : List (List ℤ)) (d : Bool) : Type 0 where
  pub among : twice_among bytes ds rows ≡ twice bytes rows
  pub none : d ≡ false → twice bytes rows ≡ false
