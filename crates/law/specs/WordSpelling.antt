-- "Keywords are read without regard to letter case"; W-203: "All bare words are read without regard to letter case, PROP and the file type
-- included."
use Rattle.std.specs.Prelude.{ℕ, zero, suc, ◌+◌, ◌≡◌, List, [], ◌∷◌, true, false}
use Rattle.law.specs.Words.{is_capital, is_small}

-- a name without regard to letter case: each capital letter as it stands or small, any other byte, which is no small letter, as it stands
pub data AnyCase : List ℕ → List ℕ → Type 0 where
  end : AnyCase [] []
  same : {b : ℕ} {k s : List ℕ} → is_small b ≡ false → AnyCase k s → AnyCase (b ∷ k) (b ∷ s)
  small : {b : ℕ} {k s : List ℕ} → is_capital b ≡ true → AnyCase k s → AnyCase (b ∷ k) ((b + 32) ∷ s)

-- a word of a list, in any letter case, spells its place from 0
pub data Listed : List (List ℕ) → ℕ → List ℕ → Type 0 where
  here : {w : List ℕ} {ws : List (List ℕ)} {s : List ℕ} → AnyCase w s → Listed (w ∷ ws) zero s
  there : {w : List ℕ} {ws : List (List ℕ)} {n : ℕ} {s : List ℕ} → Listed ws n s → Listed (w ∷ ws) (suc n) s
