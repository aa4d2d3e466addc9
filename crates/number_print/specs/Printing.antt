-- Bytes written into a slice.
use Rattle.std.specs.Prelude.{ℕ, zero, suc, ◌+◌, ◌*◌, ◌≡◌, List, length}
use Rattle.std.proofs.lemmas.List.Edits.{sets}

-- o became p as the bytes l were written from `at` on, and r is the place behind them
pub record Wrote (o p : List ℕ) (at r : ℕ) (l : List ℕ) : Type 0 where
  pub is : p ≡ sets o at l
  pub next : r ≡ at + length l

-- numbers of at most k + 1 digits lie below it
abbrev pub top : ℕ → ℕ
top zero = 10
top (suc k) = top k * 10
