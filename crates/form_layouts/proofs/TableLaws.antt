-- The letters of lines and the rows of letters, as the code looks them up.
use Prim.Native.Nat.{ℕ, ◌-◌, ◌/◌, ◌%◌, ◌≤◌, ◌<◌}
use mathlib.Core.Path.{◌≡◌}
use mathlib.Core.List.{[]}
use borrow.Author.Tests.{le-leb, lt-leb}
use lib.ListN.{get_or}
use Rattle.law.specs.Kinds.{last_kind}
use Rattle.form_layouts.specs.Letters.{line_table, letter_at, layout_table, row_of}
use Rattle.law.specs.declared.Rules.{Rules}
use Rattle.form_layouts.proofs.KindLaws.{letter_low, letter_high}

pub letter_none : (v : Rules) (k : ℕ) → last_kind < k → 64 ≡ letter_at v k
unfolding letter_at
letter_none v k h = rw (lt-leb k last_kind h)

pub letter_there : (v : Rules) (k : ℕ) → k ≤ last_kind → get_or (get_or line_table (k / 10) []) (k % 10) 0 ≡ letter_at v k
unfolding letter_at
letter_there v k h = rw (le-leb k last_kind h)

-- the row of a letter
module _ (v : Rules) (k l : ℕ) (e : l ≡ letter_at v k) where
  pub row_there : get_or layout_table (l - 64) [] ≡ row_of v k
  unfolding row_of
  row_there = rw e

  pub letter_from : 64 ≤ l
  letter_from = rw e (letter_low v k)

  pub letter_to : l ≤ 80
  letter_to = rw e (letter_high v k)
