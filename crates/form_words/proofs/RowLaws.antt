-- The rows of words and of keywords by their places, and the words that they hold.
use Prim.Native.Nat.{ℕ, zero, suc, ◌+◌, ◌-◌, ◌≤◌, ◌<◌}
use mathlib.Core.Path.{◌≡◌, refl, ◌∙◌}
use mathlib.Core.List.{List, [], ◌∷◌, map}
use mathlib.Core.Logic.{◌⊎◌, inl, inr}
use native.Mathlib.Omega.{arith}
use borrow.Author.Tests.{eq-eqb, ne_eqb, lt-ltb, le-ltb}
use lib.ListN.{get_or}
use Rattle.law.specs.Words.{words_of, word_at}
use Rattle.form_words.specs.Padded.{trimmed, keyword_table, rows_of, no_word, no_keyword, word_row, keyword_row}
use Rattle.law.specs.declared.Rules.{Rules}
use Rattle.law.specs.declared.Words.{Words}
use Rattle.form_words.proofs.SeekLaws.{rows_are}

blank_empty : trimmed no_word ≡ []
unfolding trimmed no_word
blank_empty = refl

-- a row of a list, or a blank one, holds the word of its place, or none
row_held : (rows : List (List ℕ)) (n : ℕ) → trimmed (get_or rows n no_word) ≡ word_at (map trimmed rows) n
unfolding word_at
row_held [] n = blank_empty
row_held (r ∷ rows) zero = refl
row_held (r ∷ rows) (suc n) = row_held rows n

pub word_held : (v : Rules) (l : Words) (n : ℕ) → trimmed (word_row v l n) ≡ word_at (words_of v l) n
unfolding word_row
word_held v l n = row_held (rows_of v l) n ∙ rw (rows_are v l)

-- the row of a section among those from an index on
module _ (first s : ℕ) where
  pub keyword_there : 1 ≤ s → s ≤ 15 → get_or keyword_table (first + s - 1) [] ≡ keyword_row first s
  unfolding keyword_row
  keyword_there h k = rw (ne_eqb s 0 (λ e. absurd (omega arith)), le-ltb 15 s k)

  pub keyword_none : (s < 1) ⊎ (15 < s) → no_keyword ≡ keyword_row first s
  unfolding keyword_row
  keyword_none = elim [
    | inl h ↦ rw (eq-eqb s 0 (omega arith))
    | inr h ↦ rw (ne_eqb s 0 (λ e. absurd (omega arith)), lt-ltb 15 s h)
  ]
