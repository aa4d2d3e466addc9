-- "Meanings are compared by rows with each text's bytes in place of its start": what a line says without how it was spelled.
use Rattle.std.specs.Prelude.{ℕ, List, ℤ}

-- a number's count, or an integer; a word, as its place from 0 in the list of its field; a text or a date, as its bytes
pub data Value : Type 0 where
  number : ℤ → Value
  word : ℕ → Value
  text : List ℕ → Value

-- a record: the kind of its line, and the values of its fields in their order
pub record Rec : Type 0 where
  pub kind : ℕ
  pub values : List Value
