-- "A call writes start and length (quotes left off) of each field of the next line into a lent slice, nothing for a blank or comment line. It
-- refuses with 1, 13 when no line is left, 3, 4, and 2 (count is fields) when the slice is short, in that order, and moves on after 0, 3 and 4
-- only": the line reader, which examines no other rule.
use Rattle.std.specs.Prelude.{ℕ, suc, ◌+◌, ◌*◌, ◌≤◌, ◌<◌, ◌≡◌, List, [], ◌∷◌, true, false, cond, ltb, ℤ, length, drop}
use Rattle.law.specs.Bytes.{permitted, begins, All}
use Rattle.law.specs.Lines.{File, place_behind}
use Rattle.law.specs.Fields.{Field, Spelled}
use Rattle.law.specs.Answers.{limit, reply, over}
use Rattle.law.specs.declared.Reply.{Reply}
use Rattle.law.specs.FieldPlaces.{Spot, SpelledAt, numbers_of}

-- the fields of a line that begins at b: a comment has none; any other is of permitted bytes and is spelled by its fields
pub data Handed (b : ℕ) (line : List ℕ) : List Spot → Type 0 where
  comment : begins 35 line ≡ true → Handed b line []
  fields : {ps : List Spot} → begins 35 line ≡ false → All permitted line → SpelledAt b ps line → Handed b line ps

-- the number behind a line's; the largest of 64 bits stays, and no line has it
abbrev pub number_behind : ℕ → ℕ
number_behind n = cond (ltb n 18_446_744_073_709_551_615) (n + 1) n

-- a call of a reader that stands at a place, where the line has the number n, with a slice that held `old`: its reply, the place and the
-- line number after it, and what the slice holds. From the place on, the file is made of the next line and of more
pub data Shown (file : List ℕ) (at n : ℕ) (old : List ℤ) : Reply → ℕ → ℕ → List ℤ → Type 0 where
  too_large : limit < length file → Shown file at n old (reply 1 0 0) at n old
  no_line : length file ≤ limit → File [] (drop at file) → Shown file at n old (reply 13 n 0) at n old
  not_permitted : {line : List ℕ} {more : List (List ℕ)} → length file ≤ limit → File (line ∷ more) (drop at file) → begins 35 line ≡ false
      → (All permitted line → ⊥) → Shown file at n old (reply 3 n 0) (place_behind file at line) (number_behind n) old
  no_fields : {line : List ℕ} {more : List (List ℕ)} → length file ≤ limit → File (line ∷ more) (drop at file) → begins 35 line ≡ false
      → All permitted line → ((fs : List Field) → Spelled fs line → ⊥) → Shown file at n old (reply 4 n 0) (place_behind file at line) (number_behind n) old
  too_short : {line : List ℕ} {more : List (List ℕ)} {ps : List Spot} → length file ≤ limit → File (line ∷ more) (drop at file) → Handed at line ps
      → length old < 2 * length ps → Shown file at n old (reply 2 0 (length ps)) at n old
  whole : {line : List ℕ} {more : List (List ℕ)} {ps : List Spot} → length file ≤ limit → File (line ∷ more) (drop at file) → Handed at line ps
      → 2 * length ps ≤ length old → Shown file at n old (reply 0 0 (length ps)) (place_behind file at line) (number_behind n) (over (numbers_of ps) old)

-- the answers after which it moves on
pub data MovesOn : ℕ → Type 0 where
  after_0 : MovesOn 0
  after_3 : MovesOn 3
  after_4 : MovesOn 4

-- a reader that was opened over a file and called, each time with some slice: how many calls moved it on, and its place and line number then
pub data Called (file : List ℕ) : ℕ → ℕ → ℕ → Type 0 where
  opened : Called file 0 0 1
  moved : {k at n next m : ℕ} {old new : List ℤ} {r : Reply} → Called file k at n → Shown file at n old r next m new → MovesOn r.number
      → Called file (suc k) next m
  stayed : {k at n next m : ℕ} {old new : List ℤ} {r : Reply} → Called file k at n → Shown file at n old r next m new → (MovesOn r.number → ⊥)
      → Called file k next m
