-- The lines of a file that are left to an iterator.
use Rattle.std.specs.Prelude.{◌-◌, ◌≤◌, ◌<◌, ◌≡◌, Option, MatchOption, length}
use Rattle.std.specs.Iterator.{Count, at_most}
use Rattle.walk.specs.declared.Turn.{Turn}
use Rattle.walk.specs.declared.steps.Turns.{Turns}
use Rattle.walk.specs.Walks.{turn_of}

-- the next line of what s has left, and behind it what t has left
pub record Took (s : Turns) (x : Turn) (t : Turns) : Type 0 where
  pub more : s.walk.at < length s.file.now
  pub is : x ≡ turn_of s.file.now s.walk
  pub file : t.file.now ≡ s.file.now
  pub walk : t.walk ≡ x.walk

-- no line is left
pub record Over (s t : Turns) : Type 0 where
  pub end : length s.file.now ≤ s.walk.at
  pub file : t.file.now ≡ s.file.now
  pub walk : t.walk ≡ s.walk

abbrev pub GivesTurn : Turns → Option Turn → Turns → Type 0
GivesTurn s r t = MatchOption r (Over s t) (λ x. Took s x t)

-- there are no more lines than bytes
abbrev pub bytes_left : Turns → Count
bytes_left s = at_most (length s.file.now - s.walk.at)
