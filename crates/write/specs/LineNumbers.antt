-- Whether the lines of rows rise.
use Rattle.std.specs.Prelude.{List, [], ◌∷◌, Bool, true, ◌&&◌, ℤ, pos, length}
use Rattle.std.specs.Int.Signed.{lt_z}
use Rattle.law.specs.Rows.{capacity, lines_in}

-- each is above the one before it, the first above m
unfoldable pub rises : ℤ → List ℤ → Bool
rises m [] = true
rises m (n ∷ ns) = lt_z m n && rises n ns

-- of all whole rows of a slice, from 1 or more on
abbrev pub all_rise : List ℤ → Bool
all_rise rows = rises (pos 0) (lines_in (capacity (length rows)) rows)
