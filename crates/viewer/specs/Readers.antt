-- A call at the place where a reader stands.
use Rattle.std.specs.Prelude.{ℕ, List, ℤ}
use Rattle.viewer.specs.declared.Reader.{Reader}
use Rattle.viewer.specs.declared.Step.{Step}
use Rattle.viewer.specs.Views.{step_of, places_after}

-- what the call answers; `room` is the slice's length
abbrev pub step_here : Reader → ℕ → Step
step_here r room = step_of r.file.now r.at r.line room

-- what it leaves in the slice
abbrev pub places_here : Reader → List ℤ → List ℤ
places_here r old = places_after r.file.now r.at r.line old

-- the reader after it: over the same file
abbrev pub moved_by : Reader → Step → Reader
moved_by r s = record { file = r.file; at = s.at; line = s.line }
