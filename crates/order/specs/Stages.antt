-- The sections behind a list of records: which may open next, and where a list may end.
use Rattle.std.specs.Prelude.{ℕ, Bool, true, false, cond, not, ◌&&◌, ◌||◌, eqb}
use Rattle.law.specs.declared.Rules.{Rules}
use Rattle.law.specs.declared.FileType.{FileType}
use Rattle.law.specs.declared.FileType.TheVariants.{Board as board, Panel as panel, Library as library}
use Rattle.law.specs.Records.{is_middle, is_component}
use Rattle.order.specs.declared.Stage.{Stage}
use Rattle.order.specs.declared.Stage.TheVariants.{Nothing as nothing, Headed as headed, Middle as middle, Finished as finished}

-- may section s open: the header first, then the outline of the file's type or a library's components, then any of 4 to 12, then PLACEMENT
unfoldable pub may_open : Rules → Stage → ℕ → Bool
may_open v nothing s = eqb s 1
may_open v (headed board) s = eqb s 2
may_open v (headed panel) s = eqb s 3
may_open v (headed library) s = is_component s
may_open v (middle t h n) s = eqb s 13 || is_middle v s && not (h && eqb s 11) && not (n && eqb s 12)
may_open v (finished t) s = false

-- after the outline of a board or panel its holes and notes are still to come; a library goes on as it is
abbrev pub after_headed : FileType → Stage
after_headed board = middle board false false
after_headed panel = middle panel false false
after_headed library = headed library

-- the stage after section s; the header's is known only where it ends
unfoldable pub after : Stage → ℕ → Stage
after nothing s = nothing
after (headed t) s = after_headed t
after (middle t h n) s = cond (eqb s 13) (finished t) (middle t (h || eqb s 11) (n || eqb s 12))
after (finished t) s = finished t

-- a board or a panel ends after PLACEMENT, a library after its header or any component
abbrev pub may_end : Stage → Bool
may_end nothing = false
may_end (headed board) = false
may_end (headed panel) = false
may_end (headed library) = true
may_end (middle t h n) = false
may_end (finished t) = true

-- the file's type by the sections behind us; where none says it no field depends on it
abbrev pub file_of : Stage → FileType
file_of nothing = library
file_of (headed t) = t
file_of (middle t h n) = t
file_of (finished t) = t
