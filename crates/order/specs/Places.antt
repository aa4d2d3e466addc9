-- The kind of a line by its place: a data line by the phase of its section, a keyword line by its keyword.
use Rattle.std.specs.Prelude.{ℕ, Bool, true, false, cond, ◌&&◌, Option, Some as some, None as none}
use Rattle.law.specs.Sections.{Shape, header, outline, component, keepout, listing, placements}
use Rattle.law.specs.Kinds.{kind_at}
use Rattle.law.specs.declared.Rules.{Rules}
use Rattle.form.specs.declared.Keyword.{Keyword}
use Rattle.form.specs.declared.Keyword.TheVariants.{Opening, Closing, Unknown}
use Rattle.law.specs.Records.{shape_of}
use Rattle.order.specs.declared.Phase.{Phase}
use Rattle.order.specs.declared.Phase.TheVariants.{AwaitTitle as await_title, AwaitName as await_name, HeaderFull as header_full, AwaitLead as await_lead, InPoints as in_points, InProps as in_props, InList as in_list, AwaitPart as await_part, AwaitPosition as await_position}
use Rattle.order.specs.declared.State.{State}
use Rattle.order.specs.declared.State.TheVariants.{Between as between, Inside as inside}

-- the line of a section that holds its points: behind a leading line if there is one
abbrev pub point_line : Shape → ℕ
point_line header = 2
point_line outline = 2
point_line component = 2
point_line keepout = 1
point_line listing = 2
point_line placements = 2

-- PROP lines stand in ELECTRICAL only
abbrev pub has_props : Shape → Bool
has_props header = false
has_props outline = false
has_props component = true
has_props keepout = false
has_props listing = false
has_props placements = false

-- which line of its section a data line is, if one may stand here; saysProp: its first field is the bare word PROP
abbrev pub line_at : Shape → Phase → Bool → Option ℕ
line_at f await_title says_prop = some 1
line_at f (await_name t) says_prop = some 2
line_at f (header_full t) says_prop = none
line_at f await_lead says_prop = some 1
line_at f (in_points l) says_prop = cond (says_prop && has_props f) (some 3) (some (point_line f))
line_at f in_props says_prop = cond (says_prop && has_props f) (some 3) none
line_at f in_list says_prop = some 1
line_at f await_part says_prop = some 1
line_at f await_position says_prop = some 2

-- the section that is open, or 0
abbrev pub section_in : State → ℕ
section_in (between g) = 0
section_in (inside g s p) = s

-- line n of section s, or none
abbrev pub kind_by : Rules → ℕ → Option ℕ → ℕ
kind_by v s none = 0
kind_by v s (some n) = kind_at v s n

-- the kind of a data line in a state; 0 where none may stand
unfoldable pub data_kind : Rules → State → Bool → ℕ
data_kind v (between g) says_prop = 0
data_kind v (inside g s p) says_prop = kind_by v s (line_at (shape_of v s) p says_prop)

-- the section that a keyword names, or 0
abbrev pub key_section : Keyword → ℕ
key_section (Opening s) = s
key_section (Closing s) = s
key_section Unknown = 0

-- the kind of a keyword line; 0 where no section has the keyword
unfoldable pub key_kind : Rules → Keyword → ℕ
key_kind v (Opening s) = kind_at v s 0
key_kind v (Closing s) = kind_at v s 9
key_kind v Unknown = 0
