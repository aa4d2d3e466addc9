-- The permitted lists one record at a time: what a record does to a state, and where a list may end.
use Rattle.std.specs.Prelude.{ℕ, suc, List, [], ◌∷◌, Bool, false, cond, ◌&&◌, ◌||◌, eqb, Option, Some as some, None as none, Result, Ok as next, Err as refused}
use Rattle.rows.specs.declared.Point.{Point}
use Rattle.law.specs.Values.{Rec}
use Rattle.law.specs.Words.{same_bytes}
use Rattle.law.specs.Sections.{Shape, header, outline, component, keepout, listing, placements}
use Rattle.law.specs.Kinds.{section_of, role_of}
use Rattle.law.specs.declared.Role.{Role}
use Rattle.law.specs.declared.Role.TheVariants.{Opening as opening, Closing as closing, Title as title, Name as name, Lead as lead, Point as point, Prop as prop, Entry as entry, Part as part, Position as position, Unknown as unknown}
use Rattle.law.specs.Fits.{under, well_formed}
use Rattle.law.specs.declared.Rules.{Rules}
use Rattle.law.specs.declared.refusals.Refusal.{Refusal}
use Rattle.law.specs.declared.refusals.Refusal.TheVariants.{Misplaced, LoopRule, NameAgain}
use Rattle.law.specs.declared.FileType.{FileType}
use Rattle.law.specs.declared.FileType.TheVariants.{Board as board, Panel as panel, Library as library}
use Rattle.law.specs.Records.{shape_of, many_loops, type_in, Named, names_a_component, name_in}
use Rattle.order.specs.Marks.{point_of}
use Rattle.order_loops.specs.Loops.{loop_after, complete}
use Rattle.order.specs.declared.Stage.{Stage}
use Rattle.order.specs.declared.Stage.TheVariants.{Nothing as nothing, Headed as headed}
use Rattle.order_loops.specs.declared.LoopState.{LoopState}
use Rattle.order_loops.specs.declared.LoopState.TheVariants.{NoPoint as no_point}
use Rattle.order.specs.declared.Phase.{Phase}
use Rattle.order.specs.declared.Phase.TheVariants.{AwaitTitle as await_title, AwaitName as await_name, HeaderFull as header_full, AwaitLead as await_lead, InPoints as in_points, InProps as in_props, InList as in_list, AwaitPart as await_part, AwaitPosition as await_position}
use Rattle.order.specs.declared.State.{State}
use Rattle.order.specs.declared.State.TheVariants.{Between as between, Inside as inside}
use Rattle.order.specs.declared.Reason.{Reason}
use Rattle.order.specs.declared.Reason.TheVariants.{Misplaced as misplaced, Unfit as unfit, BadLoop as bad_loop, Repeated as repeated}
use Rattle.order.specs.Stages.{may_open, after, may_end, file_of}

-- a reason as a refusal; f is that of the line's fields, where those do not fit
abbrev pub refusal_of : Reason → Refusal → Refusal
refusal_of misplaced f = Misplaced
refusal_of unfit f = f
refusal_of bad_loop f = LoopRule
refusal_of repeated f = NameAgain

-- the number of a refusal; n is that of the line's fields, where those do not fit
abbrev pub refusal_number : Reason → ℕ → ℕ
refusal_number misplaced n = 5
refusal_number unfit n = n
refusal_number bad_loop n = 11
refusal_number repeated n = 12

-- no section behind us, and none open
abbrev pub start : State
start = between nothing

-- what a section begins with after its opening line
abbrev pub start_of : Shape → Phase
start_of header = await_title
start_of outline = await_lead
start_of component = await_lead
start_of keepout = in_points no_point
start_of listing = in_list
start_of placements = await_part

-- two roles are the same
abbrev pub role_number : Role → ℕ
role_number opening = 0
role_number title = 1
role_number name = 2
role_number lead = 3
role_number point = 4
role_number prop = 5
role_number entry = 6
role_number part = 7
role_number position = 8
role_number closing = 9
role_number unknown = 10

abbrev pub is_role : Role → Role → Bool
is_role a b = eqb (role_number a) (role_number b)

-- what x is, if the record has the role that it is looked at for and is well formed; otherwise y
abbrev pub if_fit : Bool → Bool → Result State Reason → Result State Reason → Result State Reason
if_fit has_role fit x y = cond has_role (cond fit x (refused unfit)) y

-- after the title line comes, not in a library, the line with name and unit
abbrev pub after_title : FileType → Phase
after_title board = await_name board
after_title panel = await_name panel
after_title library = header_full library

-- a point that breaks the loop rule is refused
abbrev pub after_point : Stage → ℕ → Option LoopState → Result State Reason
after_point g s none = refused bad_loop
after_point g s (some l) = next (inside g s (in_points l))

-- a closing or PROP line before the loop is complete breaks the loop rule
abbrev pub only_if : Bool → Result State Reason → Result State Reason
only_if done x = cond done x (refused bad_loop)

-- in section s, by the role of the record in that section
abbrev pub at_phase : Stage → ℕ → Phase → Role → Bool → Rec → Result State Reason
at_phase g s await_title role fit r = if_fit (is_role role title) fit (next (inside g s (after_title (type_in r)))) (refused misplaced)
at_phase g s (await_name t) role fit r = if_fit (is_role role name) fit (next (inside g s (header_full t))) (refused misplaced)
at_phase g s (header_full t) role fit r = if_fit (is_role role closing) fit (next (between (headed t))) (refused misplaced)
at_phase g s await_lead role fit r = if_fit (is_role role lead) fit (next (inside g s (in_points no_point))) (refused misplaced)
at_phase g s (in_points l) role fit r =
    if_fit (is_role role point) fit (after_point g s (loop_after (many_loops s) l (point_of r)))
    (if_fit (is_role role prop) fit (only_if (complete l) (next (inside g s in_props)))
    (if_fit (is_role role closing) fit (only_if (complete l) (next (between (after g s)))) (refused misplaced)))
at_phase g s in_props role fit r =
    if_fit (is_role role prop) fit (next (inside g s in_props))
    (if_fit (is_role role closing) fit (next (between (after g s))) (refused misplaced))
at_phase g s in_list role fit r =
    if_fit (is_role role entry) fit (next (inside g s in_list))
    (if_fit (is_role role closing) fit (next (between (after g s))) (refused misplaced))
at_phase g s await_part role fit r =
    if_fit (is_role role part) fit (next (inside g s await_position))
    (if_fit (is_role role closing) fit (next (between (after g s))) (refused misplaced))
at_phase g s await_position role fit r = if_fit (is_role role position) fit (next (inside g s await_part)) (refused misplaced)

-- what a record does to a state, names of components aside
unfoldable pub advance : Rules → State → Rec → Result State Reason
advance v (between g) r =
    let s = section_of v r.kind in
    if_fit (is_role (role_of v r.kind) opening && may_open v g s) (well_formed (under v (file_of g)) r) (next (inside g s (start_of (shape_of v s)))) (refused misplaced)
advance v (inside g s p) r = cond (eqb (section_of v r.kind) s) (at_phase g s p (role_of v r.kind) (well_formed (under v (file_of g)) r) r) (refused misplaced)

-- a list may end here
abbrev pub accepting : State → Bool
accepting (between g) = may_end g
accepting (inside g s p) = false

-- the file's type in a state
abbrev pub type_at : State → FileType
type_at (between g) = file_of g
type_at (inside g s p) = file_of g

-- may a line of this role stand in this phase of its section
abbrev pub stands_in : Phase → Role → Bool
stands_in await_title role = is_role role title
stands_in (await_name t) role = is_role role name
stands_in (header_full t) role = is_role role closing
stands_in await_lead role = is_role role lead
stands_in (in_points l) role = is_role role point || is_role role prop || is_role role closing
stands_in in_props role = is_role role prop || is_role role closing
stands_in in_list role = is_role role entry || is_role role closing
stands_in await_part role = is_role role part || is_role role closing
stands_in await_position role = is_role role position

-- may a line of kind k stand in this state
unfoldable pub may_stand : Rules → State → ℕ → Bool
may_stand v (between g) k = is_role (role_of v k) opening && may_open v g (section_of v k)
may_stand v (inside g s p) k = eqb (section_of v k) s && stands_in p (role_of v k)

-- on in the section; otherwise its closing line leads out of it
abbrev pub on_or_out : Stage → ℕ → Bool → Phase → State
on_or_out g s stays p = cond stays (inside g s p) (between (after g s))

-- what a point, PROP or closing line does among points
abbrev pub among_points : Stage → ℕ → LoopState → Role → Point → Result State Reason
among_points g s l role d = cond (is_role role point) (after_point g s (loop_after (many_loops s) l d)) (only_if (complete l) (next (on_or_out g s (is_role role prop) in_props)))

-- what a line that may stand in a phase does there, by its role, the type in it and the point in it
abbrev pub moved_in : Stage → ℕ → Phase → Role → FileType → Point → Result State Reason
moved_in g s await_title role t d = next (inside g s (after_title t))
moved_in g s (await_name u) role t d = next (inside g s (header_full u))
moved_in g s (header_full u) role t d = next (between (headed u))
moved_in g s await_lead role t d = next (inside g s (in_points no_point))
moved_in g s (in_points l) role t d = among_points g s l role d
moved_in g s in_props role t d = next (on_or_out g s (is_role role prop) in_props)
moved_in g s in_list role t d = next (on_or_out g s (is_role role entry) in_list)
moved_in g s await_part role t d = next (on_or_out g s (is_role role part) await_position)
moved_in g s await_position role t d = next (inside g s await_part)

-- what a well-formed record of kind k that may stand does: the next state, or a broken loop rule
unfoldable pub moved : Rules → State → ℕ → FileType → Point → Result State Reason
moved v (between g) k t d = next (inside g (section_of v k) (start_of (shape_of v (section_of v k))))
moved v (inside g s p) k t d = moved_in g s p (role_of v k) t d

-- a line of kind k with values that fit: the next state, or a refusal
unfoldable pub stepped : Rules → State → ℕ → FileType → Point → Result State Reason
stepped v st k t d = cond (may_stand v st k) (moved v st k t d) (refused misplaced)

-- not refused, and a test passes of the next state
abbrev pub accepted : Result State Reason → (State → Bool) → Bool
accepted (next t) f = f t
accepted (refused e) f = false

-- a list carries a state to one where it may end, names of components aside
abbrev pub accepts : Rules → State → List Rec → Bool
accepts v st [] = accepting st
accepts v st (r ∷ rs) = accepted (advance v st r) (λ t. accepts v t rs)

-- two components share both geometry and part
abbrev pub same_name : Named → Named → Bool
same_name a b = same_bytes a.geometry b.geometry && same_bytes a.number b.number

-- with one of these
abbrev pub is_among : Named → List Named → Bool
is_among a [] = false
is_among a (b ∷ bs) = same_name a b || is_among a bs

-- the record names a component as one before it did
abbrev pub repeats : Rules → List Named → Rec → Bool
repeats v used r = names_a_component v r.kind && is_among (name_in r) used

-- the names used, the record's too
abbrev pub noted : Rules → List Named → Rec → List Named
noted v used r = cond (names_a_component v r.kind) (name_in r ∷ used) used

-- a used name is refused, after every other refusal
abbrev pub unless : Bool → Result State Reason → Result State Reason
unless again (next t) = cond again (refused repeated) (next t)
unless again (refused e) = refused e

-- what a record does after records with these names
abbrev pub admit : Rules → List Named → State → Rec → Result State Reason
admit v used st r = unless (repeats v used r) (advance v st r)

-- how far a list carries a state: through; or up to a record, counted from 0, that is refused
pub data Ran : Type 0 where
  through : State → Ran
  stopped : ℕ → Reason → Ran

-- the same one record later
abbrev pub later : Ran → Ran
later (through t) = through t
later (stopped k e) = stopped (suc k) e

-- what a record does, and then the rest
abbrev pub onward : Result State Reason → (State → Ran) → Ran
onward (next t) f = later (f t)
onward (refused e) f = stopped 0 e

-- a list of records, with the names of components
abbrev pub run : Rules → List Named → State → List Rec → Ran
run v used st [] = through st
run v used st (r ∷ rs) = onward (admit v used st r) (λ t. run v (noted v used r) t rs)
