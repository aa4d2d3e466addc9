-- A walk over the lines of a file, and what it finds.
use Rattle.std.specs.Prelude.{ℕ, zero, suc, ◌+◌, ◌-◌, ◌≤◌, List, Bool, true, false, cond, ltb, ℤ, length, take, drop}
use Rattle.text.specs.Lines.{line_end}
use Rattle.law.specs.declared.Rules.TheVariants.{Idf3}
use Rattle.law.specs.Refusals.{number_of}
use Rattle.order.specs.Places.{section_in}
use Rattle.law.specs.Answers.{limit}
use Rattle.order.specs.Automaton.{start}
use Rattle.walk.specs.declared.Found.{Found}
use Rattle.walk.specs.declared.Found.TheVariants.{Row, Nothing, Refused}
use Rattle.walk.specs.declared.JudgedLine.{JudgedLine}
use Rattle.walk.specs.declared.Walk.{Walk}
use Rattle.walk.specs.declared.Turn.{Turn}
use Rattle.walk.specs.Judging.{judged}

-- before the first line
abbrev pub begun : Walk
begun = record { at = 0; line = 1; state = start }

-- the line that begins at the walk's place, on the file from there on
unfoldable pub line_in : List ℕ → Walk → JudgedLine
line_in file w =
    let s = drop w.at file in
    judged Idf3 w.state w.at (take (line_end s).content s)

-- a step whose line, of this number, was judged so; the next one begins at a place
abbrev pub turned : JudgedLine → ℕ → ℕ → Turn
turned j at line = record { found = j.found; row = j.row; line = line; walk = record { at = at; line = line + 1; state = j.state } }

-- one step
unfoldable pub turn_of : List ℕ → Walk → Turn
turn_of file w = turned (line_in file w) (w.at + (line_end (drop w.at file)).next) w.line

-- what a step can be taken from: a place in a file that is not too large, with a section that there is
pub record Steady (file : List ℕ) (w : Walk) : Type 0 where
  pub small : length file ≤ limit
  pub within : w.at ≤ length file
  pub lines : w.line ≤ w.at + 1
  pub section : section_in w.state ≤ 15

abbrev pub stops_by : Found → Bool
stops_by Row = false
stops_by Nothing = false
stops_by (Refused e) = true

abbrev pub is_row : Found → Bool
is_row Row = true
is_row Nothing = false
is_row (Refused e) = false

-- what the lines of a file turn out to be, each with its number: no line is left; a refusal's number; a comment or blank; a row
pub data Trace : Type 0 where
  done : Walk → Trace
  stop : ℕ → ℕ → Trace
  skip : ℕ → Trace → Trace
  row : ℕ → List ℤ → Trace → Trace

abbrev pub trace_by : Found → ℕ → List ℤ → Trace → Trace
trace_by Row l r t = row l r t
trace_by Nothing l r t = skip l t
trace_by (Refused e) l r t = stop (number_of e) l

-- a walk of at most `fuel` lines
unfoldable pub trace_in : ℕ → List ℕ → Walk → Trace
trace_in zero file w = done w
trace_in (suc fuel) file w =
    cond (ltb w.at (length file))
    (let t = turn_of file w in trace_by t.found w.line t.row (trace_in fuel file t.walk))
    (done w)

-- from a walk on: there are no more lines than bytes
unfoldable pub trace_at : List ℕ → Walk → Trace
trace_at file w = trace_in (length file - w.at) file w

-- of the whole file
abbrev pub trace_of : List ℕ → Trace
trace_of file = trace_at file begun
