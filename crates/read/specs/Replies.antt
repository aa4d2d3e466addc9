-- What `check` and `read` answer, and what `read` leaves in the slice.
use Rattle.std.specs.Prelude.{ℕ, ◌+◌, ◌^◌, ◌≤◌, ◌<◌, ◌≡◌, List, [], ◌++◌, true, cond, ltb, eqb, ℤ, pos, length}
use Rattle.std.proofs.Math.Seq.{paste}
use Rattle.law.specs.Rows.{stride, capacity, with_line}
use Rattle.order.specs.Automaton.{accepting, type_at}
use Rattle.walk.specs.declared.Found.{Found}
use Rattle.walk.specs.declared.Found.TheVariants.{Row, Nothing, Refused}
use Rattle.law.specs.Refusals.{number_of}
use Rattle.law.specs.declared.FileType.{FileType}
use Rattle.law.specs.declared.FileType.TheVariants.{Library}
use Rattle.law.specs.declared.Reply.{Reply}
use Rattle.read.specs.declared.Checked.{Checked}
use Rattle.walk.specs.declared.Walk.{Walk}
use Rattle.walk.specs.declared.Turn.{Turn}
use Rattle.law.specs.Answers.{limit, reply, over}
use Rattle.walk.specs.Walks.{is_row, Trace, done, stop, skip, row, trace_of}
use Rattle.names.specs.Names.{repeat_of}

-- with one more line: a row counts
abbrev pub counted_by : Reply → ℕ → Found → Reply
counted_by r l Row = reply 0 0 (r.count + 1)
counted_by r l Nothing = r
counted_by r l (Refused e) = reply (number_of e) l 0

-- at the end of the file: 13 where more lines are needed
unfoldable pub ended_by : Reply → Walk → Reply
ended_by r w = cond (accepting w.state) r (reply 13 w.line 0)

-- lines behind those that gave r
unfoldable pub surveyed : Reply → Trace → Reply
surveyed r (done w) = ended_by r w
surveyed r (stop n l) = reply n l 0
surveyed r (skip l t) = surveyed r t
surveyed r (row l x t) = surveyed (reply 0 0 (r.count + 1)) t

-- a file by all rules but size and names used twice
abbrev pub survey : List ℕ → Reply
survey file = surveyed (reply 0 0 0) (trace_of file)

-- the reply on a file within the limit
abbrev pub within_reply : List ℕ → Reply
within_reply file = cond (eqb (repeat_of file) 0) (survey file) (reply 12 (repeat_of file) 0)

-- 1 first; then the first faulty line, where 12 comes after all other numbers; then 13
unfoldable pub check_reply : List ℕ → Reply
check_reply file = cond (ltb limit (length file)) (reply 1 0 0) (within_reply file)

-- the file's type, as the state behind its last line has it; a library's stands for it where a line is refused
unfoldable pub type_from : Trace → FileType
type_from (done w) = type_at w.state
type_from (stop n l) = Library
type_from (skip l t) = type_from t
type_from (row l x t) = type_from t

abbrev pub type_of : List ℕ → FileType
type_of file = type_from (trace_of file)

-- the reply on a file and its type, within the limit and beyond it
abbrev pub examined_within : List ℕ → Checked
examined_within file = record { reply = within_reply file; file = type_of file }

unfoldable pub examined : List ℕ → Checked
examined file = record { reply = check_reply file; file = cond (ltb limit (length file)) Library (type_of file) }

-- the rows of a file, one after the other, each with the number of its line
unfoldable pub rows_in : Trace → List ℤ
rows_in (done w) = []
rows_in (stop n l) = []
rows_in (skip l t) = rows_in t
rows_in (row l x t) = with_line x (pos l) ++ rows_in t

abbrev pub rows_of : List ℕ → List ℤ
rows_of file = rows_in (trace_of file)

-- 2 last, where the slice holds fewer rows than the file has; `room` is the slice's length
unfoldable pub read_reply : List ℕ → ℕ → Reply
read_reply file room =
    let r = check_reply file in
    cond (eqb r.number 0) (cond (ltb (capacity room) r.count) (reply 2 0 r.count) r) r

-- a slice with the row of line l from a place on, if it has one; the place behind it; the room for it
unfoldable pub placed_at : List ℤ → ℕ → ℕ → Turn → List ℤ
placed_at rows at l t = cond (is_row t.found) (paste rows at (with_line t.row (pos l)) stride) rows

unfoldable pub place_behind : ℕ → Turn → ℕ
place_behind at t = cond (is_row t.found) (at + stride) at

pub record RowRoom (rows : List ℤ) (at l : ℕ) (t : Turn) : Type 0 where
  pub small : l < 2 ^ 63
  pub fits : is_row t.found ≡ true → at + stride ≤ length rows

-- the rows in front of what was there; on every refusal what was there
unfoldable pub read_rows : List ℕ → List ℤ → List ℤ
read_rows file old = cond (eqb (read_reply file (length old)).number 0) (over (rows_of file) old) old
