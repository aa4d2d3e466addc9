-- What the line reader answers at a place of a file, where it stands after it, and what it leaves in the lent slice.
use Rattle.std.specs.Prelude.{ℕ, zero, suc, ◌+◌, ◌*◌, List, [], ◌∷◌, Bool, cond, ◌||◌, ltb, eqb, ℤ, pos, length, take, drop, Some, None, Result, Ok, Err}
use Rattle.law.specs.Bytes.{permitted, all_of, begins}
use Rattle.text.specs.Lines.{line_end}
use Rattle.text_fields.specs.FirstField.{FirstField, field_of}
use Rattle.text_fields.specs.Fields.{count_of}
use Rattle.text_fields.specs.declared.BrokenQuoting.{BrokenQuoting as Unclosed}
use Rattle.law.specs.Refusals.{number_of}
use Rattle.law.specs.declared.refusals.Refusal.{Refusal}
use Rattle.law.specs.declared.refusals.Refusal.TheVariants.{ForbiddenByte, BrokenQuoting}
use Rattle.law.specs.declared.Reply.{Reply}
use Rattle.law.specs.Answers.{limit, reply, over}
use Rattle.viewer.specs.declared.Step.{Step}

-- how many bytes of the line at the front of s are looked at: none of a comment
abbrev pub looked_at : List ℕ → ℕ
looked_at s = cond (begins 35 s) 0 (line_end s).content

-- the bytes of the line at a place that are looked at
unfoldable pub line_at : List ℕ → ℕ → List ℕ
line_at file at =
    let s = drop at file in
    take (looked_at s) s

-- where the next line begins
unfoldable pub next_at : List ℕ → ℕ → ℕ
next_at file at = at + (line_end (drop at file)).next

-- a line without a forbidden byte, by its count of fields
abbrev pub seen_by : Result ℕ Unclosed → Result ℕ Refusal
seen_by (Ok n) = Ok n
seen_by (Err e) = Err BrokenQuoting

-- a line: 3 for a forbidden byte, then 4 for broken quoting, else its number of fields
unfoldable pub seen_of : List ℕ → Result ℕ Refusal
seen_of s = cond (all_of permitted s) (seen_by (count_of s)) (Err ForbiddenByte)

-- start and length of each field of what is left of a line from a place b of the file on, from what its first field is
abbrev pub places_by : FirstField → ℕ → (ℕ → List ℤ) → List ℤ
places_by (Ok None) b later = []
places_by (Ok (Some f)) b later = pos (b + f.start) ∷ pos f.len ∷ later f.next
places_by (Err e) b later = []

-- the same, where there are fewer than `fuel` fields
unfoldable pub places_in : ℕ → ℕ → List ℕ → List ℤ
places_in zero b s = []
places_in (suc fuel) b s = places_by (field_of s) b (λ m. places_in fuel (b + m) (drop m s))

-- start and length of each field of a line that starts at b in the file
unfoldable pub places_of : ℕ → List ℕ → List ℤ
places_of b s = places_in (suc (length s)) b s

-- 2 where the slice holds fewer than two numbers for each field; `room` is its length, l the line's number
abbrev pub seen_reply : Result ℕ Refusal → ℕ → ℕ → Reply
seen_reply (Err e) l room = reply (number_of e) l 0
seen_reply (Ok n) l room = cond (ltb room (2 * n)) (reply 2 0 n) (reply 0 0 n)

-- the reply to a line whose number is l
unfoldable pub line_reply : List ℕ → ℕ → ℕ → Reply
line_reply s l room = seen_reply (seen_of s) l room

-- 1, then 13 where no line is left, then what the line gives
unfoldable pub reply_at : List ℕ → ℕ → ℕ → ℕ → Reply
reply_at file at l room = cond (ltb limit (length file)) (reply 1 0 0) (cond (ltb at (length file)) (line_reply (line_at file at) l room) (reply 13 l 0))

-- it moves on after 0, 3 and 4 only
abbrev pub moves_on : ℕ → Bool
moves_on n = eqb n 0 || eqb n 3 || eqb n 4

-- the number of the next line; the largest u64 stays, and no line has it
abbrev pub line_after : ℕ → ℕ
line_after l = cond (ltb l 18_446_744_073_709_551_615) (l + 1) l

-- a reply at a place, and the place after it
unfoldable pub step_by : Reply → ℕ → ℕ → ℕ → Step
step_by r at l next = cond (moves_on r.number) (record { reply = r; at = next; line = line_after l }) (record { reply = r; at = at; line = l })

-- a call at a place, where the line has the number l
unfoldable pub step_of : List ℕ → ℕ → ℕ → ℕ → Step
step_of file at l room = step_by (reply_at file at l room) at l (next_at file at)

-- the fields' numbers in front of what was there; on every refusal what was there
abbrev pub places_behind : Reply → List ℤ → List ℤ → List ℤ
places_behind r xs old = cond (eqb r.number 0) (over xs old) old

-- the slice after a line that starts at b in the file
unfoldable pub line_places : List ℕ → ℕ → ℕ → List ℤ → List ℤ
line_places s b l old = places_behind (line_reply s l (length old)) (places_of b s) old

-- the slice after a call at a place
unfoldable pub places_after : List ℕ → ℕ → ℕ → List ℤ → List ℤ
places_after file at l old = places_behind (reply_at file at l (length old)) (places_of at (line_at file at)) old
