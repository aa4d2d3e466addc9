-- Readings 94 to 96 on small files, computed: the reply, where the reader stands then, and what it leaves in a slice of sevens.
use Prim.Native.Nat.{ℕ}
use mathlib.Core.Path.{◌≡◌, refl}
use mathlib.Core.List.{List, [], ◌∷◌}
use lib.IntN.{ℤ, pos}
use lib.ListN.{replicate}
use Rattle.law.specs.Bytes.{permitted, all_of, begins}
use Rattle.text_fields.specs.FirstField.{span, ends_well, bare_at, closed_at, quoted_at, field_at, field_of}
use Rattle.text_fields.specs.Fields.{fields_in, fields_of, count_of}
use Rattle.text.specs.Lines.{end_len, content_len, line_end}
use Rattle.law.specs.Answers.{reply}
use Rattle.viewer.specs.declared.Step.{Step}
use Rattle.viewer.specs.Views.{line_at, next_at, seen_of, places_in, places_of, line_reply, reply_at, step_by, step_of, places_after}

-- a call at a place, with a slice of so many sevens
abbrev call : List ℕ → ℕ → ℕ → ℕ → Step × List ℤ
call file at l room = (step_of file at l room, places_after file at l (replicate room (pos 7)))

-- number, line and count; the place after the call and its line number; the slice
abbrev gives : ℕ → ℕ → ℕ → ℕ → ℕ → List ℤ → Step × List ℤ
gives number l count at next slice = (record { reply = reply number l count; at = at; line = next }, slice)

-- `# x` and a tab: a comment is handed out as a line without fields
a_comment : call (35 ∷ 32 ∷ 120 ∷ 9 ∷ 10 ∷ []) 0 1 0 ≡ gives 0 0 0 5 2 []
unfolding step_of step_by places_after places_of places_in reply_at line_reply seen_of line_at next_at line_end content_len end_len begins permitted all_of count_of fields_of fields_in field_of field_at bare_at quoted_at closed_at ends_well span
a_comment = refl

-- a tab gives 3, and the reader moves on
a_tab : call (9 ∷ 10 ∷ 97 ∷ 10 ∷ []) 0 1 0 ≡ gives 3 1 0 2 2 []
unfolding step_of step_by places_after places_of places_in reply_at line_reply seen_of line_at next_at line_end content_len end_len begins permitted all_of count_of fields_of fields_in field_of field_at bare_at quoted_at closed_at ends_well span
a_tab = refl

-- a quote alone gives 4, and the reader moves on
a_quote : call (34 ∷ 10 ∷ 97 ∷ 10 ∷ []) 0 2 0 ≡ gives 4 2 0 2 3 []
unfolding step_of step_by places_after places_of places_in reply_at line_reply seen_of line_at next_at line_end content_len end_len begins permitted all_of count_of fields_of fields_in field_of field_at bare_at quoted_at closed_at ends_well span
a_quote = refl

-- two fields need four numbers: 2, and the reader stays
too_short : call (97 ∷ 32 ∷ 98 ∷ 10 ∷ []) 0 4 3 ≡ gives 2 0 2 0 4 (pos 7 ∷ pos 7 ∷ pos 7 ∷ [])
unfolding step_of step_by places_after places_of places_in reply_at line_reply seen_of line_at next_at line_end content_len end_len begins permitted all_of count_of fields_of fields_in field_of field_at bare_at quoted_at closed_at ends_well span
too_short = refl

-- the same line with room for it and one number more, which keeps its value
long_enough : call (97 ∷ 32 ∷ 98 ∷ 10 ∷ []) 0 4 5 ≡ gives 0 0 2 4 5 (pos 0 ∷ pos 1 ∷ pos 2 ∷ pos 1 ∷ pos 7 ∷ [])
unfolding step_of step_by places_after places_of places_in reply_at line_reply seen_of line_at next_at line_end content_len end_len begins permitted all_of count_of fields_of fields_in field_of field_at bare_at quoted_at closed_at ends_well span
long_enough = refl

-- the quotes of an empty text are left off, and the last line needs no byte 10
empty_text : call (34 ∷ 34 ∷ 32 ∷ []) 0 2 4 ≡ gives 0 0 1 3 3 (pos 1 ∷ pos 0 ∷ pos 7 ∷ pos 7 ∷ [])
unfolding step_of step_by places_after places_of places_in reply_at line_reply seen_of line_at next_at line_end content_len end_len begins permitted all_of count_of fields_of fields_in field_of field_at bare_at quoted_at closed_at ends_well span
empty_text = refl

-- no line is left
no_line : call (34 ∷ 34 ∷ 32 ∷ []) 3 3 2 ≡ gives 13 3 0 3 3 (pos 7 ∷ pos 7 ∷ [])
unfolding step_of step_by places_after places_of places_in reply_at line_reply seen_of line_at next_at line_end content_len end_len begins permitted all_of count_of fields_of fields_in field_of field_at bare_at quoted_at closed_at ends_well span
no_line = refl

-- a place past the end is as one at the end
past_the_end : call (34 ∷ 34 ∷ 32 ∷ []) 77 3 2 ≡ gives 13 3 0 77 3 (pos 7 ∷ pos 7 ∷ [])
unfolding step_of step_by places_after places_of places_in reply_at line_reply seen_of line_at next_at line_end content_len end_len begins permitted all_of count_of fields_of fields_in field_of field_at bare_at quoted_at closed_at ends_well span
past_the_end = refl

-- the largest line number stays
largest_line : call (10 ∷ []) 0 18446744073709551615 0 ≡ gives 0 0 0 1 18446744073709551615 []
unfolding step_of step_by places_after places_of places_in reply_at line_reply seen_of line_at next_at line_end content_len end_len begins permitted all_of count_of fields_of fields_in field_of field_at bare_at quoted_at closed_at ends_well span
largest_line = refl
