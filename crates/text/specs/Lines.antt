-- The lines of a file. `end_len` alone says which bytes end a line.
use Rattle.std.specs.Prelude.{ℕ, zero, suc, ◌+◌, List, [], ◌∷◌, cond, ◌&&◌, ltb, eqb, length, take, drop}
use Rattle.law.specs.Bytes.{begins}
use Rattle.text.specs.declared.LineEnd.{LineEnd}

-- how many bytes at the front of s end a line: byte 10 does, and 13 with a 10 directly behind it
unfoldable pub end_len : List ℕ → ℕ
end_len [] = 0
end_len (b ∷ s) = cond (eqb b 10) 1 (cond (eqb b 13 && begins 10 s) 2 0)

-- the bytes before the first line's end, or before the end of s
unfoldable pub content_len : List ℕ → ℕ
content_len [] = 0
content_len (b ∷ s) = cond (ltb 0 (end_len (b ∷ s))) 0 (suc (content_len s))

-- where the first line's content ends and where the next line begins
unfoldable pub line_end : List ℕ → LineEnd
line_end s =
    let n = content_len s in
    record { content = n; next = n + end_len (drop n s) }

-- the bytes before the first byte 10, or before the end of s
unfoldable pub line_feed : List ℕ → ℕ
line_feed [] = 0
line_feed (b ∷ s) = cond (eqb b 10) 0 (suc (line_feed s))

-- the lines of s, of which there are at most `fuel`
unfoldable pub lines_in : ℕ → List ℕ → List (List ℕ)
lines_in zero s = []
lines_in (suc fuel) [] = []
lines_in (suc fuel) (b ∷ s) = take (line_end (b ∷ s)).content (b ∷ s) ∷ lines_in fuel (drop (line_end (b ∷ s)).next (b ∷ s))

-- the lines of a file: it has no more than bytes, and nothing after the last line's end makes no line
unfoldable pub lines_of : List ℕ → List (List ℕ)
lines_of s = lines_in (length s) s
