-- "A line ends at byte 10 or at the end of the file. Nothing after the last byte 10 makes no line. A comment has # in column 1; its other
-- bytes are not examined. Blank (only spaces, or empty) and comment lines" stand for nothing. W-201: "A 13 directly before a 10 belongs to
-- the line's end."
use Rattle.std.specs.Prelude.{ℕ, ◌+◌, ◌≡◌, List, [], ◌∷◌, ◌++◌, Bool, false, cond, not, ◌&&◌, eqb, length, drop}
use Rattle.law.specs.Bytes.{is_space, in_line, ends_in, All}

-- what ends the line l: byte 10, or bytes 13 and 10. No byte 10 alone ends a line whose last byte is 13, for that 13 is of the end
pub data End : List ℕ → List ℕ → Type 0 where
  by_10 : {l : List ℕ} → ends_in 13 l ≡ false → End l (10 ∷ [])
  by_13_10 : {l : List ℕ} → End l (13 ∷ 10 ∷ [])

-- every line is followed by its end; the last may lack it if it has a byte
pub data File : List (List ℕ) → List ℕ → Type 0 where
  none : File [] []
  last : {b : ℕ} {l : List ℕ} → All in_line (b ∷ l) → File ((b ∷ l) ∷ []) (b ∷ l)
  next : {l e : List ℕ} {ls : List (List ℕ)} {s : List ℕ} → All in_line l → End l e → File ls s → File (l ∷ ls) (l ++ (e ++ s))

-- how many bytes end a line, by what stands behind its content: none at the end of the file, two where 13 stands there, else one
unfoldable pub end_bytes : List ℕ → ℕ
end_bytes [] = 0
end_bytes (b ∷ s) = cond (eqb b 13) 2 1

-- the place behind a line that begins at b: behind its end, or the end of the file
abbrev pub place_behind : List ℕ → ℕ → List ℕ → ℕ
place_behind file b line = b + length line + end_bytes (drop (b + length line) file)

-- bytes of a file up to a line, with the end that the line lacks if it is the last
abbrev pub closed : List ℕ → List ℕ
closed s = cond (ends_in 10 s) s (s ++ 10 ∷ [])

-- a free line is spaces or nothing, or # and any bytes
pub data Free : List ℕ → Type 0 where
  blank : {l : List ℕ} → All is_space l → Free l
  comment : {l : List ℕ} → Free (35 ∷ l)

-- "its Windows copy, a 13 put before each 10 that has none"; whether the byte before was 13 comes first
unfoldable pub copied : Bool → List ℕ → List ℕ
copied after [] = []
copied after (b ∷ s) = cond (eqb b 10 && not after) (13 ∷ []) [] ++ (b ∷ copied (eqb b 13) s)

abbrev pub windows : List ℕ → List ℕ
windows s = copied false s
