-- The first field of a part of a line.
use Rattle.std.specs.Prelude.{ℕ, suc, ◌+◌, List, [], ◌∷◌, Bool, true, false, cond, eqb, drop, Option, Some, None, Result, Ok, Err}
use Rattle.law.specs.Bytes.{is_space, in_bare, in_quotes}
use Rattle.text_fields.specs.declared.Run.{Run}
use Rattle.text_fields.specs.declared.Run.TheVariants.{Spaces, Bare, Quoted}
use Rattle.text_fields.specs.declared.FoundField.{FoundField}
use Rattle.text_fields.specs.declared.BrokenQuoting.{BrokenQuoting}

-- how many bytes in front pass a test
unfoldable pub span : (ℕ → Bool) → List ℕ → ℕ
span p [] = 0
span p (b ∷ s) = cond (p b) (suc (span p s)) 0

-- the bytes of a run
abbrev pub passes_of : Run → ℕ → Bool
passes_of Spaces b = is_space b
passes_of Bare b = in_bare b
passes_of Quoted b = in_quotes b

-- the length of the run at the front
abbrev pub run_len : Run → List ℕ → ℕ
run_len k s = span (passes_of k) s

-- a field may end at the line's end, or before a space
unfoldable pub ends_well : List ℕ → Bool
ends_well [] = true
ends_well (b ∷ s) = is_space b

-- the first field of a part of a line, none, or broken quoting
abbrev pub FirstField : Type 0
FirstField = Result (Option FoundField) BrokenQuoting

-- a field of n bytes at k, before the place m, where it ends well
abbrev pub found_if : Bool → ℕ → ℕ → Bool → ℕ → Result FoundField BrokenQuoting
found_if true k n q m = Ok (record { start = k; len = n; quoted = q; next = m })
found_if false k n q m = Err (record {})

-- a bare field at the front of s, k bytes into the part
unfoldable pub bare_at : ℕ → List ℕ → Result FoundField BrokenQuoting
bare_at k s =
    let n = span in_bare s in
    found_if (ends_well (drop n s)) k n false (k + n)

-- what stands after n bytes that are no quote: the closing quote, and then what a field may end before
unfoldable pub closed_at : ℕ → ℕ → List ℕ → Result FoundField BrokenQuoting
closed_at k n [] = Err (record {})
closed_at k n (q ∷ s) = found_if (ends_well s) k n true (k + n + 1)

-- a quoted field, s being what follows the opening quote, k bytes into the part
unfoldable pub quoted_at : ℕ → List ℕ → Result FoundField BrokenQuoting
quoted_at k s =
    let n = span in_quotes s in
    closed_at k n (drop n s)

-- there is a field, or broken quoting
abbrev pub one_of : Result FoundField BrokenQuoting → FirstField
one_of (Ok f) = Ok (Some f)
one_of (Err e) = Err e

-- a field at the front of s, k bytes into the part
unfoldable pub field_at : ℕ → List ℕ → FirstField
field_at k [] = Ok None
field_at k (b ∷ s) = one_of (cond (eqb b 34) (quoted_at (k + 1) s) (bare_at k (b ∷ s)))

-- the first field, after any spaces
unfoldable pub field_of : List ℕ → FirstField
field_of s =
    let k = span is_space s in
    field_at k (drop k s)
