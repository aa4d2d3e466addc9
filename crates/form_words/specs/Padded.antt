-- The tables of keywords and words as the code has them: rows padded with spaces; and rows compared with bytes.
use Rattle.std.specs.Prelude.{ℕ, suc, ◌+◌, ◌-◌, List, [], ◌∷◌, Bool, true, false, cond, not, ◌&&◌, ◌||◌, leb, ltb, eqb, length, get_or, take, drop, Option, Some, None}
use Rattle.std.proofs.Math.Option.{Option as Place, none, some}
use Rattle.law.specs.Bytes.{ascii}
use Rattle.form.specs.declared.Keyword.{Keyword}
use Rattle.form.specs.declared.Keyword.TheVariants.{Closing, Unknown}
use Rattle.law.specs.declared.Rules.{Rules}
use Rattle.law.specs.declared.Rules.TheVariants.{Idf3}
use Rattle.law.specs.declared.Words.{Words}
use Rattle.law.specs.declared.Words.TheVariants.{FileTypes, Units, Owners, Faces, Sides, Layers, Plates, Statuses}
use Rattle.law.specs.Words.{capital}

-- what stands before a row's padding
unfoldable pub trimmed : List ℕ → List ℕ
trimmed [] = []
trimmed (b ∷ s) = cond (eqb b 32) [] (b ∷ trimmed s)

-- a byte of a row before its padding, and one that is in capitals the same
abbrev pub agree : ℕ × ℕ → Bool
agree p = not (eqb p.0 32) && eqb p.0 (capital p.1)

-- do a row and bytes agree at a place, or do the bytes end before it?
unfoldable pub agrees_at : List ℕ → List ℕ → ℕ → Bool
agrees_at row s at = leb (length s) at || eqb (get_or row at 0) (capital (get_or s at 0))

-- bytes that are in capitals those of a padded row
unfoldable pub matched : List ℕ → List ℕ → Bool
matched [] [] = true
matched [] (b ∷ s) = false
matched (r ∷ row) [] = eqb r 32
matched (r ∷ row) (b ∷ s) = not (eqb r 32) && (eqb r (capital b) && matched row s)

-- a place as the code answers it
abbrev pub found : Place ℕ → Option ℕ
found none = None
found (some n) = Some n

-- section names, then their closing forms
unfoldable pub keyword_table : List (List ℕ)
keyword_table =
    ascii "HEADER              "
    ∷ ascii "BOARD_OUTLINE       "
    ∷ ascii "PANEL_OUTLINE       "
    ∷ ascii "OTHER_OUTLINE       "
    ∷ ascii "ROUTE_OUTLINE       "
    ∷ ascii "PLACE_OUTLINE       "
    ∷ ascii "ROUTE_KEEPOUT       "
    ∷ ascii "VIA_KEEPOUT         "
    ∷ ascii "PLACE_KEEPOUT       "
    ∷ ascii "PLACE_REGION        "
    ∷ ascii "DRILLED_HOLES       "
    ∷ ascii "NOTES               "
    ∷ ascii "PLACEMENT           "
    ∷ ascii "ELECTRICAL          "
    ∷ ascii "MECHANICAL          "
    ∷ ascii "END_HEADER          "
    ∷ ascii "END_BOARD_OUTLINE   "
    ∷ ascii "END_PANEL_OUTLINE   "
    ∷ ascii "END_OTHER_OUTLINE   "
    ∷ ascii "END_ROUTE_OUTLINE   "
    ∷ ascii "END_PLACE_OUTLINE   "
    ∷ ascii "END_ROUTE_KEEPOUT   "
    ∷ ascii "END_VIA_KEEPOUT     "
    ∷ ascii "END_PLACE_KEEPOUT   "
    ∷ ascii "END_PLACE_REGION    "
    ∷ ascii "END_DRILLED_HOLES   "
    ∷ ascii "END_NOTES           "
    ∷ ascii "END_PLACEMENT       "
    ∷ ascii "END_ELECTRICAL      "
    ∷ ascii "END_MECHANICAL      "
    ∷ []

-- words, list after list
unfoldable pub word_table : List (List ℕ)
word_table =
    ascii "BOARD_FILE      "
    ∷ ascii "PANEL_FILE      "
    ∷ ascii "LIBRARY_FILE    "
    ∷ ascii "MM              "
    ∷ ascii "THOU            "
    ∷ ascii "MCAD            "
    ∷ ascii "ECAD            "
    ∷ ascii "UNOWNED         "
    ∷ ascii "TOP             "
    ∷ ascii "BOTTOM          "
    ∷ ascii "TOP             "
    ∷ ascii "BOTTOM          "
    ∷ ascii "BOTH            "
    ∷ ascii "TOP             "
    ∷ ascii "BOTTOM          "
    ∷ ascii "BOTH            "
    ∷ ascii "INNER           "
    ∷ ascii "ALL             "
    ∷ ascii "PTH             "
    ∷ ascii "NPTH            "
    ∷ ascii "PLACED          "
    ∷ ascii "UNPLACED        "
    ∷ ascii "MCAD            "
    ∷ ascii "ECAD            "
    ∷ []

-- the number from n on of the first row that matches
unfoldable pub sought : ℕ → List (List ℕ) → List ℕ → Option ℕ
sought n [] s = None
sought n (r ∷ rows) s = cond (matched r s) (Some n) (sought (suc n) rows s)

-- the rows of a list of words
abbrev pub rows_of : Rules → Words → List (List ℕ)
rows_of Idf3 FileTypes = take 3 (drop 0 word_table)
rows_of Idf3 Units = take 2 (drop 3 word_table)
rows_of Idf3 Owners = take 3 (drop 5 word_table)
rows_of Idf3 Faces = take 2 (drop 8 word_table)
rows_of Idf3 Sides = take 3 (drop 10 word_table)
rows_of Idf3 Layers = take 5 (drop 13 word_table)
rows_of Idf3 Plates = take 2 (drop 18 word_table)
rows_of Idf3 Statuses = take 4 (drop 20 word_table)

-- a row that holds no word, and one that holds no keyword
unfoldable pub no_word : List ℕ
no_word = ascii "                "

unfoldable pub no_keyword : List ℕ
no_keyword = ascii "                    "

-- the row of a word by its place
unfoldable pub word_row : Rules → Words → ℕ → List ℕ
word_row v l n = get_or (rows_of v l) n no_word

-- the row of section s among those from an index on; of its name, and of its closing form
unfoldable pub keyword_row : ℕ → ℕ → List ℕ
keyword_row first s = cond (eqb s 0 || ltb 15 s) no_keyword (get_or keyword_table (first + s - 1) [])

abbrev pub name_row : ℕ → List ℕ
name_row s = keyword_row 0 s

abbrev pub closing_row : ℕ → List ℕ
closing_row s = keyword_row 15 s

abbrev pub closing_by : Option ℕ → Keyword
closing_by (Some n) = Closing (n + 1)
closing_by None = Unknown

-- what a keyword without its period does where it does not open a section
abbrev pub closing_of : List ℕ → Keyword
closing_of s = closing_by (sought 0 (take 15 (drop 15 keyword_table)) s)
