-- "A word is its place from 0 in the list": the words of the format, list by list, and words that stand alone.
use Rattle.std.specs.Prelude.{ℕ, zero, suc, ◌-◌, List, [], ◌∷◌, Bool, true, false, cond, ◌&&◌, ◌||◌, leb, eqb}
use Rattle.law.specs.Bytes.{ascii}
use Rattle.law.specs.declared.Rules.{Rules}
use Rattle.law.specs.declared.Rules.TheVariants.{Idf3}
use Rattle.law.specs.declared.Words.{Words}
use Rattle.law.specs.declared.Words.TheVariants.{FileTypes, Units, Owners, Faces, Sides, Layers, Plates, Statuses}
use Rattle.law.specs.declared.Texts.{Texts}
use Rattle.law.specs.declared.Texts.TheVariants.{Plain, Reference, Hole}

-- a word is its place from 0; a place that a version does not use holds no bytes
unfoldable pub words_of : Rules → Words → List (List ℕ)
words_of Idf3 FileTypes = ascii "BOARD_FILE" ∷ ascii "PANEL_FILE" ∷ ascii "LIBRARY_FILE" ∷ []
words_of Idf3 Units = ascii "MM" ∷ ascii "THOU" ∷ []
words_of Idf3 Owners = ascii "MCAD" ∷ ascii "ECAD" ∷ ascii "UNOWNED" ∷ []
words_of Idf3 Faces = ascii "TOP" ∷ ascii "BOTTOM" ∷ []
words_of Idf3 Sides = ascii "TOP" ∷ ascii "BOTTOM" ∷ ascii "BOTH" ∷ []
words_of Idf3 Layers = ascii "TOP" ∷ ascii "BOTTOM" ∷ ascii "BOTH" ∷ ascii "INNER" ∷ ascii "ALL" ∷ []
words_of Idf3 Plates = ascii "PTH" ∷ ascii "NPTH" ∷ []
words_of Idf3 Statuses = ascii "PLACED" ∷ ascii "UNPLACED" ∷ ascii "MCAD" ∷ ascii "ECAD" ∷ []

-- the word before a property's name
abbrev pub prop_word : List ℕ
prop_word = ascii "PROP"

-- the reference that only a panel has
abbrev pub board_word : List ℕ
board_word = ascii "BOARD"

-- what a section closes with, before its name
abbrev pub end_word : List ℕ
end_word = ascii "END_"

-- the reference of a part that is no electrical one
abbrev pub no_reference : List ℕ
no_reference = ascii "NOREFDES"

-- the part of a hole that belongs to a panel
abbrev pub panel_word : List ℕ
panel_word = ascii "PANEL"

-- W-203: "NOREFDES and BOARD as references, and NOREFDES, BOARD and PANEL as a hole's part": what a text may name
unfoldable pub named : Texts → List (List ℕ)
named Plain = []
named Reference = no_reference ∷ board_word ∷ []
named Hole = no_reference ∷ board_word ∷ panel_word ∷ []

-- whether two lists hold the same bytes
unfoldable pub same_bytes : List ℕ → List ℕ → Bool
same_bytes [] [] = true
same_bytes [] (b ∷ t) = false
same_bytes (a ∷ s) [] = false
same_bytes (a ∷ s) (b ∷ t) = eqb a b && same_bytes s t

-- whether a list of words holds these bytes
unfoldable pub is_in : List ℕ → List (List ℕ) → Bool
is_in s [] = false
is_in s (w ∷ ws) = same_bytes s w || is_in s ws

-- letters A to Z, and a to z
abbrev pub is_capital : ℕ → Bool
is_capital b = leb 65 b && leb b 90

abbrev pub is_small : ℕ → Bool
is_small b = leb 97 b && leb b 122

-- a letter in capitals, any other byte as it stands; and bytes so
abbrev pub capital : ℕ → ℕ
capital b = cond (is_small b) (b - 32) b

unfoldable pub folded : List ℕ → List ℕ
folded [] = []
folded (b ∷ s) = capital b ∷ folded s

-- the word at a place; past the list there is none
unfoldable pub word_at : List (List ℕ) → ℕ → List ℕ
word_at [] n = []
word_at (w ∷ ws) zero = w
word_at (w ∷ ws) (suc n) = word_at ws n
