-- The tables of layouts as the code has them: a letter for each field type, a row of letters for each layout.
use Rattle.std.specs.Prelude.{ℕ, zero, suc, ◌+◌, ◌-◌, ◌/◌, ◌%◌, List, [], ◌∷◌, Bool, true, false, cond, leb, ltb, eqb, length, get_or}
use Rattle.std.proofs.Math.Option.{Option, none, some}
use Rattle.law.specs.Kinds.{last_kind}
use Rattle.law.specs.Bytes.{ascii}
use Rattle.law.specs.Layouts.{Layout, layout_of}
use Rattle.law.specs.declared.Rules.{Rules}
use Rattle.law.specs.declared.Words.{Words}
use Rattle.law.specs.declared.Words.TheVariants.{FileTypes, Units, Owners, Faces, Sides, Layers, Plates, Statuses}
use Rattle.law.specs.declared.Limit.{Limit}
use Rattle.law.specs.declared.Limit.TheVariants.{Length as L, NotBelow as L0, Above as Lp, Included as A, Rotation as R, Version as Ver}
use Rattle.law.specs.declared.FieldType.{FieldType}
use Rattle.law.specs.declared.Texts.TheVariants.{Plain, Reference, Hole}
use Rattle.law.specs.declared.FieldType.TheVariants.{Text as T, Date as D, Integer as I, Number as N, Word as W}

-- how many columns of a row a field fills: a text or a date has its start and its length
abbrev pub width_of : FieldType → ℕ
width_of (T k) = 2
width_of D = 2
width_of I = 1
width_of (N l) = 1
width_of (W l) = 1

unfoldable pub widths : List FieldType → ℕ
widths [] = 0
widths (t ∷ ts) = width_of t + widths ts

abbrev pub known_by : Option Layout → Bool
known_by none = false
known_by (some l) = true

-- a kind that some section has
unfoldable pub is_kind : Rules → ℕ → Bool
is_kind v k = known_by (layout_of v k)

-- the type of field i
abbrev pub type_at : List FieldType → ℕ → FieldType
type_at ts i = get_or ts i (T Plain)

-- letters

abbrev pub limit_letter : Limit → ℕ
limit_letter L = 97
limit_letter L0 = 98
limit_letter Lp = 99
limit_letter A = 100
limit_letter R = 101
limit_letter Ver = 102

abbrev pub words_letter : Words → ℕ
words_letter FileTypes = 103
words_letter Units = 104
words_letter Owners = 105
words_letter Faces = 106
words_letter Sides = 107
words_letter Layers = 108
words_letter Plates = 109
words_letter Statuses = 110

-- the letter of a type
abbrev pub letter_of : FieldType → ℕ
letter_of (T Plain) = 84
letter_of (T Reference) = 82
letter_of (T Hole) = 72
letter_of D = 68
letter_of I = 73
letter_of (N l) = limit_letter l
letter_of (W l) = words_letter l

-- a limit and a list of words by their places
abbrev pub limit_at : ℕ → Limit
limit_at n = cond (eqb n 0) L (cond (eqb n 1) L0 (cond (eqb n 2) Lp (cond (eqb n 3) A (cond (eqb n 4) R Ver))))

abbrev pub words_at : ℕ → Words
words_at n =
    cond (eqb n 0) FileTypes
    (cond (eqb n 1) Units
    (cond (eqb n 2) Owners
    (cond (eqb n 3) Faces
    (cond (eqb n 4) Sides
    (cond (eqb n 5) Layers
    (cond (eqb n 6) Plates
    Statuses))))))

abbrev pub plain_named : ℕ → FieldType
plain_named b = cond (eqb b 82) (T Reference) (cond (eqb b 72) (T Hole) (cond (eqb b 68) D (cond (eqb b 73) I (T Plain))))

-- the type of a letter
unfoldable pub type_named : ℕ → FieldType
type_named b = cond (ltb b 97) (plain_named b) (cond (ltb b 103) (N (limit_at (b - 97))) (W (words_at (b - 103))))

-- the letters of a layout's types, padded to seven
abbrev pub letters : ℕ → List FieldType → List ℕ
letters zero ts = []
letters (suc n) [] = 32 ∷ letters n []
letters (suc n) (t ∷ ts) = letter_of t ∷ letters n ts

-- a layout's row: a digit for the number of its fields, and its letters
unfoldable pub row_for : List FieldType → List ℕ
row_for ts = (48 + length ts) ∷ letters 7 ts

-- tables

unfoldable pub layout_table : List (List ℕ)
layout_table =
    ascii "0       "
    ∷ ascii "0       "
    ∷ ascii "1i      "
    ∷ ascii "5gfTDI  "
    ∷ ascii "2Th     "
    ∷ ascii "1a      "
    ∷ ascii "3Tbj    "
    ∷ ascii "1l      "
    ∷ ascii "2kb     "
    ∷ ascii "2kT     "
    ∷ ascii "7caamHTi"
    ∷ ascii "5aaaaT  "
    ∷ ascii "3TTR    "
    ∷ ascii "6aabejn "
    ∷ ascii "4TTha   "
    ∷ ascii "4Iaad   "
    ∷ ascii "2TT     "
    ∷ []

unfoldable pub line_table : List (List ℕ)
line_table =
    ascii "@@@@@@@@@@"
    ∷ ascii "ACD@@@@@@A"
    ∷ ascii "BEO@@@@@@A"
    ∷ ascii "BEO@@@@@@A"
    ∷ ascii "BFO@@@@@@A"
    ∷ ascii "BGO@@@@@@A"
    ∷ ascii "BHO@@@@@@A"
    ∷ ascii "BGO@@@@@@A"
    ∷ ascii "BO@@@@@@@A"
    ∷ ascii "BHO@@@@@@A"
    ∷ ascii "BIO@@@@@@A"
    ∷ ascii "AJ@@@@@@@A"
    ∷ ascii "AK@@@@@@@A"
    ∷ ascii "ALM@@@@@@A"
    ∷ ascii "ANOP@@@@@A"
    ∷ ascii "ANO@@@@@@A"
    ∷ []

-- the letter of line n of section s
unfoldable pub line_letter : ℕ → ℕ → ℕ
line_letter s n = get_or (get_or line_table s []) n 0

-- the layout of a kind, by its letter: @ of a kind that no section has
unfoldable pub letter_at : Rules → ℕ → ℕ
letter_at v k = cond (leb k last_kind) (get_or (get_or line_table (k / 10) []) (k % 10) 0) 64

-- and its row
unfoldable pub row_of : Rules → ℕ → List ℕ
row_of v k = get_or layout_table (letter_at v k - 64) []
