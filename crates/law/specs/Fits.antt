-- "thickness ≥ 0, diameter > 0, -360 < angle ≤ 360, version equals 3, BOARD as reference occurs only in a panel": which values a field may
-- hold, and so which records are well formed.
use Rattle.std.specs.Prelude.{ℕ, ◌≡◌, List, [], ◌∷◌, Bool, true, false, cond, not, ◌&&◌, leb, ltb, eqb, ℤ, pos, negsuc, nat_abs}
use Rattle.std.proofs.Math.Option.{Option, none, some}
use Rattle.law.specs.Bytes.{permitted, all_of}
use Rattle.law.specs.Limits.{most_decimals, largest_length, largest_angle, largest_integer, in_turn, below}
use Rattle.law.specs.Dates.{is_date}
use Rattle.law.specs.Values.{Value, number, word, text, Rec}
use Rattle.law.specs.Words.{words_of, board_word, named, same_bytes, is_in, folded, word_at}
use Rattle.law.specs.Layouts.{Layout, layout_of}
use Rattle.law.specs.declared.Rules.{Rules}
use Rattle.law.specs.declared.Rules.TheVariants.{Idf3}
use Rattle.law.specs.declared.FileType.{FileType}
use Rattle.law.specs.declared.FileType.TheVariants.{Board, Panel, Library}
use Rattle.law.specs.declared.Context.{Context}
use Rattle.law.specs.declared.Words.{Words}
use Rattle.law.specs.declared.Limit.{Limit}
use Rattle.law.specs.declared.Limit.TheVariants.{Length as L, NotBelow as L0, Above as Lp, Included as A, Rotation as R, Version as Ver}
use Rattle.law.specs.declared.FieldType.{FieldType}
use Rattle.law.specs.declared.Texts.{Texts}
use Rattle.law.specs.declared.Texts.TheVariants.{Plain, Reference, Hole}
use Rattle.law.specs.declared.FieldType.TheVariants.{Text as T, Date as D, Integer as I, Number as N, Word as W}

abbrev pub under : Rules → FileType → Context
under v t = record { rules = v; file = t }

-- numbers

abbrev pub above : ℤ → Bool
above (pos n) = ltb 0 n
above (negsuc n) = false

-- the version's number, as a count
abbrev pub version_of : Rules → ℕ
version_of Idf3 = 300_000

abbrev pub is_version : Rules → ℤ → Bool
is_version v (pos n) = eqb n (version_of v)
is_version v (negsuc n) = false

-- how many decimals of a number are kept; the arguments are for W-202, where a length may be whole
unfoldable pub kept : Context → Limit → ℕ
kept c l = most_decimals

-- the largest magnitude of a number's count: that of a length, or of an angle
abbrev pub largest : Limit → ℕ
largest L = largest_length
largest L0 = largest_length
largest Lp = largest_length
largest A = largest_angle
largest R = largest_angle
largest Ver = largest_length

-- within the limit of its field
unfoldable pub within : Context → Limit → ℤ → Bool
within c L z = true
within c L0 z = not (below z)
within c Lp z = above z
within c A z = in_turn z
within c R z = true
within c Ver z = is_version c.rules z

-- texts

-- bytes that are, in some letter case, what a text may name at its field
unfoldable pub is_name : FieldType → List ℕ → Bool
is_name (T k) s = is_in (folded s) (named k)
is_name D s = false
is_name I s = false
is_name (N l) s = false
is_name (W l) s = false

-- what the bytes of a text mean at its field: a name its capitals, any other text itself
unfoldable pub meaning : FieldType → List ℕ → List ℕ
meaning t s = cond (is_name t s) (folded s) s

abbrev pub is_board : FileType → Bool
is_board Board = true
is_board Panel = false
is_board Library = false

-- BOARD as a reference, in a board
unfoldable pub barred : Context → Texts → List ℕ → Bool
barred c Plain s = false
barred c Reference s = is_board c.file && same_bytes s board_word
barred c Hole s = false

-- bytes of a text: 32 to 126 and 128 to 255, no quote
abbrev pub text_byte : ℕ → Bool
text_byte b = permitted b && not (eqb b 34)

-- a text as it is held is its own meaning
unfoldable pub good_text : FieldType → List ℕ → Bool
good_text t s = all_of text_byte s && same_bytes (meaning t s) s

unfoldable pub is_empty : List ℕ → Bool
is_empty [] = true
is_empty (b ∷ s) = false

-- a place that holds a word
abbrev pub good_word : Rules → Words → ℕ → Bool
good_word v l n = not (is_empty (word_at (words_of v l) n))

-- values and records

unfoldable pub fits : Context → FieldType → Value → Bool
fits c (T k) (text s) = not (barred c k s) && good_text (T k) s
fits c (T k) (number z) = false
fits c (T k) (word n) = false
fits c D (text s) = is_date s
fits c D (number z) = false
fits c D (word n) = false
fits c I (number z) = leb (nat_abs z) largest_integer
fits c I (text s) = false
fits c I (word n) = false
fits c (N l) (number z) = leb (nat_abs z) (largest l) && within c l z
fits c (N l) (text s) = false
fits c (N l) (word n) = false
fits c (W l) (word n) = good_word c.rules l n
fits c (W l) (text s) = false
fits c (W l) (number z) = false

-- one value for each field
unfoldable pub fits_all : Context → List FieldType → List Value → Bool
fits_all c [] [] = true
fits_all c [] (v ∷ vs) = false
fits_all c (t ∷ ts) [] = false
fits_all c (t ∷ ts) (v ∷ vs) = fits c t v && fits_all c ts vs

abbrev pub fits_by : Context → Option Layout → List Value → Bool
fits_by c none vs = false
fits_by c (some l) vs = fits_all c l.types vs

-- a record of a known kind whose values are within their fields' limits
unfoldable pub well_formed : Context → Rec → Bool
well_formed c r = fits_by c (layout_of c.rules r.kind) r.values

abbrev pub WellFormed : Context → Rec → Type 0
WellFormed c r = well_formed c r ≡ true
