-- Texts of files, each by its start and length.
use Rattle.std.specs.Prelude.{ℕ, List, Bool, ℤ, nat_abs, take, drop}
use Rattle.law.specs.Words.{same_bytes}
use Rattle.law.specs.Fits.{meaning}
use Rattle.law.specs.declared.FieldType.{FieldType}

-- the text that starts at a and has l bytes
abbrev pub text_at : List ℕ → ℤ → ℤ → List ℕ
text_at file a l = take (nat_abs l) (drop (nat_abs a) file)

-- a text of a file means these bytes at a field of a type
unfoldable pub text_is : FieldType → List ℕ → ℤ → ℤ → List ℕ → Bool
text_is t file a l word = same_bytes (meaning t (text_at file a l)) word

-- texts of two files mean the same at a field of a type
unfoldable pub same_meanings : FieldType → List ℕ → ℤ → ℤ → List ℕ → ℤ → ℤ → Bool
same_meanings t f a l h b m = same_bytes (meaning t (text_at f a l)) (meaning t (text_at h b m))

-- they have the same bytes
unfoldable pub same_texts : List ℕ → ℤ → ℤ → List ℕ → ℤ → ℤ → Bool
same_texts f a l h b m = same_bytes (text_at f a l) (text_at h b m)
