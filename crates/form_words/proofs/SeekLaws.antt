-- Laws of the rows of a table, sought in their order, and of the words found among them.
use Prim.Native.Nat.{ℕ, suc, ◌+◌, ◌<◌}
use mathlib.Core.Path.{◌≡◌, refl, ap, ◌∙◌}
use mathlib.Core.List.{List, [], ◌∷◌, map}
use mathlib.Core.Option.{Option as Place, none, some}
use mathlib.Core.Bool.{Bool, true, false, cond}
use native.Mathlib.Omega.{arith}
use native.Mathlib.Numerals.{add-one}
use lib.ListN.{length}
use Rattle.std.specs.Prelude.{Option, Some, None}
use Rattle.std.specs.List.{position_from}
use Rattle.std.specs.Option.{MatchOption, IsSomeAnd}
use Rattle.basics.specs.Letters.{cased}
use Rattle.law.specs.Bytes.{ascii}
use Rattle.law.specs.Words.{words_of, prop_word, folded, same_bytes}
use Rattle.form.specs.Compare.{up, place_of}
use Rattle.form_words.specs.Padded.{trimmed, matched, found, word_table, sought, rows_of}
use Rattle.law.specs.declared.Rules.{Rules}
use Rattle.law.specs.declared.Rules.TheVariants.{Idf3}
use Rattle.law.specs.declared.Words.{Words}
use Rattle.law.specs.declared.Words.TheVariants.{FileTypes, Units, Owners, Faces, Sides, Layers, Plates, Statuses}
use Rattle.form_words.proofs.PaddedLaws.{matched_is}

-- what is sought is the place of the first row that matches
pub sought_is : (n : ℕ) (rows : List (List ℕ)) (s : List ℕ) → position_from (λ row. matched row s) n rows ≡ sought n rows s
unfolding sought
sought_is n [] s = refl
sought_is n (r ∷ rows) s = rw (add-one n, sought_is (suc n) rows s)

-- what is sought among padded rows is sought among the words that they hold
abbrev found_from : ℕ → Place ℕ → Option ℕ
found_from k none = None
found_from k (some n) = Some (k + n)

sought_from : (k : ℕ) (rows : List (List ℕ)) (s : List ℕ) → sought k rows s ≡ found_from k (place_of (map trimmed rows) (folded s))
unfolding sought place_of same_bytes
sought_from k [] s = refl
sought_from k (r ∷ rows) s = rw (matched_is r s) (go (same_bytes (trimmed r) (folded s)) (place_of (map trimmed rows) (folded s)) (sought_from (suc k) rows s))
  where
    go : (t : Bool) (o : Place ℕ) → sought (suc k) rows s ≡ found_from (suc k) o → cond t (Some k) (sought (suc k) rows s) ≡ found_from k (cond t (some 0) (up o))
    go true o e = ap Some (omega arith)
    go false none e = e
    go false (some n) e = e ∙ ap Some (omega arith)

from_zero_lem : (o : Place ℕ) → found_from 0 o ≡ found o
from_zero_lem none = refl
from_zero_lem (some n) = ap Some (omega arith)

-- the rows of each list hold its words
pub rows_are : (v : Rules) (l : Words) → map trimmed (rows_of v l) ≡ words_of v l
unfolding word_table trimmed words_of
rows_are Idf3 FileTypes = refl
rows_are Idf3 Units = refl
rows_are Idf3 Owners = refl
rows_are Idf3 Faces = refl
rows_are Idf3 Sides = refl
rows_are Idf3 Layers = refl
rows_are Idf3 Plates = refl
rows_are Idf3 Statuses = refl

pub place_is : (v : Rules) (l : Words) (s : List ℕ) → sought 0 (rows_of v l) s ≡ found (place_of (words_of v l) (folded s))
place_is v l s = sought_from 0 (rows_of v l) s ∙ rw (rows_are v l) (from_zero_lem (place_of (words_of v l) (folded s)))

pub prop_is : (s : List ℕ) (r : Bool) → r ≡ same_bytes (cased false (ascii "PROP")) (cased true s) → r ≡ same_bytes prop_word (folded s)
unfolding cased
prop_is s r e = e

-- a place is below the number of rows
no_place : {n : ℕ} → None ≡ Some n → ⊥
no_place {n} e = cc

pub sought_below : (k : ℕ) (rows : List (List ℕ)) (s : List ℕ) (n : ℕ) → sought k rows s ≡ Some n → n < k + length rows
unfolding sought
sought_below k [] s n e = absurd (no_place e)
sought_below k (r ∷ rows) s n e = go (matched r s) e (sought_below (suc k) rows s n)
  where
    go : (t : Bool) → cond t (Some k) (sought (suc k) rows s) ≡ Some n → (sought (suc k) rows s ≡ Some n → n < suc k + length rows) → n < k + suc (length rows)
    go true e ih = let z : k ≡ n = cc in omega arith
    go false e ih = let h = ih e in omega arith

-- the one version of the rules has these rows
pub rows_by : (v : Rules) (l m : Words) → l ≡ m → rows_of Idf3 m ≡ rows_of v l
rows_by Idf3 l m h = rw h

-- what the code finds among them
pub place_found : (v : Rules) (l : Words) (s : List ℕ) (rows : List (List ℕ)) (f : Option ℕ) → rows ≡ rows_of v l → f ≡ sought 0 rows s → f ≡ found (place_of (words_of v l) (folded s))
place_found v l s rows f e m = (rw e at m) ∙ place_is v l s

-- a number handed on as it is
pub same_mapped : (o r : Option ℕ) {Q : ℕ → ℕ → Type 0} → MatchOption o (r ≡ None) (λ x. IsSomeAnd r (Q x)) → ((x y : ℕ) → Q x y → y ≡ x) → r ≡ o
same_mapped None r h f = h
same_mapped (Some x) None h f = absurd h
same_mapped (Some x) (Some y) h f = ap Some (f x y h)
