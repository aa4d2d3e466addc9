-- A date piece by piece, and the same by places, as the code looks.
use Prim.Native.Nat.{ℕ, suc, ◌+◌, ◌*◌, ◌≤◌}
use mathlib.Core.Path.{◌≡◌, refl, sym, ap}
use mathlib.Core.List.{List, [], ◌∷◌}
use mathlib.Core.Bool.{Bool, true, false, ◌&&◌, and-true, false≢true}
use native.Mathlib.Omega.{arith}
use borrow.Author.Tests.{eqb-true, leb-true}
use lib.Dec.{leb, eqb}
use lib.ListN.{length, drop, get_or}
use Rattle.basics.proofs.Bools.{both}
use Rattle.basics.proofs.Lists.{at_cons, at_end}
use Rattle.law.specs.Numbers.{is_digit, Digit}
use Rattle.law.specs.Dates.{value_of, is_two, fits_in, is_date, Piece, two, mark, date_pieces}
use Rattle.number_read.proofs.NumberSpelling.{digit_of}

-- bytes made of pieces, as a proof takes them apart
pub data Made : List Piece → List ℕ → Type 0 where
  end : Made [] []
  marked : {m : ℕ} {ps : List Piece} {s : List ℕ} → Made ps s → Made (mark m ∷ ps) (m ∷ s)
  digits : {lo hi d e a b : ℕ} {ps : List Piece} {s : List ℕ} → Digit d a → Digit e b → lo ≤ d * 10 + e → d * 10 + e ≤ hi → Made ps s → Made (two lo hi ∷ ps) (a ∷ b ∷ s)

two_sound : (lo hi a b : ℕ) {ps : List Piece} {s : List ℕ} → is_two lo hi a b ≡ true → Made ps s → Made (two lo hi ∷ ps) (a ∷ b ∷ s)
unfolding is_two
two_sound lo hi a b h r =
    let p = both (is_digit a) _ h in
    let q = both (is_digit b) _ p.1 in
    let v = both (leb lo (value_of a b)) _ q.1 in
    digits (digit_of p.0) (digit_of q.0) (leb-true lo _ v.0) (leb-true _ hi v.1) r

fits_made : (ps : List Piece) (s : List ℕ) → fits_in ps s ≡ true → Made ps s
unfolding fits_in
fits_made [] [] h = end
fits_made [] (b ∷ s) h = absurd (false≢true h)
fits_made (mark m ∷ ps) [] h = absurd (false≢true h)
fits_made (mark m ∷ ps) (b ∷ s) h =
    let p = both (eqb b m) _ h in
    rw (eqb-true b m p.0) (marked (fits_made ps s p.1))
fits_made (two lo hi ∷ ps) [] h = absurd (false≢true h)
fits_made (two lo hi ∷ ps) (a ∷ []) h = absurd (false≢true h)
fits_made (two lo hi ∷ ps) (a ∷ b ∷ s) h =
    let p = both (is_two lo hi a b) _ h in
    two_sound lo hi a b p.0 (fits_made ps s p.1)

pub date_made : (s : List ℕ) → is_date s ≡ true → Made date_pieces s
unfolding is_date
date_made s h = fits_made date_pieces s h

-- A date by places
abbrev width : List Piece → ℕ
width [] = 0
width (two lo hi ∷ ps) = suc (suc (width ps))
width (mark m ∷ ps) = suc (width ps)

abbrev also : Bool → List Piece → Bool → Bool
also t [] u = t
also t (p ∷ ps) u = t && u

abbrev pub fits_at : List Piece → ℕ → List ℕ → Bool
fits_at [] i s = true
fits_at (two lo hi ∷ ps) i s = also (is_two lo hi (get_or s i 0) (get_or s (i + 1) 0)) ps (fits_at ps (i + 2) s)
fits_at (mark m ∷ ps) i s = also (eqb (get_or s i 0) m) ps (fits_at ps (i + 1) s)

also_is : (t : Bool) (ps : List Piece) (i : ℕ) (s : List ℕ) → t && fits_at ps i s ≡ also t ps (fits_at ps i s)
also_is t [] i s = and-true t
also_is t (p ∷ ps) i s = refl

fits_at_lem : (ps : List Piece) (i : ℕ) (s : List ℕ) → i + width ps ≡ length s → fits_in ps (drop i s) ≡ fits_at ps i s
unfolding fits_in
fits_at_lem [] i s h = rw (at_end s i (omega arith))
fits_at_lem (mark m ∷ ps) i s h = rw (at_cons s i (omega arith), fits_at_lem ps (i + 1) s (omega arith)) (also_is _ ps (i + 1) s)
fits_at_lem (two lo hi ∷ ps) i s h =
    let e : i + 1 + 1 ≡ i + 2 = omega arith in
    rw (at_cons s i (omega arith), at_cons s (i + 1) (omega arith), e, fits_at_lem ps (i + 2) s (omega arith)) (also_is _ ps (i + 2) s)

pub date_is : (s : List ℕ) → length s ≡ 19 → is_date s ≡ fits_at date_pieces 0 s
unfolding is_date date_pieces
date_is s h = fits_at_lem date_pieces 0 s (sym h)

made_width : {ps : List Piece} {s : List ℕ} → Made ps s → length s ≡ width ps
made_width end = refl
made_width (marked r) = ap suc (made_width r)
made_width (digits a b l u r) = ap suc (ap suc (made_width r))

pub date_short : (s : List ℕ) → (length s ≡ 19 → ⊥) → false ≡ is_date s
unfolding is_date date_pieces
date_short s h = go (is_date s) refl
  where
    go : (t : Bool) → is_date s ≡ t → false ≡ is_date s
    go true e = absurd (h (made_width (fits_made date_pieces s e)))
    go false e = sym e
