-- The line at a reader's place: the numbers of its fields, and the place behind it.
use Prim.Native.Nat.{ℕ, zero, suc, ◌+◌, ◌<◌}
use mathlib.Core.Path.{◌≡◌, refl, ap, ◌∙◌}
use mathlib.Core.List.{List, [], ◌∷◌, ◌++◌}
use mathlib.Core.Bool.{Bool, true, false, cond}
use native.Mathlib.Omega.{arith}
use lib.IntN.{ℤ}
use lib.ListN.{length, take, drop, length-drop, length-append}
use lib.Seq.{length-take-le}
use Rattle.law.specs.Bytes.{begins}
use Rattle.law.specs.Lines.{by_10, by_13_10, File, none, last, next, place_behind}
use Rattle.text.specs.Lines.{line_end}
use Rattle.text.proofs.LineLaws.{lines_first}
use Rattle.text.proofs.LineSpelling.{end_some, lines_complete, place_behind_lem}
use Rattle.text_fields.specs.FirstField.{FirstField, field_of}
use Rattle.std.specs.Prelude.{Some, None, Ok, Err}
use Rattle.line_rows.proofs.LookLaws.{got_lies}
use Rattle.viewer.specs.Views.{line_at, next_at, places_by, places_in, places_of}
use Rattle.law.specs.FieldPlaces.{Spot, SpelledAt, numbers_of}
use Rattle.shown_places.proofs.Spots.{spots_by, spots_in, spots_in_lem}

numbers_by : (x : FirstField) (b : ℕ) (s : List ℕ) → field_of s ≡ x → (later : ℕ → List Spot) (rest : ℕ → List ℤ) → ((m : ℕ) → rest m ≡ numbers_of (later m))
    → places_by x b rest ≡ numbers_of (spots_by x b s later)
unfolding numbers_of
numbers_by (Ok None) b s e later rest h = refl
numbers_by (Ok (Some f)) b s e later rest h =
    let r = got_lies s f e in
    let u : length (take f.len (drop f.start s)) ≡ f.len = length-take-le f.len (drop f.start s) (omega (arith, length-drop f.start s, r.within, r.inside)) in
    rw (u, h f.next)
numbers_by (Err d) b s e later rest h = refl

numbers_in_lem : (fuel b : ℕ) (s : List ℕ) → places_in fuel b s ≡ numbers_of (spots_in fuel b s)
unfolding places_in spots_in numbers_of
numbers_in_lem zero b s = refl
numbers_in_lem (suc fuel) b s = numbers_by (field_of s) b s refl _ _ (λ m. numbers_in_lem fuel (b + m) (drop m s))

-- start and length of each field of a line
pub places_are : {b : ℕ} {ps : List Spot} {s : List ℕ} → SpelledAt b ps s → places_of b s ≡ numbers_of ps
unfolding places_of
places_are {b} {ps} {s} p = numbers_in_lem (suc (length s)) b s ∙ ap numbers_of (spots_in_lem p (suc (length s)) (omega arith))

-- The line at a place

-- no line, no byte
pub none_long : {ls : List (List ℕ)} {s : List ℕ} → ls ≡ [] → File ls s → length s ≡ 0
none_long e none = refl
none_long e (last a) = let z : ◌≡◌ {A = ℕ} 0 1 = cc in absurd (omega arith)
none_long e (next a k f) = let z : ◌≡◌ {A = ℕ} 0 1 = cc in absurd (omega arith)

file_some : {l : List ℕ} {ls : List (List ℕ)} {s : List ℕ} → File (l ∷ ls) s → 0 < length s
file_some (last a) = omega arith
file_some (next {l = l} {e = e} {s = s} a k f) = omega (arith, length-append l (e ++ s), length-append e s, end_some k)

begins_same : {l : List ℕ} {ls : List (List ℕ)} {s : List ℕ} → File (l ∷ ls) s → begins 35 s ≡ begins 35 l
unfolding begins
begins_same (last a) = refl
begins_same (next {l = []} a (by_10 h) f) = refl
begins_same (next {l = []} a by_13_10 f) = refl
begins_same (next {l = b ∷ l} a k f) = refl

pub first_is : {l : List ℕ} {ls : List (List ℕ)} {s : List ℕ} → File (l ∷ ls) s → take (line_end s).content s ≡ l
first_is {l} {ls} {s} m = let e = lines_complete m in let f = lines_first s (file_some m) in cc

module _ (file : List ℕ) (at : ℕ) {line : List ℕ} {more : List (List ℕ)} (m : File (line ∷ more) (drop at file)) where
  -- a byte is left
  pub some_left : at < length file
  some_left = omega (arith, file_some m, length-drop at file)

  -- what is looked at: nothing of a comment
  pub looked : (t : Bool) → begins 35 line ≡ t → line_at file at ≡ cond t [] line
  unfolding line_at
  looked true e = rw (begins_same m, e)
  looked false e = rw (begins_same m, e) (first_is m)

  -- the next line begins behind it
  pub next_behind : next_at file at ≡ place_behind file at line
  unfolding next_at
  next_behind = place_behind_lem file at ∙ rw (first_is m)
