-- The fields of a line stand where `field_of` finds them: each spelled line has one list of fields with their places.
use Prim.Native.Nat.{ℕ, zero, suc, ◌+◌, ◌<◌}
use mathlib.Core.Path.{◌≡◌, refl, sym, ap, ap₂, ◌∙◌}
use mathlib.Core.List.{List, [], ◌∷◌, ◌++◌, map, append-nil}
use mathlib.Core.Option.{some}
use mathlib.Core.Bool.{true, false}
use native.Mathlib.Nat.{not-suc-le-zero}
use native.Mathlib.Omega.{arith}
use lib.ListN.{length, take, drop, length-append}
use Rattle.law.specs.Fields.{Field, field, Spelled}
use Rattle.text_fields.specs.FirstField.{FirstField, span, ends_well, field_at, field_of}
use Rattle.text_fields.specs.Fields.{fields_of}
use Rattle.law.specs.Fields as rules
use Rattle.std.specs.Prelude.{Some, None, Ok, Err}
use Rattle.text_fields.proofs.FieldSpelling.{Read, read, some_spells, shift, shift_of, fields_sound}
use Rattle.law.specs.FieldPlaces.{Spot, spot_of, SpelledAt, end, space, last, next}

-- Erasing places gives `Spelled`, and a spelled line has places

abbrev pub field_in : Spot → Field
field_in p = p.what

pub map_many : (ps : List Spot) → length (map field_in ps) ≡ length ps
map_many [] = refl
map_many (p ∷ ps) = ap suc (map_many ps)

spot_what : (b : ℕ) (f : Field) → field_in (spot_of b f) ≡ f
spot_what b (field true s) = refl
spot_what b (field false s) = refl

pub erased : {b : ℕ} {ps : List Spot} {s : List ℕ} → SpelledAt b ps s → Spelled (map field_in ps) s
erased end = rules.end
erased (space r) = rules.space (erased r)
erased (last {b = b} {f = f} p) = rw (spot_what b f) (rules.last p)
erased (next {b = b} {f = f} p r) = rw (spot_what b f) (rules.next p (erased r))

pub record Placed (b : ℕ) (fs : List Field) (s : List ℕ) : Type 0 where
  pub spots : List Spot
  pub are : map field_in spots ≡ fs
  pub spelled : SpelledAt b spots s

pub placed : {fs : List Field} {s : List ℕ} (b : ℕ) → Spelled fs s → Placed b fs s
placed b rules.end = record { spots = []; are = refl; spelled = end }
placed b (rules.space r) = let h = placed (b + 1) r in record { spots = h.spots; are = h.are; spelled = space h.spelled }
placed b (rules.last {f = f} p) = record { spots = spot_of b f ∷ []; are = rw (spot_what b f); spelled = last p }
placed b (rules.next {f = f} {s = s} p r) = let h = placed (b + length s) r in record { spots = spot_of b f ∷ h.spots; are = rw (spot_what b f, h.are); spelled = next p h.spelled }

-- The fields as they are found

abbrev pub spots_by : FirstField → ℕ → List ℕ → (ℕ → List Spot) → List Spot
spots_by (Ok None) b s later = []
spots_by (Ok (Some f)) b s later = record { at = b + f.start; what = field f.quoted (take f.len (drop f.start s)) } ∷ later f.next
spots_by (Err e) b s later = []

unfoldable pub spots_in : ℕ → ℕ → List ℕ → List Spot
spots_in zero b s = []
spots_in (suc fuel) b s = spots_by (field_of s) b s (λ n. spots_in fuel (b + n) (drop n s))

read_step : {f : Field} {ps : List Spot} (b : ℕ) (s t : List ℕ) (fuel : ℕ) → Read f s t → spots_in fuel (b + length s) t ≡ ps → spots_in (suc fuel) b (s ++ t) ≡ spot_of b f ∷ ps
unfolding spots_in
read_step b s t fuel r e = rw (r.is, r.after, r.long) (ap₂ (λ (p : Spot) (ps : List Spot). p ∷ ps) (r.spot b) e)

-- A space in front moves the answer
shift_by : (x : FirstField) (b : ℕ) (s : List ℕ) (later : ℕ → List ℕ → List Spot) → spots_by (shift x) b (32 ∷ s) (λ n. later (b + n) (drop n (32 ∷ s))) ≡ spots_by x (b + 1) s (λ n. later (b + 1 + n) (drop n s))
shift_by (Ok None) b s later = refl
shift_by (Ok (Some f)) b s later =
    let x : b + suc f.start ≡ b + 1 + f.start = omega arith in
    let y : b + suc f.next ≡ b + 1 + f.next = omega arith in
    rw (x, y)
shift_by (Err e) b s later = refl

-- whatever spells the line is what is found
pub spots_in_lem : {b : ℕ} {ps : List Spot} {s : List ℕ} → SpelledAt b ps s → (fuel : ℕ) → length s < fuel → spots_in fuel b s ≡ ps
unfolding spots_in field_of field_at span ends_well
spots_in_lem r zero h = absurd (not-suc-le-zero h)
spots_in_lem end (suc fuel) h = refl
spots_in_lem (space {b = b} {ps = ps} {s = s} r) (suc fuel) h = rw (shift_of s) (shift_by (field_of s) b s (spots_in fuel) ∙ spots_in_lem {b = b + 1} {ps = ps} {s = s} r (suc fuel) (omega arith))
spots_in_lem (last {b = b} {s = s} p) (suc fuel) h =
    let k = some_spells p in
    let e = read_step b s [] fuel (read [] p refl) (spots_in_lem (end {b = b + length s}) fuel (omega arith)) in
    rw append-nil at e
spots_in_lem (next {b = b} {s = s} {t = t} p r) (suc fuel) h =
    let k = some_spells p in
    read_step b s (32 ∷ t) fuel (read (32 ∷ t) p refl) (spots_in_lem r fuel (omega (arith, length-append s (32 ∷ t))))

-- so a line has one list of fields with their places
pub places_unique : {b : ℕ} {ps qs : List Spot} {s : List ℕ} → SpelledAt b ps s → SpelledAt b qs s → ps ≡ qs
places_unique {s = s} p q = sym (spots_in_lem p (suc (length s)) (omega arith)) ∙ spots_in_lem q (suc (length s)) (omega arith)

pub places_found : (b : ℕ) (s : List ℕ) (fs : List Field) → fields_of s ≡ some fs → Placed b fs s
places_found b s fs e = placed b (fields_sound s fs e)
