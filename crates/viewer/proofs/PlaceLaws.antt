-- Laws of the starts and lengths of a line's fields, and of the loop that writes them.
use Prim.Native.Nat.{ℕ, zero, suc, pred, ◌+◌, ◌-◌, ◌^◌, ◌≤◌, ◌<◌}
use mir.Syntax.{w64}
use mir.Val.{Fits}
use mathlib.Core.Path.{◌≡◌, refl, sym, ap, subst, ◌∙◌}
use mathlib.Core.List.{List, [], ◌∷◌, ◌++◌}
use mathlib.Core.Option.{Option, none, some}
use mathlib.Core.Bool.{Bool}
use native.Mathlib.Nat.{not-suc-le-zero}
use native.Mathlib.Omega.{arith}
use native.Mathlib.Numerals.{add-one}
use lib.IntN.{ℤ, pos}
use lib.ListN.{length, take, drop, set, length-set, length-drop, take-append-drop}
use lib.Seq.{drop-drop}
use Rattle.basics.proofs.Lists.{rest}
use Rattle.law.specs.Fields.{Field, field}
use Rattle.text_fields.specs.FirstField.{FirstField, field_of}
use Rattle.text_fields.specs.Fields.{before, fields_by, fields_in, fields_of, count_by, count_of}
use Rattle.std.specs.Prelude.{Some, None, Ok, Err}
use Rattle.text_fields.specs.declared.FoundField.{FoundField}
use Rattle.text_fields.specs.declared.BrokenQuoting.{BrokenQuoting}
use Rattle.text_fields.proofs.Bounds.{Lies, Bounded, bounded}
use Rattle.law.specs.Answers.{over}
use Rattle.viewer.specs.Views.{places_by, places_in, places_of}

-- two numbers for each field of a line whose quoting is sound
places_by_lem : (a : FirstField) (b : ℕ) (s : List ℕ) (later : ℕ → Option (List Field)) (rest : ℕ → List ℤ) (fs : List Field)
    → ((m : ℕ) (gs : List Field) → later m ≡ some gs → length (rest m) ≡ length gs + length gs)
    → fields_by a s later ≡ some fs → length (places_by a b rest) ≡ length fs + length fs
places_by_lem (Ok None) b s later r fs ih e = let h : [] ≡ fs = cc in omega (arith, ap length h)
places_by_lem (Ok (Some f)) b s later r fs ih e = go (later f.next) refl e
  where
    go : (x : Option (List Field)) → later f.next ≡ x → before (field f.quoted (take f.len (drop f.start s))) x ≡ some fs → suc (suc (length (r f.next))) ≡ length fs + length fs
    go none h k = let z : ◌≡◌ {A = ℕ} 0 1 = cc in absurd (omega arith)
    go (some gs) h k = let j : field f.quoted (take f.len (drop f.start s)) ∷ gs ≡ fs = cc in omega (arith, ap length j, ih f.next gs h)
places_by_lem (Err d) b s later r fs ih e = let z : ◌≡◌ {A = ℕ} 0 1 = cc in absurd (omega arith)

places_in_lem : (fuel b : ℕ) (s : List ℕ) (fs : List Field) → fields_in fuel s ≡ some fs → length (places_in fuel b s) ≡ length fs + length fs
unfolding fields_in places_in
places_in_lem zero b s fs e = let z : ◌≡◌ {A = ℕ} 0 1 = cc in absurd (omega arith)
places_in_lem (suc fuel) b s fs e = places_by_lem (field_of s) b s _ _ fs (λ m gs. places_in_lem fuel (b + m) (drop m s) gs) e

pub places_long : (b : ℕ) (s : List ℕ) (n : ℕ) → count_of s ≡ Ok n → length (places_of b s) ≡ n + n
unfolding count_of fields_of places_of
places_long b s n e = go (fields_in (suc (length s)) s) refl e
  where
    go : (x : Option (List Field)) → fields_in (suc (length s)) s ≡ x → count_by x ≡ Ok n → length (places_in (suc (length s)) b s) ≡ n + n
    go none h k = let z : ◌≡◌ {A = ℕ} 0 1 = cc in absurd (omega arith)
    go (some fs) h k = let j : length fs ≡ n = cc in omega (arith, places_in_lem (suc (length s)) b s fs h)

-- two numbers set in a slice whose front is written
put_more : (n : ℕ) (x y : ℤ) (left out : List ℤ) → suc n < length out
    → take n out ++ over (x ∷ y ∷ left) (drop n out) ≡ take (suc (suc n)) (set (set out n x) (suc n) y) ++ over left (drop (suc (suc n)) (set (set out n x) (suc n) y))
put_more n x y left [] h = absurd (omega arith)
put_more zero x y left (a ∷ []) h = absurd (omega arith)
put_more zero x y left (a ∷ b ∷ out) h = refl
put_more (suc n) x y left (a ∷ out) h = ap (λ (r : List ℤ). a ∷ r) (put_more n x y left out (omega arith))

-- the first n numbers are written; what is left of the line from `at` on gives the others, and some fuel is enough for it
pub record Showing (line : List ℕ) (base : ℕ) (old out : List ℤ) (at n : ℕ) : Type 0 where
  pub within : at ≤ length line
  pub fuel : ℕ
  pub enough : length line < at + fuel
  pub long : length out ≡ length old
  pub fits : n + length (places_in fuel (base + at) (drop at line)) ≤ length out
  pub same : take n out ++ over (places_in fuel (base + at) (drop at line)) (drop n out) ≡ over (places_of base line) old

pub show_start : (line : List ℕ) (base : ℕ) (old : List ℤ) → length (places_of base line) ≤ length old → Showing line base old old 0 0
unfolding places_of
show_start line base old h =
    let z : base + 0 ≡ base = omega arith in
    let k : length (places_in (suc (length line)) base line) ≤ length old = h in
    record { within = omega arith; fuel = suc (length line); enough = omega arith; long = refl; fits = rw z (omega arith); same = rw z }

-- one turn, where any fuel is left
places_step : (fuel b : ℕ) (s : List ℕ) → 0 < fuel → places_in fuel b s ≡ places_by (field_of s) b (λ m. places_in (pred fuel) (b + m) (drop m s))
unfolding places_in
places_step zero b s h = absurd (not-suc-le-zero h)
places_step (suc fuel) b s h = refl

-- r is what `field` answers at the part from `at`
module _ {line : List ℕ} {base : ℕ} {old out : List ℤ} {at n : ℕ} (i : Showing line base old out at n) where
  pub show_long : length out ≡ length old
  show_long = i.long

  module _ {r : FirstField} (e : r ≡ field_of (take (length line - at) (drop at line))) where
    left_by : {x : FirstField} → r ≡ x → places_in i.fuel (base + at) (drop at line) ≡ places_by x (base + at) (λ m. places_in (pred i.fuel) (base + at + m) (drop m (drop at line)))
    left_by {x} h =
        let w = i.within in
        let g = i.enough in
        let k : field_of (drop at line) ≡ x = sym (rw rest at e) ∙ h in
        places_step i.fuel (base + at) (drop at line) (omega arith) ∙ rw k

    shown : places_in i.fuel (base + at) (drop at line) ≡ [] → out ≡ over (places_of base line) old
    shown h = sym (take-append-drop n out) ∙ ap (λ (x : List ℤ). take n out ++ over x (drop n out)) (sym h) ∙ i.same

    pub show_none : r ≡ Ok None → out ≡ over (places_of base line) old
    show_none h = shown (left_by h)

    pub show_broken : {b : BrokenQuoting} → r ≡ Err b → out ≡ over (places_of base line) old
    show_broken h = shown (left_by h)

    module _ {d : FoundField} (h : r ≡ Ok (Some d)) where
      lies : Lies at (length line - at) (at + d.start) d.len (at + d.next)
      lies =
          let k : field_of (drop at line) ≡ Ok (Some d) = sym (rw rest at e) ∙ h in
          let b : Lies 0 (length (drop at line)) d.start d.len d.next = subst (Bounded 0 (length (drop at line))) k (bounded (drop at line)) in
          let w = i.within in
          record { past = omega arith; within = omega (arith, length-drop at line); inside = omega arith }

      left_next : places_in i.fuel (base + at) (drop at line) ≡ pos (base + at + d.start) ∷ pos d.len ∷ places_in (pred i.fuel) (base + (at + d.next)) (drop (at + d.next) line)
      left_next =
          let k : base + at + d.next ≡ base + (at + d.next) = omega arith in
          rw (k, drop-drop d.next at line) at (left_by h)

      pub pair_room : n + 1 < length out
      pair_room = let f = i.fits in omega (arith, ap length left_next)

      module _ (g : base + length line < 2 ^ 62) where
        pub start_small : base + at + d.start < 2 ^ 63
        start_small = let b = lies in let w = i.within in omega arith

        pub len_small : d.len < 2 ^ 63
        len_small = let b = lies in let w = i.within in omega arith

        pub base_fits : Fits w64 (base + at)
        base_fits = let w = i.within in record { fits = omega arith }

        pub start_fits : Fits w64 (base + at + d.start)
        start_fits = record { fits = omega (arith, start_small) }

        pub at_fits : Fits w64 (at + d.next)
        at_fits = let b = lies in let w = i.within in record { fits = omega arith }

      pub n_fits : length out < 2 ^ 64 → Fits w64 (n + 2)
      n_fits k = record { fits = omega (arith, pair_room) }

      pub show_less : length line - (at + d.next) < length line - at
      show_less = let b = lies in omega arith

      pub show_more : (y : List ℤ) → y ≡ set (set out n (pos (base + at + d.start))) (n + 1) (pos d.len) → Showing line base old y (at + d.next) (n + 2)
      show_more y k =
          let b = lies in
          let w = i.within in
          let s : List ℤ = set (set out n (pos (base + at + d.start))) (suc n) (pos d.len) in
          let p : List ℤ = places_in (pred i.fuel) (base + (at + d.next)) (drop (at + d.next) line) in
          let t : length s ≡ length out = length-set (set out n (pos (base + at + d.start))) (suc n) (pos d.len) ∙ length-set out n (pos (base + at + d.start)) in
          let u : y ≡ s = k ∙ ap (λ (z : ℕ). set (set out n (pos (base + at + d.start))) z (pos d.len)) (add-one n) in
          let v : n + 2 ≡ suc (suc n) = omega arith in
          let f = i.fits in
          record {
            within = omega arith;
            fuel = pred i.fuel;
            enough = omega (arith, i.enough);
            long = ap length u ∙ t ∙ i.long;
            fits = omega (arith, ap length u, t, ap length left_next);
            same = rw (u, v) (sym (put_more n (pos (base + at + d.start)) (pos d.len) p out (omega (arith, pair_room))) ∙ ap (λ (x : List ℤ). take n out ++ over x (drop n out)) (sym left_next) ∙ i.same);
          }
