-- Laws of a line without regard to quoting, and why it counts the fields of one without quotes.
use Prim.Native.Nat.{ℕ, zero, suc, ◌+◌, ◌≤◌, ◌<◌}
use mir.Syntax.{w8}
use mir.Val.{Fits}
use mathlib.Core.Path.{◌≡◌, refl, sym, ap, ◌∙◌}
use mathlib.Core.List.{List, [], ◌∷◌}
use mathlib.Core.Option.{Option, none, some}
use mathlib.Core.Bool.{Bool, true, false, cond, not, ◌&&◌, ◌||◌, true≢false, or_assoc, or-false}
use native.Mathlib.Omega.{arith}
use native.Mathlib.Nat.{zero-add}
use lib.Dec.{eqb}
use lib.ListN.{length, take, drop, get_or, length-drop}
use lib.Seq.{drop-drop}
use Rattle.basics.proofs.Bools.{or_left, or_right}
use Rattle.basics.proofs.Lists.{at_cons, at_end}
use Rattle.law.specs.Bytes.{is_space, in_bare}
use Rattle.law.specs.Fields.{Field, field}
use Rattle.text_fields.specs.FirstField.{span, ends_well, bare_at, field_at, field_of}
use Rattle.text_fields.specs.Fields.{before, fields_in, fields_of, count_by, count_of}
use Rattle.text_fields.specs.Starts.{one_if, starts_in, holds_quote, rough_of}
use Rattle.std.specs.Prelude.{Some, None, Ok}
use Rattle.text_fields.specs.declared.Rough.{Rough}

-- starts and quotes, those passed and those left
pub record Plaining (line : List ℕ) (n : ℕ) (quoted space : Bool) (i : ℕ) : Type 0 where
  pub starts : n + starts_in space (drop i line) ≡ starts_in true line
  pub quotes : (quoted || holds_quote (drop i line)) ≡ holds_quote line
  pub few : n ≤ i
  pub within : i ≤ length line

pub plain_start : (line : List ℕ) → Plaining line 0 false true 0
plain_start line = record { starts = omega arith; quotes = refl; few = omega arith; within = omega arith }

one_small : (b : Bool) → one_if b ≤ 1
one_small true = omega arith
one_small false = omega arith

module _ (line : List ℕ) (n : ℕ) (quoted space : Bool) (i : ℕ) (p : Plaining line n quoted space i) where
  pub plain_fits : (m : ℕ) (b : Bool) → i < length line → length line < 256 → m ≡ one_if b → Fits w8 (n + m)
  plain_fits m b h f e = let k = p.few in let l : m ≤ 1 = rw e (one_small b) in omega arith

  pub plain_more : (m : ℕ) → i < length line → m ≡ one_if (space && not (eqb (get_or line i 0) 32))
      → Plaining line (n + m) (quoted || eqb (get_or line i 0) 34) (eqb (get_or line i 0) 32) (i + 1)
  unfolding starts_in holds_quote
  plain_more m h e =
      let k = p.few in
      let l : m ≤ 1 = rw e (one_small (space && not (eqb (get_or line i 0) 32))) in
      let z : starts_in space (drop i line) ≡ m + starts_in (eqb (get_or line i 0) 32) (drop (i + 1) line) = ap (starts_in space) (at_cons line i h) ∙ rw e in
      let s = p.starts in
      record {
        starts = omega arith;
        quotes = or_assoc quoted (eqb (get_or line i 0) 34) (holds_quote (drop (i + 1) line)) ∙ sym (ap (λ (t : List ℕ). quoted || holds_quote t) (at_cons line i h)) ∙ p.quotes;
        few = omega arith;
        within = omega arith;
      }

  pub plain_over : length line ≤ i → record { starts = n; quoted = quoted } ≡ rough_of line
  unfolding rough_of starts_in holds_quote
  plain_over h =
      let z : starts_in space (drop i line) ≡ 0 = ap (starts_in space) (at_end line i h) in
      let s = p.starts in
      let a : n ≡ starts_in true line = omega arith in
      let b : quoted ≡ holds_quote line = sym (or-false quoted) ∙ sym (ap (λ (t : List ℕ). quoted || holds_quote t) (at_end line i h)) ∙ p.quotes in
      rw (a, b)

-- lines without quotes

no_quote_behind : (n : ℕ) (s : List ℕ) → holds_quote s ≡ false → holds_quote (drop n s) ≡ false
unfolding holds_quote
no_quote_behind zero s h = h
no_quote_behind (suc n) [] h = h
no_quote_behind (suc n) (b ∷ s) h = no_quote_behind n s (or_right (eqb b 34) (holds_quote s) h)

-- spaces in front begin no field
starts_spaces : (s : List ℕ) → starts_in true s ≡ starts_in true (drop (span is_space s) s)
unfolding starts_in span
starts_spaces [] = refl
starts_spaces (b ∷ s) = go (eqb b 32) refl (starts_spaces s)
  where
    go : (c : Bool) → eqb b 32 ≡ c → starts_in true s ≡ starts_in true (drop (span is_space s) s)
        → one_if (true && not (eqb b 32)) + starts_in (eqb b 32) s ≡ starts_in true (drop (cond c (suc (span is_space s)) 0) (b ∷ s))
    go true e ih = rw e (zero-add (starts_in true s) ∙ ih)
    go false e ih = refl

-- nor does what is left of a field that has begun
starts_bare : (s : List ℕ) → holds_quote s ≡ false → starts_in false s ≡ starts_in true (drop (span in_bare s) s)
unfolding starts_in span holds_quote
starts_bare [] h = refl
starts_bare (b ∷ s) h = zero-add (starts_in (eqb b 32) s) ∙ go (eqb b 32) (eqb b 34) refl refl (starts_bare s (or_right (eqb b 34) (holds_quote s) h))
  where
    go : (c d : Bool) → eqb b 32 ≡ c → eqb b 34 ≡ d → starts_in false s ≡ starts_in true (drop (span in_bare s) s)
        → starts_in (eqb b 32) s ≡ starts_in true (drop (cond (cond c false (not d)) (suc (span in_bare s)) 0) (b ∷ s))
    go true d e i ih = ap (λ (x : Bool). starts_in x s) e ∙ sym (zero-add (starts_in true s)) ∙ sym (ap (λ (x : Bool). one_if (true && not x) + starts_in x s) e)
    go false true e i ih = absurd (true≢false (sym i ∙ or_left (eqb b 34) (holds_quote s) h))
    go false false e i ih = ap (λ (x : Bool). starts_in x s) e ∙ ih

-- a bare field ends well where there is no quote
bare_ends : (s : List ℕ) → holds_quote s ≡ false → ends_well (drop (span in_bare s) s) ≡ true
unfolding span holds_quote ends_well
bare_ends [] h = refl
bare_ends (b ∷ s) h = go (eqb b 32) (eqb b 34) refl refl (bare_ends s (or_right (eqb b 34) (holds_quote s) h))
  where
    go : (c d : Bool) → eqb b 32 ≡ c → eqb b 34 ≡ d → ends_well (drop (span in_bare s) s) ≡ true
        → ends_well (drop (cond (cond c false (not d)) (suc (span in_bare s)) 0) (b ∷ s)) ≡ true
    go true d e i ih = e
    go false true e i ih = absurd (true≢false (sym i ∙ or_left (eqb b 34) (holds_quote s) h))
    go false false e i ih = ih

-- after spaces a list is over or begins with another byte
spaces_end : (s : List ℕ) (b : ℕ) (u : List ℕ) → drop (span is_space s) s ≡ b ∷ u → eqb b 32 ≡ false
unfolding span
spaces_end [] b u e = let z : ◌≡◌ {A = ℕ} 0 1 = cc in absurd (omega arith)
spaces_end (a ∷ s) b u e = go (eqb a 32) refl (spaces_end s b u) e
  where
    go : (c : Bool) → eqb a 32 ≡ c → (drop (span is_space s) s ≡ b ∷ u → eqb b 32 ≡ false) → drop (cond c (suc (span is_space s)) 0) (a ∷ s) ≡ b ∷ u → eqb b 32 ≡ false
    go true e ih k = ih k
    go false e ih k = let z : a ≡ b = cc in sym (ap (λ (x : ℕ). eqb x 32) z) ∙ e

count_before : (f : Field) (r : Option (List Field)) (n : ℕ) → count_by r ≡ Ok n → count_by (before f r) ≡ Ok (suc n)
count_before f none n h = let z : ◌≡◌ {A = ℕ} 0 1 = cc in absurd (omega arith)
count_before f (some fs) n h = let z : length fs ≡ n = cc in rw z

-- the first field of such a line
module _ (s : List ℕ) (h : holds_quote s ≡ false) where
  first_none : drop (span is_space s) s ≡ [] → field_of s ≡ Ok None
  unfolding field_of field_at
  first_none e = rw e

  module _ (b : ℕ) (u : List ℕ) (e : drop (span is_space s) s ≡ b ∷ u) where
    left : holds_quote (b ∷ u) ≡ false
    left = ap holds_quote (sym e) ∙ no_quote_behind (span is_space s) s h

    no_quote : eqb b 34 ≡ false
    unfolding holds_quote
    no_quote = or_left (eqb b 34) (holds_quote u) left

    no_quotes : holds_quote u ≡ false
    unfolding holds_quote
    no_quotes = or_right (eqb b 34) (holds_quote u) left

    bare_long : span in_bare (b ∷ u) ≡ suc (span in_bare u)
    unfolding span
    bare_long = rw (spaces_end s b u e, no_quote)

    first_bare : field_of s
        ≡ Ok (Some (record { start = span is_space s; len = span in_bare (b ∷ u); quoted = false; next = span is_space s + span in_bare (b ∷ u) }))
    unfolding field_of field_at bare_at
    first_bare = rw (e, no_quote, bare_ends (b ∷ u) left)

    behind_first : drop (span is_space s + span in_bare (b ∷ u)) s ≡ drop (span in_bare u) u
    behind_first = sym (drop-drop (span in_bare (b ∷ u)) (span is_space s) s) ∙ ap (drop (span in_bare (b ∷ u))) e ∙ ap (λ (n : ℕ). drop n (b ∷ u)) bare_long

    one_start : starts_in true s ≡ suc (starts_in true (drop (span is_space s + span in_bare (b ∷ u)) s))
    unfolding starts_in
    one_start =
        let z : starts_in true (b ∷ u) ≡ 1 + starts_in false u = ap (λ (x : Bool). one_if (true && not x) + starts_in x u) (spaces_end s b u e) in
        let y : starts_in false u ≡ starts_in true (drop (span is_space s + span in_bare (b ∷ u)) s) = starts_bare u no_quotes ∙ ap (starts_in true) (sym behind_first) in
        let x : starts_in true s ≡ starts_in true (b ∷ u) = starts_spaces s ∙ ap (starts_in true) e in
        omega arith

    shorter : (fuel : ℕ) → length s < suc fuel → length (drop (span is_space s + span in_bare (b ∷ u)) s) < fuel
    shorter fuel l =
        let k : length (drop (span is_space s) s) ≡ suc (length u) = ap length e in
        let n = bare_long in
        omega (arith, length-drop (span is_space s) s, length-drop (span is_space s + span in_bare (b ∷ u)) s)

count_none : (fuel : ℕ) (s : List ℕ) → holds_quote s ≡ false → drop (span is_space s) s ≡ [] → count_by (fields_in (suc fuel) s) ≡ Ok (starts_in true s)
unfolding fields_in starts_in
count_none fuel s h e = rw (first_none s h e, starts_spaces s ∙ ap (starts_in true) e)

count_one : (fuel : ℕ) (s : List ℕ) (h : holds_quote s ≡ false) (b : ℕ) (u : List ℕ) → drop (span is_space s) s ≡ b ∷ u
    → count_by (fields_in fuel (drop (span is_space s + span in_bare (b ∷ u)) s)) ≡ Ok (starts_in true (drop (span is_space s + span in_bare (b ∷ u)) s))
    → count_by (fields_in (suc fuel) s) ≡ Ok (starts_in true s)
unfolding fields_in
count_one fuel s h b u e ih =
    rw (first_bare s h b u e, one_start s h b u e)
    (count_before (field false (take (span in_bare (b ∷ u)) (drop (span is_space s) s))) (fields_in fuel (drop (span is_space s + span in_bare (b ∷ u)) s)) _ ih)

-- each turn takes one field, and one start
plain_count : (fuel : ℕ) (s : List ℕ) → length s < fuel → holds_quote s ≡ false → count_by (fields_in fuel s) ≡ Ok (starts_in true s)
plain_count zero s l h = absurd (omega arith)
plain_count (suc fuel) s l h = go (drop (span is_space s) s) refl (λ n k. plain_count fuel (drop n s) k (no_quote_behind n s h))
  where
    go : (t : List ℕ) → drop (span is_space s) s ≡ t
        → ((n : ℕ) → length (drop n s) < fuel → count_by (fields_in fuel (drop n s)) ≡ Ok (starts_in true (drop n s)))
        → count_by (fields_in (suc fuel) s) ≡ Ok (starts_in true s)
    go [] e ih = count_none fuel s h e
    go (b ∷ u) e ih = count_one fuel s h b u e (ih (span is_space s + span in_bare (b ∷ u)) (shorter s h b u e fuel l))

pub plain_counted : (line : List ℕ) (p : Rough) → p ≡ rough_of line → p.quoted ≡ false → Ok p.starts ≡ count_of line
unfolding rough_of count_of fields_of
plain_counted line p e h = ap (λ (x : Rough). Ok x.starts) e ∙ sym (plain_count (suc (length line)) line (omega arith) (sym (ap (λ (x : Rough). x.quoted) e) ∙ h))
