-- Where a field that `field_of` gives lies.
use Prim.Native.Nat.{ℕ, suc, ◌+◌, ◌≤◌, ◌<◌}
use mathlib.Core.Path.{◌≡◌, refl}
use mathlib.Core.List.{List, [], ◌∷◌}
use mathlib.Core.Bool.{Bool, true, false, cond}
use native.Mathlib.Omega.{arith}
use lib.Dec.{eqb}
use lib.ListN.{length, drop, length-drop}
use Rattle.law.specs.Bytes.{is_space, in_bare, in_quotes}
use Rattle.text_fields.specs.FirstField.{span, FirstField, ends_well, found_if, bare_at, closed_at, quoted_at, one_of, field_at, field_of}
use Rattle.std.specs.Prelude.{Some, None, Ok, Err}
use Rattle.text_fields.proofs.FieldLaws.{span_le}

-- what stands after a run does not pass
pub span_after : (p : ℕ → Bool) (s : List ℕ) (b : ℕ) (t : List ℕ) → drop (span p s) s ≡ b ∷ t → p b ≡ false
unfolding span
span_after p [] b t e = cc
span_after p (a ∷ s) b t e = go (p a) refl e (span_after p s b t)
  where
    go : (q : Bool) → p a ≡ q → drop (cond q (suc (span p s)) 0) (a ∷ s) ≡ b ∷ t → (drop (span p s) s ≡ b ∷ t → p b ≡ false) → p b ≡ false
    go true h e ih = ih e
    go false h e ih = cc

pub span_some : (p : ℕ → Bool) (b : ℕ) (s : List ℕ) → p b ≡ true → span p (b ∷ s) ≡ suc (span p s)
unfolding span
span_some p b s h = simp h

-- a field that lies in n bytes from k
pub record Lies (k n a l m : ℕ) : Type 0 where
  pub past : k < m
  pub within : m ≤ k + n
  pub inside : a + l ≤ m

-- the same of an answer
abbrev pub Bounded : ℕ → ℕ → FirstField → Type 0
Bounded k n (Ok None) = Unit {0}
Bounded k n (Ok (Some f)) = Lies k n f.start f.len f.next
Bounded k n (Err e) = Unit {0}

bounded_by : (k n : ℕ) (t : Bool) (a l : ℕ) (q : Bool) (m : ℕ) → Lies k n a l m → Bounded k n (one_of (found_if t a l q m))
bounded_by k n true a l q m h = h
bounded_by k n false a l q m h = tt

bounded_more : (k n k' n' : ℕ) → k' ≤ k → k + n ≤ k' + n' → (x : FirstField) → Bounded k n x → Bounded k' n' x
bounded_more k n k' n' g h (Ok None) b = tt
bounded_more k n k' n' g h (Ok (Some f)) b = record { past = omega arith; within = omega arith; inside = b.inside }
bounded_more k n k' n' g h (Err e) b = tt

bare_bounded : (k b : ℕ) (s : List ℕ) → in_bare b ≡ true → Bounded k (length (b ∷ s)) (one_of (bare_at k (b ∷ s)))
unfolding bare_at
bare_bounded k b s h =
    let n = span in_bare (b ∷ s) in
    let e : n ≡ suc (span in_bare s) = span_some in_bare b s h in
    let i : n ≤ suc (length s) = span_le in_bare (b ∷ s) in
    bounded_by k (length (b ∷ s)) (ends_well (drop n (b ∷ s))) k n false (k + n) (record { past = omega arith; within = omega arith; inside = omega arith })

closed_bounded : (k n : ℕ) (w : List ℕ) → Bounded k (n + length w) (one_of (closed_at k n w))
unfolding closed_at
closed_bounded k n [] = tt
closed_bounded k n (b ∷ s) = bounded_by k (n + suc (length s)) (ends_well s) k n true (k + n + 1) (record { past = omega arith; within = omega arith; inside = omega arith })

quoted_bounded : (k : ℕ) (s : List ℕ) → Bounded k (length s) (one_of (quoted_at k s))
unfolding quoted_at
quoted_bounded k s =
    let n = span in_quotes s in
    bounded_more k (n + length (drop n s)) k (length s) (omega arith) (omega (arith, length-drop n s, span_le in_quotes s)) (one_of (closed_at k n (drop n s))) (closed_bounded k n (drop n s))

at_bounded : (k : ℕ) (s : List ℕ) → ((b : ℕ) (t : List ℕ) → s ≡ b ∷ t → eqb b 32 ≡ false) → Bounded k (length s) (field_at k s)
unfolding field_at
at_bounded k [] f = tt
at_bounded k (b ∷ s) f = go (eqb b 34) refl
  where
    go : (t : Bool) → eqb b 34 ≡ t → Bounded k (length (b ∷ s)) (one_of (cond t (quoted_at (k + 1) s) (bare_at k (b ∷ s))))
    go true h = bounded_more (k + 1) (length s) k (length (b ∷ s)) (omega arith) (omega arith) (one_of (quoted_at (k + 1) s)) (quoted_bounded (k + 1) s)
    go false h = bare_bounded k b s (simp (f b s refl, h))

-- the field passes something, and lies in the part
pub bounded : (s : List ℕ) → Bounded 0 (length s) (field_of s)
unfolding field_of
bounded s =
    let k = span is_space s in
    bounded_more k (length (drop k s)) 0 (length s) (omega arith) (omega (arith, length-drop k s, span_le is_space s)) (field_at k (drop k s))
    (at_bounded k (drop k s) (span_after is_space s))
