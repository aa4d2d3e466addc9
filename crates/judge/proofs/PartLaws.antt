-- Laws of a board gone through in parts, as the code leaves them.
use Prim.Native.Nat.{ℕ, ◌+◌, ◌-◌, ◌/◌, ◌^◌, ◌≤◌, ◌<◌}
use mathlib.Core.Path.{◌≡◌, refl, sym, ap, subst, ◌∙◌}
use mathlib.Core.List.{List}
use mathlib.Core.Bool.{Bool, true, false, cond, not, ◌||◌}
use native.Mathlib.Omega.{arith}
use native.Mathlib.Nat.{mod-lt}
use borrow.Author.Tests.{lt-ltb, le-ltb, ltb-true, ltb-false, eqb-true, eqb-false}
use lib.Dec.{ltb, eqb}
use Rattle.rows_texts.specs.Names.{key_of}
use Rattle.law.specs.declared.Verdict.{Verdict}
use Rattle.judge_stock.specs.Stock.{part_of, is_in}
use Rattle.judge.specs.declared.parts.OfPart.{OfPart}
use Rattle.judge.specs.declared.parts.OfPart.TheVariants.{Told, Divided}
use Rattle.judge.specs.Verdicts.{placed}
use Rattle.judge.specs.Parts.{asked, is_from, asked_from, among_of, sooner, Several, Tells}
use Rattle.judge.proofs.SoonLaws.{either, soonest, same_among, all_placed}

-- a part and those behind it
module _ (m k : ℕ) where
  place_last : m ≤ k → eqb m k ≡ not (ltb m k)
  place_last l = go (eqb m k) refl
    where
      go : (a : Bool) → eqb m k ≡ a → a ≡ not (ltb m k)
      go true e = ap not (sym (le-ltb m k (let h = eqb-true m k e in omega arith)))
      go false e = ap not (sym (lt-ltb m k (let h = eqb-false m k e in omega arith)))

  place_next : (eqb m k || not (ltb m (k + 1))) ≡ not (ltb m k)
  place_next = go (eqb m k) (ltb m k) refl refl
    where
      go : (a b : Bool) → eqb m k ≡ a → ltb m k ≡ b → (a || not (ltb m (k + 1))) ≡ not b
      go true true e i = absurd (let h = eqb-true m k e in let j = ltb-true m k i in omega arith)
      go true false e i = refl
      go false true e i = ap not (lt-ltb m (k + 1) (let j = ltb-true m k i in omega arith))
      go false false e i = ap not (le-ltb m (k + 1) (let h = eqb-false m k e in let j = ltb-false m k i in omega arith))

part_below : (h parts : ℕ) → 2 ≤ parts → part_of h parts < parts
part_below h parts l = mod-lt (h / 17_592_186_044_416) {m = parts} (omega arith)

module _ (h parts k : ℕ) where
  from_last : parts ≤ k + 1 → is_in h parts k ≡ is_from h parts k
  unfolding is_in is_from
  from_last l = go (ltb parts 2) refl
    where
      go : (b : Bool) → ltb parts 2 ≡ b → cond b true (eqb (part_of h parts) k) ≡ cond b true (not (ltb (part_of h parts) k))
      go true e = refl
      go false e = place_last (part_of h parts) k (let i = part_below h parts (ltb-false parts 2 e) in omega arith)

  from_next : (is_in h parts k || is_from h parts (k + 1)) ≡ is_from h parts k
  unfolding is_in is_from
  from_next = go (ltb parts 2)
    where
      go : (b : Bool) → (cond b true (eqb (part_of h parts) k) || cond b true (not (ltb (part_of h parts) (k + 1)))) ≡ cond b true (not (ltb (part_of h parts) k))
      go true = refl
      go false = place_next (part_of h parts) k

  from_one : parts < 2 → is_from h parts k ≡ true
  unfolding is_from
  from_one l = rw (lt-ltb parts 2 l)

from_first : (h parts : ℕ) → is_from h parts 0 ≡ true
unfolding is_from
from_first h parts = go (ltb parts 2)
  where
    go : (b : Bool) → cond b true (not (ltb (part_of h parts) 0)) ≡ true
    go true = refl
    go false = ap not (le-ltb (part_of h parts) 0 (omega arith))

-- from the first part on there are all placements
pub parts_all : (parts : ℕ) (board library : List ℕ) (v : Verdict) → v ≡ among_of (asked_from parts 0 board) board library → v ≡ placed board library
unfolding asked_from
parts_all parts board library v e = e ∙ all_placed (asked_from parts 0 board) board library (λ x. from_first (key_of board x) parts)

-- what falls with each call: how many parts are left; one part, which may have to be divided, counts more than all of them
unfoldable pub left : ℕ → ℕ → ℕ
left parts part = cond (ltb parts 2) (2 ^ 64) (parts - part)

left_of : (parts part : ℕ) → 2 ≤ parts → left parts part ≡ parts - part
unfolding left
left_of parts part h = rw (le-ltb parts 2 h)

module _ (parts part : ℕ) (board library : List ℕ) (a : OfPart) (s : Tells parts part board library a) where
  module _ (n : ℕ) (e : a ≡ Divided n) where
    several : Several parts n
    several = subst (Tells parts part board library) e s

    pub divided_some : 0 < n
    divided_some = let h = several.more in omega arith

    pub divided_less : (t : ℕ) → left parts part ≡ t → left n 0 < t
    unfolding left
    divided_less t i =
        let h = several.more in
        let w = several.word in
        subst (λ (z : ℕ). left n 0 < z) i (rw (le-ltb n 2 (omega arith), lt-ltb parts 2 several.one) (let z : n - 0 < 2 ^ 64 = omega arith in z))

    pub divided_all : (v : Verdict) → v ≡ among_of (asked_from n 0 board) board library → v ≡ among_of (asked_from parts part board) board library
    unfolding asked_from
    divided_all v i =
        parts_all n board library v i
        ∙ sym (all_placed (asked_from parts part board) board library (λ x. from_one (key_of board x) parts part several.one))

  module _ (v : Verdict) (e : a ≡ Told v) where
    of_part : v ≡ among_of (asked parts part board) board library
    of_part = subst (Tells parts part board library) e s

    pub told_last : parts ≤ part + 1 → v ≡ among_of (asked_from parts part board) board library
    unfolding asked asked_from
    told_last h = of_part ∙ same_among (asked parts part board) (asked_from parts part board) (λ x. from_last (key_of board x) parts part h) board library

    pub told_next : (u r : Verdict) → u ≡ among_of (asked_from parts (part + 1) board) board library → r ≡ sooner v u → r ≡ among_of (asked_from parts part board) board library
    unfolding asked asked_from
    told_next u r i j =
        j
        ∙ ap (λ (z : Verdict). sooner z u) of_part
        ∙ ap (sooner (among_of (asked parts part board) board library)) i
        ∙ soonest (asked parts part board) (asked_from parts (part + 1) board) board library
        ∙ same_among (either (asked parts part board) (asked_from parts (part + 1) board) board library) (asked_from parts part board) (λ x. from_next (key_of board x) parts part) board library

pub next_less : (parts part t : ℕ) → left parts part ≡ t → part + 1 < parts → left parts (part + 1) < t
next_less parts part t i h =
    let e = left_of parts part (omega arith) in
    rw (left_of parts (part + 1) (omega arith)) (let z : parts - (part + 1) < t = omega arith in z)
