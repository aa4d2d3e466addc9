-- Laws of the earlier of two verdicts: that among some placements and that among others give the verdict among both.
use Prim.Native.Nat.{ℕ, ◌+◌, ◌≤◌, ◌<◌}
use mathlib.Core.Path.{◌≡◌, refl, ap, ◌∙◌}
use mathlib.Core.List.{List}
use mathlib.Core.Bool.{Bool, true, false, cond, ◌&&◌, ◌||◌}
use native.Mathlib.Omega.{arith}
use borrow.Author.Tests.{lt-ltb, le-ltb, eq-eqb, ne_eqb}
use lib.Dec.{ltb, eqb}
use lib.IntN.{ℤ}
use Rattle.rows.specs.RowKinds.{is_of_kind}
use Rattle.law.specs.Kinds.{part_kind}
use Rattle.walk.specs.Walks.{Trace, done, stop, skip, row, trace_of}
use Rattle.law.specs.declared.Verdict.{Verdict}
use Rattle.law.specs.Answers.{verdict}
use Rattle.judge.specs.Entries.{lacks_entry}
use Rattle.judge.specs.Verdicts.{placed_from, placed}
use Rattle.judge.specs.Parts.{among_from, among_of, sooner}

-- the earlier of two verdicts
module _ (a b : Verdict) where
  pub sooner_second : a.number ≡ 0 → b ≡ sooner a b
  unfolding sooner
  sooner_second h = rw (eq-eqb a.number 0 h)

  module _ (h : a.number ≡ 0 → ⊥) where
    pub sooner_first : b.number ≡ 0 → a ≡ sooner a b
    unfolding sooner
    sooner_first i = rw (ne_eqb a.number 0 h, eq-eqb b.number 0 i)

    module _ (i : b.number ≡ 0 → ⊥) where
      pub sooner_less : b.count < a.count → b ≡ sooner a b
      unfolding sooner
      sooner_less l = rw (ne_eqb a.number 0 h, ne_eqb b.number 0 i, lt-ltb b.count a.count l)

      pub sooner_not_less : a.count ≤ b.count → a ≡ sooner a b
      unfolding sooner
      sooner_not_less l = rw (ne_eqb a.number 0 h, ne_eqb b.number 0 i, le-ltb b.count a.count l)

-- a placement before all others is the earlier one
module _ (p : List ℤ → Bool) (board library : List ℕ) where
  first_stays : (k n : ℕ) (t : Trace) → k ≤ n → sooner (verdict 16 0 k 1) (among_from p board library n t) ≡ verdict 16 0 k 1
  unfolding sooner among_from
  first_stays k n (done w) h = refl
  first_stays k n (stop m l) h = refl
  first_stays k n (skip l t) h = first_stays k n t h
  first_stays k n (row l x t) h =
      go (is_of_kind x part_kind) (p x && lacks_entry board library x) (among_from p board library (n + 1) t) (among_from p board library n t)
      (first_stays k (n + 1) t (omega arith)) (first_stays k n t h)
    where
      go : (b c : Bool) (u v : Verdict) → sooner (verdict 16 0 k 1) u ≡ verdict 16 0 k 1 → sooner (verdict 16 0 k 1) v ≡ verdict 16 0 k 1
          → sooner (verdict 16 0 k 1) (cond b (cond c (verdict 16 0 (n + 1) 1) u) v) ≡ verdict 16 0 k 1
      go true true u v i j = rw (le-ltb (n + 1) k (omega arith))
      go true false u v i j = i
      go false c u v i j = j

  first_comes : (k n : ℕ) (t : Trace) → k ≤ n → sooner (among_from p board library n t) (verdict 16 0 k 1) ≡ verdict 16 0 k 1
  unfolding sooner among_from
  first_comes k n (done w) h = refl
  first_comes k n (stop m l) h = refl
  first_comes k n (skip l t) h = first_comes k n t h
  first_comes k n (row l x t) h =
      go (is_of_kind x part_kind) (p x && lacks_entry board library x) (among_from p board library (n + 1) t) (among_from p board library n t)
      (first_comes k (n + 1) t (omega arith)) (first_comes k n t h)
    where
      go : (b c : Bool) (u v : Verdict) → sooner u (verdict 16 0 k 1) ≡ verdict 16 0 k 1 → sooner v (verdict 16 0 k 1) ≡ verdict 16 0 k 1
          → sooner (cond b (cond c (verdict 16 0 (n + 1) 1) u) v) (verdict 16 0 k 1) ≡ verdict 16 0 k 1
      go true true u v i j = rw (lt-ltb k (n + 1) (omega arith))
      go true false u v i j = i
      go false c u v i j = j

soon_itself : (v : Verdict) → sooner v v ≡ v
unfolding sooner
soon_itself v = go (eqb v.number 0) (ltb v.count v.count)
  where
    go : (b c : Bool) → cond b v (cond b v (cond c v v)) ≡ v
    go true c = refl
    go false true = refl
    go false false = refl

-- the verdicts among some placements and among others give that among both
module _ (p q : List ℤ → Bool) (board library : List ℕ) where
  abbrev pub either : List ℤ → Bool
  either x = p x || q x

  soonest_from : (n : ℕ) (t : Trace) → sooner (among_from p board library n t) (among_from q board library n t) ≡ among_from either board library n t
  unfolding among_from
  soonest_from n (done w) = soon_itself (verdict 0 0 n 0)
  soonest_from n (stop m l) = soon_itself (verdict 0 0 n 0)
  soonest_from n (skip l t) = soonest_from n t
  soonest_from n (row l x t) =
      go (is_of_kind x part_kind) (p x) (q x) (lacks_entry board library x) (among_from p board library n t) (among_from q board library n t) (among_from either board library n t)
      (soonest_from n t) (soonest_from (n + 1) t)
    where
      go : (b c d e : Bool) (u v z : Verdict) → sooner u v ≡ z
          → sooner (among_from p board library (n + 1) t) (among_from q board library (n + 1) t) ≡ among_from either board library (n + 1) t
          → sooner (cond b (cond (c && e) (verdict 16 0 (n + 1) 1) (among_from p board library (n + 1) t)) u) (cond b (cond (d && e) (verdict 16 0 (n + 1) 1) (among_from q board library (n + 1) t)) v)
          ≡ cond b (cond ((c || d) && e) (verdict 16 0 (n + 1) 1) (among_from either board library (n + 1) t)) z
      go false c d e u v z i j = i
      go true true true true u v z i j = soon_itself (verdict 16 0 (n + 1) 1)
      go true true false true u v z i j = first_stays q board library (n + 1) (n + 1) t (omega arith)
      go true false true true u v z i j = first_comes p board library (n + 1) (n + 1) t (omega arith)
      go true false false true u v z i j = j
      go true true true false u v z i j = j
      go true true false false u v z i j = j
      go true false true false u v z i j = j
      go true false false false u v z i j = j

  pub soonest : sooner (among_of p board library) (among_of q board library) ≡ among_of either board library
  unfolding among_of
  soonest = soonest_from 0 (trace_of board)

-- among all placements it is the verdict on the board
all_from : (board library : List ℕ) (n : ℕ) (t : Trace) → among_from (λ x. true) board library n t ≡ placed_from board library n t
unfolding among_from placed_from
all_from board library n (done w) = refl
all_from board library n (stop m l) = refl
all_from board library n (skip l t) = all_from board library n t
all_from board library n (row l x t) = rw (all_from board library (n + 1) t, all_from board library n t)

module _ (p q : List ℤ → Bool) (e : (x : List ℤ) → p x ≡ q x) where
  same_tests : p ≡ q
  same_tests = λ i. λ x. e x i

  pub same_among : (board library : List ℕ) → among_of p board library ≡ among_of q board library
  same_among board library = ap (λ (r : List ℤ → Bool). among_of r board library) same_tests

pub all_placed : (p : List ℤ → Bool) (board library : List ℕ) → ((x : List ℤ) → p x ≡ true) → among_of p board library ≡ placed board library
unfolding among_of placed
all_placed p board library e = ap (λ (r : List ℤ → Bool). among_from r board library 0 (trace_of board)) (same_tests p (λ x. true) e) ∙ all_from board library 0 (trace_of board)
