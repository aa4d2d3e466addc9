-- Laws of the placements of a board, as the code leaves them.
use Prim.Native.Nat.{ℕ, ◌+◌, ◌^◌, ◌≤◌, ◌<◌}
use mathlib.Core.Path.{◌≡◌, refl, sym, ap, ◌∙◌}
use mathlib.Core.List.{List}
use mathlib.Core.Bool.{Bool, true, false, cond, ◌&&◌, true≢false, false≢true}
use native.Mathlib.Omega.{arith}
use borrow.Author.Tests.{lt-ltb}
use lib.IntN.{ℤ, pos}
use Rattle.rows.specs.RowKinds.{is_of_kind}
use Rattle.law.specs.Kinds.{part_kind}
use Rattle.rows_texts.specs.Names.{key_of}
use Rattle.basics.proofs.Bools.{and_right, and_none}
use Rattle.walk.specs.declared.Found.{Found}
use Rattle.walk.specs.declared.Found.TheVariants.{Row, Nothing, Refused}
use Rattle.walk.specs.declared.Turn.{Turn}
use Rattle.walk.specs.declared.steps.Turns.{Turns}
use Rattle.walk.specs.Turns.{Took, Over}
use Rattle.law.specs.Answers.{verdict}
use Rattle.walk.specs.Walks.{begun, stops_by, is_row, Trace, trace_by, trace_at}
use Rattle.walk.proofs.TurnsLaws.{Left, left_small, over_trace, took_left, took_past, took_trace}
use Rattle.law.specs.declared.Verdict.{Verdict}
use Rattle.judge_stock.specs.Stock.{is_in}
use Rattle.judge.specs.Entries.{is_of, lacks_entry, lacks}
use Rattle.judge.specs.Verdicts.{numbered}
use Rattle.judge.specs.Parts.{asked, missed, among_from, among_of}

-- placements counted
module _ (n : ℕ) (t : Turn) (x : Bool) (e : x ≡ is_of t (pos part_kind)) where
  pub one_more : x ≡ true → n + 1 ≡ numbered n t
  unfolding numbered
  one_more h = rw (sym e ∙ h)

  pub no_more : x ≡ false → n ≡ numbered n t
  unfolding numbered
  no_more h = rw (sym e ∙ h)

numbered_few : (n : ℕ) (t : Turn) → numbered n t ≤ n + 1
unfolding numbered
numbered_few n t = go (is_of t (pos part_kind))
  where
    go : (b : Bool) → cond b (n + 1) n ≤ n + 1
    go true = omega arith
    go false = omega arith

-- a placement of a part
module _ (parts part : ℕ) (board : List ℕ) (x : List ℤ) where
  pub asked_all : parts < 2 → true ≡ asked parts part board x
  unfolding asked is_in
  asked_all l = rw (lt-ltb parts 2 l)

  pub asked_by : (h : ℕ) (r : Bool) → r ≡ is_in h parts part → h ≡ key_of board x → r ≡ asked parts part board x
  unfolding asked
  asked_by h r i e = i ∙ rw e

module _ (p : List ℤ → Bool) (board library : List ℕ) (t : Turn) where
  pub missed_none : (a : Bool) → a ≡ is_of t (pos part_kind) → a ≡ false → false ≡ missed p board library t
  unfolding missed lacks
  missed_none a e h = sym (and_none (p t.row) (is_of t (pos part_kind) && lacks_entry board library t.row) (rw (sym e ∙ h)))

  module _ (b : Bool) (i : b ≡ p t.row) where
    pub missed_not : b ≡ false → false ≡ missed p board library t
    unfolding missed
    missed_not h = rw (sym i ∙ h)

    pub missed_by : (r : Bool) → b ≡ true → r ≡ lacks board library t → r ≡ missed p board library t
    unfolding missed
    missed_by r h e = rw (sym i ∙ h) e

-- placements, line by line
module _ (p : List ℤ → Bool) (board library : List ℕ) (n l : ℕ) (y : List ℤ) (t : Trace) where
  abbrev missed_in : Found → Bool
  missed_in f = p y && ((is_row f && is_of_kind y part_kind) && lacks_entry board library y)

  abbrev number_in : Found → ℕ
  number_in f = cond (is_row f && is_of_kind y part_kind) (n + 1) n

  abbrev onward : Bool → Verdict
  onward b = cond b (cond (p y && lacks_entry board library y) (verdict 16 0 (n + 1) 1) (among_from p board library (n + 1) t)) (among_from p board library n t)

  among_on : (f : Found) → stops_by f ≡ false → missed_in f ≡ false → among_from p board library n (trace_by f l y t) ≡ among_from p board library (number_in f) t
  unfolding among_from
  among_on Row h g = go (is_of_kind y part_kind) g
    where
      go : (b : Bool) → (p y && (b && lacks_entry board library y)) ≡ false → onward b ≡ among_from p board library (cond b (n + 1) n) t
      go true i = rw i
      go false i = refl
  among_on Nothing h g = refl
  among_on (Refused m) h g = absurd (true≢false h)

  among_here : (f : Found) → missed_in f ≡ true → among_from p board library n (trace_by f l y t) ≡ verdict 16 0 (number_in f) 1
  unfolding among_from
  among_here Row g = go (is_of_kind y part_kind) g
    where
      go : (b : Bool) → (p y && (b && lacks_entry board library y)) ≡ true → onward b ≡ verdict 16 0 (cond b (n + 1) n) 1
      go true i = rw i
      go false i = absurd (false≢true (and_right (p y) false i))
  among_here Nothing g = absurd (false≢true (and_right (p y) false g))
  among_here (Refused m) g = absurd (false≢true (and_right (p y) false g))

  among_none : (f : Found) → stops_by f ≡ true → among_from p board library n (trace_by f l y t) ≡ verdict 0 0 n 0
  unfolding among_from
  among_none Row h = absurd (false≢true h)
  among_none Nothing h = absurd (false≢true h)
  among_none (Refused m) h = refl

-- what is left of a board, behind n placements, gives the verdict of the whole
pub record Placing (p : List ℤ → Bool) (board library : List ℕ) (v : Turns) (n : ℕ) : Type 0 where
  pub of : Left board v
  pub few : n ≤ v.walk.at
  pub left : among_from p board library n (trace_at board v.walk) ≡ among_of p board library

pub place_start : (p : List ℤ → Bool) (board library : List ℕ) (v : Turns) → v.file.now ≡ board → v.walk ≡ begun → Placing p board library v 0
unfolding among_of
place_start p board library v f e = record { of = record { of = f }; few = omega arith; left = rw e }

module _ (p : List ℤ → Bool) (board library : List ℕ) (v : Turns) (n : ℕ) (s : Placing p board library v n) where
  pub place_count : n < 2 ^ 62
  place_count = omega (arith, s.few, left_small board v s.of)

  module _ (t : Turn) (u : Turns) (k : Took v t u) (y : Bool) (i : y ≡ stops_by t.found) where
    left_behind : among_from p board library n (trace_by t.found t.line t.row (trace_at board u.walk)) ≡ among_of p board library
    left_behind = sym (ap (among_from p board library n) (took_trace board v s.of t u k)) ∙ s.left

    pub place_stop : (r : Verdict) → y ≡ true → r ≡ verdict 0 0 n 0 → r ≡ among_of p board library
    place_stop r j h = h ∙ sym (among_none p board library n t.line t.row (trace_at board u.walk) t.found (sym i ∙ j)) ∙ left_behind

    module _ (m : ℕ) (c : m ≡ numbered n t) (z : Bool) (d : z ≡ missed p board library t) where
      pub place_found : (x : ℕ) (r : Verdict) → z ≡ true → x ≡ 16 → r ≡ verdict x 0 m 1 → r ≡ among_of p board library
      unfolding missed lacks is_of numbered
      place_found x r j q h =
          h ∙ rw q (ap (λ (a : ℕ). verdict 16 0 a 1) c ∙ sym (among_here p board library n t.line t.row (trace_at board u.walk) t.found (sym d ∙ j)) ∙ left_behind)

      pub place_more : y ≡ false → z ≡ false → Placing p board library u m
      unfolding missed lacks is_of numbered
      place_more j q =
          let a = took_past board v s.of t u k in
          let b = s.few in
          let f : m ≤ n + 1 = rw c (numbered_few n t) in
          record {
            of = took_left board v s.of t u k;
            few = omega arith;
            left =
                ap (λ (a : ℕ). among_from p board library a (trace_at board u.walk)) c
                ∙ sym (among_on p board library n t.line t.row (trace_at board u.walk) t.found (sym i ∙ j) (sym d ∙ q))
                ∙ left_behind;
          }

  pub place_over : (u : Turns) (r : Verdict) → Over v u → r ≡ verdict 0 0 n 0 → r ≡ among_of p board library
  unfolding among_from
  place_over u r o e = e ∙ sym (ap (among_from p board library n) (over_trace board v s.of u o)) ∙ s.left
