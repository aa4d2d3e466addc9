-- Laws of runs and of the first field, at the places where the code cites them.
use Prim.Native.Nat.{ℕ, suc, ◌+◌, ◌-◌, ◌^◌, ◌≤◌, ◌<◌}
use mathlib.Core.Path.{◌≡◌, refl, ap, ◌∙◌}
use mathlib.Core.Logic.{◌≢◌}
use mathlib.Core.List.{List, [], ◌∷◌}
use mathlib.Core.Bool.{Bool, true, false, cond, ◌&&◌}
use native.Mathlib.Numerals.{add-one}
use native.Mathlib.Omega.{arith}
use borrow.Author.Tests.{ne_eqb}
use lib.Dec.{eqb, eqb-zero-suc, eqb-suc-suc}
use lib.ListN.{length, take, drop, get_or, drop_of_length-le}
use lib.Seq.{drop-cons}
use Rattle.basics.proofs.Lists.{rest}
use Rattle.law.specs.Bytes.{all_of}
use Rattle.text_fields.specs.FirstField.{span, passes_of, run_len, ends_well, bare_at, closed_at, quoted_at, one_of, field_at, field_of}
use Rattle.text_fields.specs.declared.Run.{Run}
use Rattle.text_fields.specs.declared.Run.TheVariants.{Spaces, Bare, Quoted}
use Rattle.std.specs.Prelude.{Some, None, Result, Ok, Err}
use Rattle.text_fields.specs.declared.FoundField.{FoundField}
use Rattle.text_fields.specs.declared.BrokenQuoting.{BrokenQuoting}

-- a run is no longer than the list
pub span_le : (p : ℕ → Bool) (s : List ℕ) → span p s ≤ length s
unfolding span
span_le p [] = omega arith
span_le p (b ∷ s) = go (p b) (span_le p s)
  where
    go : (t : Bool) → span p s ≤ length s → cond t (suc (span p s)) 0 ≤ suc (length s)
    go true h = omega arith
    go false h = omega arith

module _ (p : ℕ → Bool) (s : List ℕ) (i : ℕ) where
  -- at a byte that passes the run goes on
  pub span_more : i < length s → p (get_or s i 0) ≡ true → span p (drop i s) ≡ span p (drop (i + 1) s) + 1
  unfolding span
  span_more h t = simp (add-one, drop-cons s i 0 h, t)

  -- at one that does not it ends
  pub span_stop : i < length s → p (get_or s i 0) ≡ false → span p (drop i s) ≡ 0
  unfolding span
  span_stop h t = simp (drop-cons s i 0 h, t)

  pub span_end : length s ≤ i → span p (drop i s) ≡ 0
  unfolding span
  span_end h = simp (drop_of_length-le s h)

-- a loop that passes a run: `i` bytes are passed, and what is left of the run starts at `i`
pub record Runs (p : ℕ → Bool) (s : List ℕ) (i : ℕ) : Type 0 where
  pub within : i ≤ length s
  pub left : span p s ≡ i + span p (drop i s)

module _ {p : ℕ → Bool} {s : List ℕ} where
  pub runs_start : Runs p s 0
  runs_start = record { within = omega arith; left = omega arith }

  pub runs_more : {i : ℕ} → Runs p s i → i < length s → p (get_or s i 0) ≡ true → Runs p s (i + 1)
  runs_more {i} r h t = record { within = omega arith; left = omega (arith, span_more p s i h t) }

  pub runs_stop : {i : ℕ} → Runs p s i → i < length s → p (get_or s i 0) ≡ false → i ≡ span p s
  runs_stop {i} r h t = omega (arith, span_stop p s i h t)

  pub runs_end : {i : ℕ} → Runs p s i → length s ≤ i → i ≡ span p s
  runs_end {i} r h = omega (arith, span_end p s i h)

-- a run is the whole list exactly where every byte passes
pub span_all : (p : ℕ → Bool) (s : List ℕ) → eqb (span p s) (length s) ≡ all_of p s
unfolding span all_of
span_all p [] = refl
span_all p (b ∷ s) = go (p b) (span_all p s)
  where
    go : (t : Bool) → eqb (span p s) (length s) ≡ all_of p s → eqb (cond t (suc (span p s)) 0) (suc (length s)) ≡ t && all_of p s
    go true h = eqb-suc-suc (span p s) (length s) ∙ h
    go false h = eqb-zero-suc (length s)

-- where a field may end
pub ends_end : (s : List ℕ) (n : ℕ) → length s ≤ n → true ≡ ends_well (drop n s)
unfolding ends_well
ends_end s n h = simp (drop_of_length-le s h)

pub ends_byte : (s : List ℕ) (n : ℕ) → n < length s → eqb (get_or s n 0) 32 ≡ ends_well (drop n s)
unfolding ends_well
ends_byte s n h = simp (drop-cons s n 0 h)

-- a bare field and a quoted one, from the length n of their run and from whether they end well
module _ (k : ℕ) (s : List ℕ) (n : ℕ) where
  pub bare_got : {b : Bool} → n ≡ run_len Bare s → b ≡ ends_well (drop n s) → b ≡ true → Ok (record { start = k; len = n; quoted = false; next = k + n }) ≡ bare_at k s
  unfolding bare_at
  bare_got r e t = simp (← r, ← e, t)

  pub bare_not : {b : Bool} → n ≡ run_len Bare s → b ≡ ends_well (drop n s) → b ≡ false → Err (record {}) ≡ bare_at k s
  unfolding bare_at
  bare_not r e t = simp (← r, ← e, t)

  pub quoted_open : n ≡ run_len Quoted s → length s ≤ n → Err (record {}) ≡ quoted_at k s
  unfolding quoted_at closed_at
  quoted_open r h = simp (← r, drop_of_length-le s h)

  pub quoted_got : {b : Bool} → n ≡ run_len Quoted s → n < length s → b ≡ ends_well (drop (n + 1) s) → b ≡ true
      → Ok (record { start = k; len = n; quoted = true; next = k + n + 1 }) ≡ quoted_at k s
  unfolding quoted_at closed_at
  quoted_got r h e t = simp (← r, drop-cons s n 0 h, ← add-one n, ← e, t)

  pub quoted_not : {b : Bool} → n ≡ run_len Quoted s → n < length s → b ≡ ends_well (drop (n + 1) s) → b ≡ false → Err (record {}) ≡ quoted_at k s
  unfolding quoted_at closed_at
  quoted_not r h e t = simp (← r, drop-cons s n 0 h, ← add-one n, ← e, t)

-- the first field, from the length k of the spaces before it
module _ (s : List ℕ) (k : ℕ) where
  pub field_none : k ≡ run_len Spaces s → length s ≤ k → Ok None ≡ field_of s
  unfolding field_of field_at
  field_none n h = simp (← n, drop_of_length-le s h)

  by_quoted : {r : Result FoundField BrokenQuoting} → k ≡ run_len Spaces s → k < length s → get_or s k 0 ≡ 34
      → r ≡ quoted_at (k + 1) (take (length s - (k + 1)) (drop (k + 1) s)) → one_of r ≡ field_of s
  unfolding field_of field_at
  by_quoted n h q e = ap one_of e ∙ simp (rest, ← n, drop-cons s k 0 h, q, add-one k)

  by_bare : {r : Result FoundField BrokenQuoting} → k ≡ run_len Spaces s → k < length s → get_or s k 0 ≢ 34
      → r ≡ bare_at k (take (length s - k) (drop k s)) → one_of r ≡ field_of s
  unfolding field_of field_at
  by_bare n h q e = ap one_of e ∙ rw rest (simp (← n, drop-cons s k 0 h, ne_eqb (get_or s k 0) 34 q))

  pub field_quoted : {f : FoundField} → k ≡ run_len Spaces s → k < length s → get_or s k 0 ≡ 34
      → Ok f ≡ quoted_at (k + 1) (take (length s - (k + 1)) (drop (k + 1) s)) → Ok (Some f) ≡ field_of s
  field_quoted n h q e = by_quoted n h q e

  pub field_quoted_not : {b : BrokenQuoting} → k ≡ run_len Spaces s → k < length s → get_or s k 0 ≡ 34
      → Err b ≡ quoted_at (k + 1) (take (length s - (k + 1)) (drop (k + 1) s)) → Err b ≡ field_of s
  field_quoted_not n h q e = by_quoted n h q e

  pub field_bare : {f : FoundField} → k ≡ run_len Spaces s → k < length s → get_or s k 0 ≢ 34
      → Ok f ≡ bare_at k (take (length s - k) (drop k s)) → Ok (Some f) ≡ field_of s
  field_bare n h q e = by_bare n h q e

  pub field_bare_not : {b : BrokenQuoting} → k ≡ run_len Spaces s → k < length s → get_or s k 0 ≢ 34
      → Err b ≡ bare_at k (take (length s - k) (drop k s)) → Err b ≡ field_of s
  field_bare_not n h q e = by_bare n h q e

pub ruleset field_steps = (field_none, field_quoted, field_quoted_not, field_bare, field_bare_not)

pub ruleset bare_steps = (bare_got, bare_not, span_le)

pub ruleset quoted_steps = (quoted_open, quoted_got, quoted_not)
