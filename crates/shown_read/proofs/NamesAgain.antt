-- Rule 12 along a trace: to look back through the whole file for each row is to keep the names that were passed.
use Prim.Native.Nat.{ℕ, ◌+◌, ◌≤◌}
use mathlib.Core.Path.{◌≡◌, refl, sym, ◌∙◌}
use mathlib.Core.List.{List, [], ◌∷◌}
use mathlib.Core.Bool.{Bool, true, false, cond, ◌&&◌, ◌||◌, or-false}
use native.Mathlib.Omega.{arith}
use borrow.Author.Tests.{lt-ltb, le-ltb}
use lib.IntN.{ℤ}
use Rattle.rows.specs.RowKinds.{leads_component}
use Rattle.rows_texts.specs.Names.{same_names}
use Rattle.basics.proofs.Bytes.{bytes_true, bytes_self}
use Rattle.basics.proofs.Bools.{not_both}
use Rattle.law.specs.Words.{same_bytes}
use Rattle.law.specs.Records.{Named}
use Rattle.order.specs.Automaton.{same_name, is_among}
use Rattle.order.specs.declared.State.{State}
use Rattle.walk.specs.Walks as walk
use Rattle.walk.specs.Walks.{Trace, trace_of}
use Rattle.rows_texts.specs.Texts.{same_texts}
use Rattle.names.specs.Names.{used_in, is_used, repeat_in}
use Rattle.shown_read.proofs.RowColumns.{name_at}
use Rattle.shown_read.proofs.Traced.{Follows, done, stop, skip, row, trace_follows}

-- the first line that names a component as one before it did, or 0; these names were passed
unfoldable pub again_in : List ℕ → List Named → Trace → ℕ
again_in file used (walk.done w) = 0
again_in file used (walk.stop n l) = 0
again_in file used (walk.skip l t) = again_in file used t
again_in file used (walk.row l x t) =
    cond (leads_component x && is_among (name_at file x) used) l (again_in file (cond (leads_component x) (name_at file x ∷ used) used) t)

-- the order of two texts does not matter, nor that of two names
bytes_turned : (a b : List ℕ) → same_bytes a b ≡ same_bytes b a
bytes_turned a b = go (same_bytes a b) (same_bytes b a) refl refl
  where
    go : (x y : Bool) → same_bytes a b ≡ x → same_bytes b a ≡ y → x ≡ y
    go true true h i = refl
    go true false h i = absurd (not_both (bytes_self a) (rw (sym (bytes_true a b h)) at i))
    go false true h i = absurd (not_both (bytes_self b) (rw (sym (bytes_true b a i)) at h))
    go false false h i = refl

names_turned : (file : List ℕ) (x y : List ℤ) → same_names file x file y ≡ same_name (name_at file y) (name_at file x)
unfolding same_names same_texts
names_turned file x y = rw (bytes_turned (name_at file x).geometry (name_at file y).geometry, bytes_turned (name_at file x).number (name_at file y).number)

or_turned : (a s u : Bool) → (a || (s || u)) ≡ ((s || a) || u)
or_turned true true u = refl
or_turned true false u = refl
or_turned false true u = refl
or_turned false false u = refl

module _ (file : List ℕ) where
  -- what the whole file has before line n is what was passed and what is left of it; k is the next line
  abbrev Kept : ℕ → List Named → Trace → Type 0
  Kept k used t = (n : ℕ) (x : List ℤ) → k ≤ n → used_in file n x (trace_of file) ≡ (is_among (name_at file x) used || used_in file n x t)

  module _ (used : List Named) (k : ℕ) (x : List ℤ) (t : Trace) where
    kept_row : Kept k used (walk.row k x t) → Kept (k + 1) (cond (leads_component x) (name_at file x ∷ used) used) t
    unfolding used_in
    kept_row i n y h = i n y (omega arith) ∙ rw (lt-ltb k n (omega arith)) (go (leads_component x))
      where
        go : (b : Bool) → (is_among (name_at file y) used || (b && same_names file x file y || used_in file n y t)) ≡ (is_among (name_at file y) (cond b (name_at file x ∷ used) used) || used_in file n y t)
        go true = rw (names_turned file x y) (or_turned (is_among (name_at file y) used) (same_name (name_at file y) (name_at file x)) (used_in file n y t))
        go false = refl

    -- none of what is left stands before line k
    kept_now : Kept k used (walk.row k x t) → is_used file k x ≡ is_among (name_at file x) used
    unfolding used_in
    kept_now i = i k x (omega arith) ∙ rw (le-ltb k k (omega arith)) (or-false (is_among (name_at file x) used))

  kept_skip : (used : List Named) (k : ℕ) (t : Trace) → Kept k used (walk.skip k t) → Kept (k + 1) used t
  unfolding used_in
  kept_skip used k t i n y h = i n y (omega arith) ∙ rw (lt-ltb k n (omega arith))

  repeat_kept : {st : State} {ls : List (List ℕ)} {k : ℕ} {t : Trace} → Follows file st ls k t → (used : List Named) → Kept k used t → repeat_in file t ≡ again_in file used t
  unfolding repeat_in again_in
  repeat_kept (done a b) used i = refl
  repeat_kept (stop e) used i = refl
  repeat_kept (skip {k = k} {t = t} e f) used i = repeat_kept f used (kept_skip used k t i)
  repeat_kept (row {k = k} {x = x} {t = t} e h f) used i =
      rw (kept_now used k x t i, repeat_kept f (cond (leads_component x) (name_at file x ∷ used) used) (kept_row used k x t i))

  pub repeat_again : repeat_in file (trace_of file) ≡ again_in file [] (trace_of file)
  repeat_again = repeat_kept (trace_follows file) [] (λ n x h. refl)
