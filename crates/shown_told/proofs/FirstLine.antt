-- The first line that is refused is the first after which nothing can be mended; lines that are not refused and not accepted only end too early.
use Prim.Native.Nat.{ℕ, ◌+◌, ◌≤◌, ◌<◌}
use mathlib.Core.Path.{◌≡◌, refl, sym, ap, ◌∙◌}
use mathlib.Core.Logic.{◌↔◌}
use mathlib.Core.List.{List, []}
use mathlib.Core.Bool.{false}
use native.Mathlib.Omega.{arith}
use native.Mathlib.Decide.{dec_lt}
use lib.ListN.{length, take}
use Rattle.basics.proofs.Bools.{not_both}
use Rattle.law.specs.Lines.{File}
use Rattle.law.specs.Values.{Rec}
use Rattle.law.specs.declared.Rules.{Rules}
use Rattle.order.specs.Automaton.{start, accepting}
use Rattle.order.specs.declared.State.{State}
use Rattle.shown_told.specs.Told.{Told, ended, broken, told_from}
use Rattle.law.specs.Files.{LinesSay, Mendable}
use Rattle.shown_told.proofs.Readings.{Breaks, breaks_told, told_through, told_breaks, breaks_within, still_breaks, breaks_before, through_part}
use Rattle.shown_told.proofs.ToldComplete.{told_complete}
use Rattle.shown_told.proofs.Mending.{Lines, file_lines, lines_take, through_mendable}

ended_broken : {rs : List Rec} {en : State} {k n : ℕ} → ended rs en ≡ broken k n → ⊥
ended_broken {rs} {en} {k} {n} e = let z : ◌≡◌ {A = ℕ} 0 1 = cc in omega arith

module _ (v : Rules) (ls : List (List ℕ)) where
  -- nothing that begins with a refused line says a permitted list
  breaks_dead : {k n : ℕ} (i : ℕ) → Breaks v [] start ls k n → k < i → Mendable v (take i ls) → ⊥
  breaks_dead i b h m = ended_broken (sym (told_complete v m.say).1 ∙ breaks_told v (still_breaks v i m.more b h))

  module _ (h : Lines ls) where
    -- and whatever ends before it can be mended
    breaks_alive : {k n : ℕ} (j : ℕ) → Breaks v [] start ls k n → j ≤ k → Mendable v (take j ls)
    breaks_alive j b l = through_mendable v (lines_take j h) (breaks_before v j b l).2

    abbrev First : ℕ → Type 0
    First k = (k < length ls) × Mendable v (take k ls) × (Mendable v (take (k + 1) ls) → ⊥)

    is_first : (k : ℕ) (x : Told) → told_from v [] start ls ≡ x → First k → (n : ℕ) × (x ≡ broken k n)
    is_first k (ended rs en) e (l, y, d) = absurd (d (through_mendable v (lines_take (k + 1) h) (through_part v (k + 1) (told_through v [] start ls rs en e)).2))
    is_first k (broken j n) e (l, y, d) = let b = told_breaks v [] start ls j n e in elim (dec_lt j k) [
      | yes a ↦ absurd (breaks_dead k b a y)
      | no a ↦ elim (dec_lt k j) [
        | yes c ↦ absurd (d (breaks_alive (k + 1) b (omega arith)))
        | no c ↦ (n, ap (λ (i : ℕ). broken i n) (omega arith))
      ]
    ]

    first_is : (k n : ℕ) → Breaks v [] start ls k n → First k
    first_is k n b = (breaks_within v b, breaks_alive k b (omega arith), breaks_dead (k + 1) b (omega arith))

  -- line k, counted from 0, is refused exactly where the lines before it can be mended and with it cannot
  pub lines_first : {file : List ℕ} (k : ℕ) → File ls file
      → ((n : ℕ) × (told_from v [] start ls ≡ broken k n)) ↔ ((k < length ls) × Mendable v (take k ls) × (Mendable v (take (k + 1) ls) → ⊥))
  lines_first k f = (
    λ w. first_is (file_lines f) k w.0 (told_breaks v [] start ls k w.0 w.1),
    is_first (file_lines f) k (told_from v [] start ls) refl,
  )

  -- lines that are told to the end can be mended
  pub told_mendable : {file : List ℕ} (rs : List Rec) (en : State) → File ls file → told_from v [] start ls ≡ ended rs en → Mendable v ls
  told_mendable rs en f e = through_mendable v (file_lines f) (told_through v [] start ls rs en e)

  -- where they may not end, that is all that is wrong
  pub lines_too_early : {file : List ℕ} (rs : List Rec) (en : State) → File ls file → told_from v [] start ls ≡ ended rs en → accepting en ≡ false
      → Mendable v ls × ((qs : List Rec) → LinesSay v qs ls → ⊥)
  lines_too_early rs en f e a = (told_mendable rs en f e, never)
    where
      never : (qs : List Rec) → LinesSay v qs ls → ⊥
      never qs s =
          let w = told_complete v s in
          let x = w.1 in
          let z : w.0 ≡ en = cc in
          not_both (rw z at w.2) a
