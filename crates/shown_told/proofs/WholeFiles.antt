-- Whole files, by their lines: which are accepted and what they say, where the others first fail, and which only end too early.
use Prim.Native.Nat.{ℕ, ◌+◌, ◌<◌}
use mathlib.Core.Path.{◌≡◌}
use mathlib.Core.Logic.{◌↔◌}
use mathlib.Core.List.{List, []}
use mathlib.Core.Bool.{true, false}
use lib.ListN.{length, take}
use Rattle.text.specs.Lines.{lines_of}
use Rattle.text.proofs.LineSpelling.{lines_sound, lines_complete}
use Rattle.law.specs.Values.{Rec}
use Rattle.law.specs.declared.Rules.{Rules}
use Rattle.order.specs.Automaton.{start, accepting}
use Rattle.order.specs.declared.State.{State}
use Rattle.shown_told.specs.Told.{ended, broken, told_from}
use Rattle.law.specs.Files.{LinesSay, FileSays, Mendable}
use Rattle.shown_told.proofs.ToldComplete.{lines_accepted, lines_one_list}
use Rattle.shown_told.proofs.FirstLine.{lines_first, lines_too_early}

module _ (v : Rules) where
  -- what a file says, its lines say
  of_lines : {rs : List Rec} {file : List ℕ} → FileSays v rs file → LinesSay v rs (lines_of file)
  of_lines s = rw (lines_complete s.made) s.say

  -- a file is told to an end where it may end exactly if it says the list
  pub accepted_exactly : (file : List ℕ) (rs : List Rec)
      → ((en : State) × (told_from v [] start (lines_of file) ≡ ended rs en) × (accepting en ≡ true)) ↔ FileSays v rs file
  accepted_exactly file rs = (
    λ w. record { lines = lines_of file; made = lines_sound file; say = (lines_accepted v (lines_of file) rs).0 w },
    λ s. (lines_accepted v (lines_of file) rs).1 (of_lines s),
  )

  -- a file says one list
  pub one_list : {file : List ℕ} {rs qs : List Rec} → FileSays v rs file → FileSays v qs file → rs ≡ qs
  one_list a b = lines_one_list v (of_lines a) (of_lines b)

  -- its line k, counted from 0, is refused exactly where the lines before it can be mended and with it cannot
  pub first_line : (file : List ℕ) (k : ℕ)
      → ((n : ℕ) × (told_from v [] start (lines_of file) ≡ broken k n))
      ↔ ((k < length (lines_of file)) × Mendable v (take k (lines_of file)) × (Mendable v (take (k + 1) (lines_of file)) → ⊥))
  first_line file k = lines_first v (lines_of file) k (lines_sound file)

  -- a file that is told to an end where it may not end can be mended and says no list
  pub too_early : (file : List ℕ) (rs : List Rec) (en : State) → told_from v [] start (lines_of file) ≡ ended rs en → accepting en ≡ false
      → Mendable v (lines_of file) × ((qs : List Rec) → FileSays v qs file → ⊥)
  too_early file rs en e a =
      let w = lines_too_early v (lines_of file) rs en (lines_sound file) e a in
      (w.0, λ qs s. w.1 qs (of_lines s))
