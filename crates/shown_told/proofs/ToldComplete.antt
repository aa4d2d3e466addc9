-- Lines that spell a list which runs through are read through; so they are accepted exactly where they say a list, and they say one at most.
use Prim.Native.Nat.{ℕ}
use mathlib.Core.Path.{◌≡◌, refl, sym, subst}
use mathlib.Core.Logic.{◌↔◌}
use mathlib.Core.List.{List, [], ◌∷◌}
use mathlib.Core.Bool.{true}
use native.Mathlib.Omega.{arith}
use Rattle.law.specs.Lines.{Free}
use Rattle.law.specs.Values.{Rec}
use Rattle.law.specs.Kinds.{role_of}
use Rattle.law.specs.Fits.{under}
use Rattle.law.specs.declared.Rules.{Rules}
use Rattle.law.specs.declared.FileType.{FileType}
use Rattle.law.specs.Records.{Named}
use Rattle.order.specs.Automaton.{start, type_at, accepting, through, onward, run, admit, noted}
use Rattle.order.specs.declared.State.{State}
use Rattle.order.specs.declared.State.TheVariants.{Between as between, Inside as inside}
use Rattle.order.specs.declared.Reason.{Reason}
use Rattle.std.specs.Prelude.{Result, Ok as next, Err as stops}
use Rattle.shown_lists.proofs.FirstLine.{taken, later_through, through_same, accepted_exactly}
use Rattle.law.specs.LineSpelling.{Where, outside, leads_to, SpellsLines, end, free, line}
use Rattle.shown_told.specs.Told.{nothing, line_says, ended, told_from}
use Rattle.law.specs.Files.{LinesSay}
use Rattle.shown_told.proofs.LineComplete.{advanced, line_complete, nothing_complete}
use Rattle.shown_told.proofs.Respelling.{spelled_again}
use Rattle.shown_told.proofs.Readings.{Through, done, pass, take_in, through_told}
use Rattle.shown_told.proofs.ToldSound.{where_of, leads_where, told_sound}

module _ (v : Rules) where
  free_says : (used : List Named) (st : State) {l : List ℕ} → where_of st ≡ outside → Free l → line_says v used st l ≡ nothing
  free_says used (between g) e f = nothing_complete v used g f
  free_says used (inside g s p) e f = let z : ◌≡◌ {A = ℕ} 0 1 = cc in absurd (omega arith)

  pub spells_through : {u : FileType} {w : Where} {used : List Named} {st en : State} {rs : List Rec} {ls : List (List ℕ)} → SpellsLines (under v u) w rs ls
      → where_of st ≡ w → run v used st rs ≡ through en → Through v used st ls rs en
  spells_through {used = used} {st = st} end e h = subst (λ (x : State). Through v used st [] [] x) (through_same v h) done
  spells_through {used = used} {st = st} (free f m) e h = pass (free_says used st e f) (spells_through m e h)
  spells_through {u} {w} {used} {st} {en} (line {r = r} {rs = rs} {l = l} {ls = ls} p m) e h = go (admit v used st r) refl h (λ t. spells_through {used = noted v used r} {st = t} m)
    where
      go : (o : Result State Reason) → admit v used st r ≡ o → onward o (λ t. run v (noted v used r) t rs) ≡ through en
          → ((t : State) → where_of t ≡ leads_to (role_of v r.kind) w → run v (noted v used r) t rs ≡ through en → Through v (noted v used r) t ls rs en)
          → Through v used st (l ∷ ls) (r ∷ rs) en
      go (stops x) j h k = let z : ◌≡◌ {A = ℕ} 0 1 = cc in absurd (omega arith)
      go (next t) j h k =
          let g = (advanced v st t r (taken v used st t r j).moves).fits in
          let x : leads_to (role_of v r.kind) w ≡ where_of t = rw e at (leads_where v used st t r j) in
          take_in (line_complete v used st t r l j (spelled_again (type_at st) p g)) (k t (sym x) (later_through v _ en h))

  -- lines that say a list are told to the end, where they may end
  pub told_complete : {rs : List Rec} {ls : List (List ℕ)} → LinesSay v rs ls → (en : State) × (told_from v [] start ls ≡ ended rs en) × (accepting en ≡ true)
  told_complete {rs} s =
      let w = (accepted_exactly v rs).1 (s.permitted, s.distinct) in
      (w.0, through_told v (spells_through s.spelled refl w.1), w.2)

  -- so lines are accepted exactly where they say a list
  pub lines_accepted : (ls : List (List ℕ)) (rs : List Rec)
      → ((en : State) × (told_from v [] start ls ≡ ended rs en) × (accepting en ≡ true)) ↔ LinesSay v rs ls
  lines_accepted ls rs = (λ w. told_sound v ls rs w.0 w.1 w.2, told_complete)

  -- one list of records for lines
  pub lines_one_list : {rs qs : List Rec} {ls : List (List ℕ)} → LinesSay v rs ls → LinesSay v qs ls → rs ≡ qs
  lines_one_list a b =
      let x = (told_complete a).1 in
      let y = (told_complete b).1 in
      cc
