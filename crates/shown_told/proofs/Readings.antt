-- Lines that are read through, and lines of which one is refused, step by step: the same as what `told_from` answers.
use Prim.Native.Nat.{ℕ, zero, suc, ◌≤◌, ◌<◌}
use mathlib.Core.Path.{◌≡◌, refl, subst}
use mathlib.Core.List.{List, [], ◌∷◌, ◌++◌}
use native.Mathlib.Omega.{arith}
use lib.ListN.{length, take}
use Rattle.law.specs.Values.{Rec}
use Rattle.law.specs.declared.Rules.{Rules}
use Rattle.law.specs.Records.{Named}
use Rattle.order.specs.Automaton.{noted}
use Rattle.order.specs.declared.State.{State}
use Rattle.shown_told.specs.Told.{Said, nothing, says, wrong, line_says, Told, ended, broken, after_nothing, after_record, go_on, told_from}

module _ (v : Rules) where
  -- from a state, lines say records and lead to another state
  pub data Through : List Named → State → List (List ℕ) → List Rec → State → Type 0 where
    done : {used : List Named} {st : State} → Through used st [] [] st
    pass : {used : List Named} {st en : State} {l : List ℕ} {ls : List (List ℕ)} {rs : List Rec}
        → line_says v used st l ≡ nothing → Through used st ls rs en → Through used st (l ∷ ls) rs en
    take_in : {used : List Named} {st mid en : State} {l : List ℕ} {ls : List (List ℕ)} {r : Rec} {rs : List Rec}
        → line_says v used st l ≡ says r mid → Through (noted v used r) mid ls rs en → Through used st (l ∷ ls) (r ∷ rs) en

  -- line k, counted from 0, is refused with number n
  pub data Breaks : List Named → State → List (List ℕ) → ℕ → ℕ → Type 0 where
    here : {used : List Named} {st : State} {l : List ℕ} {ls : List (List ℕ)} {n : ℕ} → line_says v used st l ≡ wrong n → Breaks used st (l ∷ ls) zero n
    pass : {used : List Named} {st : State} {l : List ℕ} {ls : List (List ℕ)} {k n : ℕ}
        → line_says v used st l ≡ nothing → Breaks used st ls k n → Breaks used st (l ∷ ls) (suc k) n
    take_in : {used : List Named} {st mid : State} {l : List ℕ} {ls : List (List ℕ)} {r : Rec} {k n : ℕ}
        → line_says v used st l ≡ says r mid → Breaks (noted v used r) mid ls k n → Breaks used st (l ∷ ls) (suc k) n

  pub through_told : {used : List Named} {st en : State} {ls : List (List ℕ)} {rs : List Rec} → Through used st ls rs en → told_from v used st ls ≡ ended rs en
  unfolding told_from
  through_told done = refl
  through_told (pass e k) = rw (e, through_told k)
  through_told (take_in e k) = rw (e, through_told k)

  pub breaks_told : {used : List Named} {st : State} {ls : List (List ℕ)} {k n : ℕ} → Breaks used st ls k n → told_from v used st ls ≡ broken k n
  unfolding told_from
  breaks_told (here e) = rw e
  breaks_told (pass e k) = rw (e, breaks_told k)
  breaks_told (take_in e k) = rw (e, breaks_told k)

  -- what an answer says of the lines
  abbrev Says : List Named → State → List (List ℕ) → Told → Type 0
  Says used st ls (ended rs en) = Through used st ls rs en
  Says used st ls (broken k n) = Breaks used st ls k n

  told_says : (used : List Named) (st : State) (ls : List (List ℕ)) → Says used st ls (told_from v used st ls)
  unfolding told_from
  told_says used st [] = done
  told_says used st (l ∷ ls) = go (line_says v used st l) refl (told_says used st ls) (λ r t. told_says (noted v used r) t ls)
    where
      passed : (x : Told) → line_says v used st l ≡ nothing → Says used st ls x → Says used st (l ∷ ls) (after_nothing x)
      passed (ended rs en) e k = pass e k
      passed (broken k n) e m = pass e m

      taken : (r : Rec) (t : State) (x : Told) → line_says v used st l ≡ says r t → Says (noted v used r) t ls x → Says used st (l ∷ ls) (after_record r x)
      taken r t (ended rs en) e k = take_in e k
      taken r t (broken k n) e m = take_in e m

      go : (x : Said) → line_says v used st l ≡ x → Says used st ls (told_from v used st ls)
          → ((r : Rec) (t : State) → Says (noted v used r) t ls (told_from v (noted v used r) t ls))
          → Says used st (l ∷ ls) (go_on x (told_from v used st ls) (λ r t. told_from v (noted v used r) t ls))
      go nothing e k m = passed (told_from v used st ls) e k
      go (says r t) e k m = taken r t (told_from v (noted v used r) t ls) e (m r t)
      go (wrong n) e k m = here e

  module _ (used : List Named) (st : State) (ls : List (List ℕ)) where
    pub told_through : (rs : List Rec) (en : State) → told_from v used st ls ≡ ended rs en → Through used st ls rs en
    told_through rs en e = subst (Says used st ls) e (told_says used st ls)

    pub told_breaks : (k n : ℕ) → told_from v used st ls ≡ broken k n → Breaks used st ls k n
    told_breaks k n e = subst (Says used st ls) e (told_says used st ls)

  -- a line that is refused is one of the lines, and is refused whatever follows it
  pub breaks_within : {used : List Named} {st : State} {ls : List (List ℕ)} {k n : ℕ} → Breaks used st ls k n → k < length ls
  breaks_within (here e) = omega arith
  breaks_within (pass e k) = omega (arith, breaks_within k)
  breaks_within (take_in e k) = omega (arith, breaks_within k)

  pub still_breaks : {used : List Named} {st : State} {ls : List (List ℕ)} {k n : ℕ} (i : ℕ) (more : List (List ℕ)) → Breaks used st ls k n → k < i
      → Breaks used st (take i ls ++ more) k n
  still_breaks zero more b h = absurd (omega arith)
  still_breaks (suc i) more (here e) h = here e
  still_breaks (suc i) more (pass {ls = ls} e b) h = pass e (still_breaks {ls = ls} i more b (omega arith))
  still_breaks {used = used} (suc i) more (take_in {mid = mid} {ls = ls} {r = r} e b) h = take_in e (still_breaks {used = noted v used r} {st = mid} {ls = ls} i more b (omega arith))

  -- the first j lines are read through
  abbrev pub Front : List Named → State → List (List ℕ) → ℕ → Type 0
  Front used st ls j = (rs : List Rec) × (en : State) × Through used st (take j ls) rs en

  pub breaks_before : {used : List Named} {st : State} {ls : List (List ℕ)} {k n : ℕ} (j : ℕ) → Breaks used st ls k n → j ≤ k → Front used st ls j
  breaks_before {st = st} zero b h = ([], st, done)
  breaks_before (suc j) (here e) h = absurd (omega arith)
  breaks_before (suc j) (pass {ls = ls} e b) h = let w = breaks_before {ls = ls} j b (omega arith) in (w.0, w.1, pass e w.2)
  breaks_before {used = used} (suc j) (take_in {mid = mid} {ls = ls} {r = r} e b) h = let w = breaks_before {used = noted v used r} {st = mid} {ls = ls} j b (omega arith) in (r ∷ w.0, w.1, take_in e w.2)

  pub through_part : {used : List Named} {st en : State} {ls : List (List ℕ)} {rs : List Rec} (j : ℕ) → Through used st ls rs en → Front used st ls j
  through_part {st = st} zero k = ([], st, done)
  through_part {st = st} (suc j) done = ([], st, done)
  through_part (suc j) (pass {ls = ls} e k) = let w = through_part {ls = ls} j k in (w.0, w.1, pass e w.2)
  through_part {used = used} (suc j) (take_in {mid = mid} {ls = ls} {r = r} {rs = rs} e k) = let w = through_part {used = noted v used r} {st = mid} {ls = ls} {rs = rs} j k in (r ∷ w.0, w.1, take_in e w.2)
