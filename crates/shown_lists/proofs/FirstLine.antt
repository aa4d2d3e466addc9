-- The first record that is refused is the first after which nothing can be mended.
use Prim.Native.Nat.{ℕ, zero, suc, ◌+◌, ◌≤◌, ◌<◌}
use mathlib.Core.Path.{◌≡◌, refl, sym, ap, ◌∙◌, subst}
use mathlib.Core.Logic.{◌↔◌}
use mathlib.Core.List.{List, [], ◌∷◌, ◌++◌, append-nil}
use mathlib.Core.Bool.{Bool, true, false, cond, ◌&&◌, false≢true}
use native.Mathlib.Omega.{arith}
use native.Mathlib.Decide.{dec_lt}
use lib.ListN.{length, take}
use Rattle.law.specs.Files.{titled}
use Rattle.basics.proofs.Bools.{not_both}
use Rattle.law.specs.Values.{Rec}
use Rattle.law.specs.declared.Rules.{Rules}
use Rattle.law.specs.Records.{Named, names_a_component, name_in}
use Rattle.order.specs.Automaton.{start, advance, accepting, accepted, accepts, is_among, repeats, noted, unless, admit, Ran, through, stopped, later, onward, run, type_at}
use Rattle.order.specs.declared.State.{State}
use Rattle.order.specs.declared.Reason.{Reason}
use Rattle.std.specs.Prelude.{Result, Ok as next, Err as refused}
use Rattle.law.specs.Lists.{Permitted, names_of, AllDiffer, Distinct}
use Rattle.shown_lists.proofs.Names.{not_among, among_false, Unused, unused_none, unused_one, unused_differ, differ_unused, letters, letters_text, longest, new_last, names_append}
use Rattle.shown_lists.proofs.Sound.{accepted_permitted}
use Rattle.shown_lists.proofs.CompletePoints.{Leads, here, step, leads_accepts}
use Rattle.shown_lists.proofs.Complete.{permitted_accepted, permitted_ends}
use Rattle.shown_lists.proofs.Sane.{Sane, sane_between, SaneOf, sane_advance}
use Rattle.shown_lists.proofs.Viable.{Ending, quietly, with_one, ending}

module _ (v : Rules) where
  -- one record taken, with its name if it has one
  pub record Taken (used : List Named) (st mid : State) (r : Rec) : Type 0 where
    pub moves : advance v st r ≡ next mid
    pub is_new : repeats v used r ≡ false

  pub taken : (used : List Named) (st mid : State) (r : Rec) → admit v used st r ≡ next mid → Taken used st mid r
  taken used st mid r = go (repeats v used r) (advance v st r) refl refl
    where
      go : (b : Bool) (o : Result State Reason) → repeats v used r ≡ b → advance v st r ≡ o → unless b o ≡ next mid → Taken used st mid r
      go b (refused e) p q h = let z : ◌≡◌ {A = ℕ} 0 1 = cc in absurd (omega arith)
      go true (next t) p q h = let z : ◌≡◌ {A = ℕ} 0 1 = cc in absurd (omega arith)
      go false (next t) p q h = record { moves = q ∙ h; is_new = p }

  pub unused_on : (used : List Named) (r : Rec) (rs : List Rec) → repeats v used r ≡ false → Unused (noted v used r) (names_of v rs)
      → Unused used (names_of v (r ∷ rs))
  unused_on used r rs = go (names_a_component v r.kind)
    where
      go : (b : Bool) → (b && is_among (name_in r) used) ≡ false → Unused (cond b (name_in r ∷ used) used) (names_of v rs)
          → Unused used (cond b (name_in r ∷ names_of v rs) (names_of v rs))
      go true h u = unused_one (not_among _ _ h) u
      go false h u = u

  pub later_through : (x : Ran) (en : State) → later x ≡ through en → x ≡ through en
  later_through (through t) en h = h
  later_through (stopped k e) en h = let z : ◌≡◌ {A = ℕ} 0 1 = cc in absurd (omega arith)

  pub through_same : {st en : State} → through st ≡ through en → st ≡ en
  through_same {st} {en} h = cc

  through_leads : (rs : List Rec) (used : List Named) (st en : State) → run v used st rs ≡ through en → Leads v st rs en × Unused used (names_of v rs)
  through_leads [] used st en h = (subst (λ (x : State). Leads v st [] x) (through_same h) here, unused_none)
  through_leads (r ∷ rs) used st en h = go (λ t. through_leads rs (noted v used r) t en) (admit v used st r) refl h
    where
      go : ((t : State) → run v (noted v used r) t rs ≡ through en → Leads v t rs en × Unused (noted v used r) (names_of v rs))
          → (o : Result State Reason) → admit v used st r ≡ o → onward o (λ t. run v (noted v used r) t rs) ≡ through en → Leads v st (r ∷ rs) en × Unused used (names_of v (r ∷ rs))
      go ih (refused e) q h = let z : ◌≡◌ {A = ℕ} 0 1 = cc in absurd (omega arith)
      go ih (next t) q h =
          let k = taken used st t r q in
          let w = ih t (later_through _ _ h) in
          (step k.moves w.0, unused_on used r rs k.is_new w.1)

  pub unused_back : (used : List Named) (r : Rec) (rs : List Rec) → Unused used (names_of v (r ∷ rs))
      → (repeats v used r ≡ false) × Unused (noted v used r) (names_of v rs)
  unused_back used r rs = go (names_a_component v r.kind)
    where
      go : (b : Bool) → Unused used (cond b (name_in r ∷ names_of v rs) (names_of v rs))
          → ((b && is_among (name_in r) used) ≡ false) × Unused (cond b (name_in r ∷ used) used) (names_of v rs)
      go true (unused_one n u) = (among_false n, u)
      go false u = (refl, u)

  leads_through : {st en : State} {rs : List Rec} (used : List Named) → Leads v st rs en → Unused used (names_of v rs) → run v used st rs ≡ through en
  leads_through used here u = refl
  leads_through used (step {r = r} {rs = rs} e k) u =
      let w = unused_back used r rs u in
      rw (e, w.0, leads_through (noted v used r) k w.1)

  accepts_leads : (rs : List Rec) (st : State) → accepts v st rs ≡ true → (en : State) × Leads v st rs en × (accepting en ≡ true)
  accepts_leads [] st h = (st, here, h)
  accepts_leads (r ∷ rs) st h = go (accepts_leads rs) (advance v st r) refl h
    where
      go : ((t : State) → accepts v t rs ≡ true → (en : State) × Leads v t rs en × (accepting en ≡ true))
          → (o : Result State Reason) → advance v st r ≡ o → accepted o (λ t. accepts v t rs) ≡ true → (en : State) × Leads v st (r ∷ rs) en × (accepting en ≡ true)
      go ih (refused e) q h = absurd (false≢true h)
      go ih (next t) q h = let w = ih t h in (w.0, step q w.1, w.2)

  leads_accepted : {st en : State} {rs : List Rec} → Leads v st rs en → accepting en ≡ true → accepts v st rs ≡ true
  leads_accepted l e = let x = leads_accepts v l [] in (rw append-nil at x) ∙ e

  pub leads_one : {st a b : State} {rs : List Rec} → Leads v st rs a → Leads v st rs b → a ≡ b
  leads_one here here = refl
  leads_one {b = b} (step {mid = m} {rs = rs} e k) (step {mid = n} d l) = let z : n ≡ m = cc in leads_one k (subst (λ (x : State). Leads v x rs b) z l)

  -- the state in which a run through a permitted list ends has the type in its title line
  pub run_typed : {rs : List Rec} {en : State} → Permitted v rs → run v [] start rs ≡ through en → type_at en ≡ titled rs
  run_typed {rs} {en} p h = let e = permitted_ends v p in ap type_at (leads_one (through_leads rs [] start en h).0 e.is_led) ∙ e.typed

  -- the run goes through and may end there
  abbrev pub Accepted : List Rec → Type 0
  Accepted rs = (en : State) × (run v [] start rs ≡ through en) × (accepting en ≡ true)

  pub accepted_exactly : (rs : List Rec) → Accepted rs ↔ (Permitted v rs × Distinct v rs)
  accepted_exactly rs = (
    λ a. let w = through_leads rs [] start a.0 a.1 in (accepted_permitted v rs (leads_accepted w.0 a.2), unused_differ w.1),
    λ p. let w = accepts_leads rs start (permitted_accepted v p.0) in (w.0, leads_through [] w.1 (differ_unused p.1), w.2),
  )

  abbrev pub Viable : List Rec → Type 0
  Viable rs = (more : List Rec) × Permitted v (rs ++ more) × Distinct v (rs ++ more)

  pub sane_leads : {st en : State} {rs : List Rec} → Leads v st rs en → Sane v st → Sane v en
  sane_leads here h = h
  sane_leads (step {r = r} e k) h = sane_leads k (subst (SaneOf v) e (sane_advance v r h))

  permitted_on : {rs : List Rec} {en : State} → Leads v start rs en → (ms : List Rec) → accepts v en ms ≡ true → Permitted v (rs ++ ms)
  permitted_on {rs} l ms h = accepted_permitted v (rs ++ ms) (leads_accepts v l ms ∙ h)

  differ_on : (rs ms : List Rec) {ns : List Named} → names_of v ms ≡ ns → AllDiffer (names_of v rs ++ ns) → Distinct v (rs ++ ms)
  differ_on rs ms e d = rw (names_append v rs ms, e) d

  pub through_viable : (rs : List Rec) (en : State) → run v [] start rs ≡ through en → Viable rs
  through_viable rs en h =
      let w = through_leads rs [] start en h in
      let m = longest (names_of v rs) in
      let d = unused_differ w.1 in
      go w.0 d (ending v (letters m) (letters_text m) (sane_leads w.0 sane_between))
    where
      go : Leads v start rs en → AllDiffer (names_of v rs) → Ending v (letters (longest (names_of v rs))) (letters_text (longest (names_of v rs))) en
          → Viable rs
      go l d (quietly q) = (q.rest, permitted_on l q.rest q.ends, differ_on rs q.rest q.nameless (rw append-nil d))
      go l d (with_one ms a n) = (ms, permitted_on l ms a, differ_on rs ms n (new_last (longest (names_of v rs)) _ (omega arith) d))

  later_not_first : (x : Ran) (e : Reason) → later x ≡ stopped 0 e → ⊥
  later_not_first (through t) e h = let z : ◌≡◌ {A = ℕ} 0 1 = cc in omega arith
  later_not_first (stopped j f) e h = let z : suc j ≡ 0 = cc in omega arith

  later_stopped : (x : Ran) (k : ℕ) (e : Reason) → later x ≡ stopped (suc k) e → x ≡ stopped k e
  later_stopped (through t) k e h = let z : ◌≡◌ {A = ℕ} 0 1 = cc in absurd (omega arith)
  later_stopped (stopped j f) k e h = let i : suc j ≡ suc k = cc in let y : j ≡ k = omega arith in let g : f ≡ e = cc in cc

  never_through : {k : ℕ} {e : Reason} {st : State} → through st ≡ stopped k e → ⊥
  never_through {k} {e} {st} h = let z : ◌≡◌ {A = ℕ} 0 1 = cc in omega arith

  -- it is refused whatever follows it
  still_stopped : (rs : List Rec) (used : List Named) (st : State) (k i : ℕ) (e : Reason) (more : List Rec) → run v used st rs ≡ stopped k e → k < i
      → run v used st (take i rs ++ more) ≡ stopped k e
  still_stopped rs used st k zero e more h l = absurd (omega arith)
  still_stopped [] used st k (suc i) e more h l = absurd (never_through h)
  still_stopped (r ∷ rs) used st k (suc i) e more h l = go k (admit v used st r) (λ t j. still_stopped rs (noted v used r) t j i e more) h l
    where
      go : (k : ℕ) (o : Result State Reason)
          → ((t : State) (j : ℕ) → run v (noted v used r) t rs ≡ stopped j e → j < i → run v (noted v used r) t (take i rs ++ more) ≡ stopped j e)
          → onward o (λ t. run v (noted v used r) t rs) ≡ stopped k e → k < suc i → onward o (λ t. run v (noted v used r) t (take i rs ++ more)) ≡ stopped k e
      go k (refused f) ih h l = h
      go zero (next t) ih h l = absurd (later_not_first (run v (noted v used r) t rs) e h)
      go (suc j) (next t) ih h l = ap later (ih t j (later_stopped _ j e h) (omega arith))

  stopped_within : (rs : List Rec) (used : List Named) (st : State) (k : ℕ) (e : Reason) → run v used st rs ≡ stopped k e → k < length rs
  stopped_within [] used st k e h = absurd (never_through h)
  stopped_within (r ∷ rs) used st zero e h = omega arith
  stopped_within (r ∷ rs) used st (suc k) e h = go (admit v used st r) (λ t. stopped_within rs (noted v used r) t k e) h
    where
      go : (o : Result State Reason) → ((t : State) → run v (noted v used r) t rs ≡ stopped k e → k < length rs)
          → onward o (λ t. run v (noted v used r) t rs) ≡ stopped (suc k) e → suc k < length (r ∷ rs)
      go (refused f) ih h = let z : ◌≡◌ {A = ℕ} 0 (suc k) = cc in absurd (omega arith)
      go (next t) ih h = omega (arith, ih t (later_stopped _ k e h))

  -- what stands before it goes through
  Through : List Named → State → List Rec → Type 0
  Through used st rs = (en : State) × (run v used st rs ≡ through en)

  through_before : (rs : List Rec) (used : List Named) (st : State) (j k : ℕ) (e : Reason) → run v used st rs ≡ stopped k e → j ≤ k
      → Through used st (take j rs)
  unfolding Through
  through_before rs used st zero k e h l = (st, refl)
  through_before [] used st (suc j) k e h l = absurd (never_through h)
  through_before (r ∷ rs) used st (suc j) k e h l = go k (admit v used st r) (λ t i. through_before rs (noted v used r) t j i e) h l
    where
      go : (k : ℕ) (o : Result State Reason) → ((t : State) (i : ℕ) → run v (noted v used r) t rs ≡ stopped i e → j ≤ i → Through (noted v used r) t (take j rs))
          → onward o (λ t. run v (noted v used r) t rs) ≡ stopped k e → suc j ≤ k → (en : State) × (onward o (λ t. run v (noted v used r) t (take j rs)) ≡ through en)
      go zero o ih h l = absurd (omega arith)
      go (suc i) (refused f) ih h l = let z : ◌≡◌ {A = ℕ} 0 (suc i) = cc in absurd (omega arith)
      go (suc i) (next t) ih h l = let w = ih t i (later_stopped _ i e h) (omega arith) in (w.0, ap later w.1)

  through_part : (rs : List Rec) (used : List Named) (st en : State) (j : ℕ) → run v used st rs ≡ through en → Through used st (take j rs)
  unfolding Through
  through_part rs used st en zero h = (st, refl)
  through_part [] used st en (suc j) h = (st, refl)
  through_part (r ∷ rs) used st en (suc j) h = go (admit v used st r) (λ t. through_part rs (noted v used r) t en j) h
    where
      go : (o : Result State Reason) → ((t : State) → run v (noted v used r) t rs ≡ through en → Through (noted v used r) t (take j rs))
          → onward o (λ t. run v (noted v used r) t rs) ≡ through en → (en : State) × (onward o (λ t. run v (noted v used r) t (take j rs)) ≡ through en)
      go (refused f) ih h = absurd (never_through (sym h))
      go (next t) ih h = let w = ih t (later_through _ _ h) in (w.0, ap later w.1)

  -- no continuation of a list with a refused record is permitted
  pub stopped_dead : (rs : List Rec) (k i : ℕ) (e : Reason) → run v [] start rs ≡ stopped k e → k < i → Viable (take i rs) → ⊥
  stopped_dead rs k i e h l (more, p, d) =
      let w = (accepted_exactly (take i rs ++ more)).1 (p, d) in
      never_through (sym w.1 ∙ still_stopped rs [] start k i e more h l)

  -- and every list before it has one
  pub stopped_alive : (rs : List Rec) (j k : ℕ) (e : Reason) → run v [] start rs ≡ stopped k e → j ≤ k → Viable (take j rs)
  unfolding Through
  stopped_alive rs j k e h l = let w = through_before rs [] start j k e h l in through_viable (take j rs) w.0 w.1

  First : List Rec → ℕ → Type 0
  First rs k = (k < length rs) × Viable (take k rs) × (Viable (take (k + 1) rs) → ⊥)

  is_first : (rs : List Rec) (k : ℕ) (x : Ran) → run v [] start rs ≡ x → First rs k → (e : Reason) × (x ≡ stopped k e)
  unfolding First Through
  is_first rs k (through en) h (l, y, d) = let w = through_part rs [] start en (k + 1) h in absurd (d (through_viable (take (k + 1) rs) w.0 w.1))
  is_first rs k (stopped j e) h (l, y, d) = elim (dec_lt j k) [
    | yes a ↦ absurd (stopped_dead rs j k e h a y)
    | no a ↦ elim (dec_lt k j) [
      | yes b ↦ absurd (d (stopped_alive rs (k + 1) j e h (omega arith)))
      | no b ↦ (e, ap (λ (i : ℕ). stopped i e) (omega arith))
    ]
  ]

  -- record k, counted from 0, is refused exactly where the records before it have a permitted continuation and with it have none
  pub refused_first : (rs : List Rec) (k : ℕ)
      → ((e : Reason) × (run v [] start rs ≡ stopped k e)) ↔ ((k < length rs) × Viable (take k rs) × (Viable (take (k + 1) rs) → ⊥))
  unfolding First
  refused_first rs k = (
    λ w. (stopped_within rs [] start k w.0 w.1, stopped_alive rs k k w.0 w.1 (omega arith), stopped_dead rs k (k + 1) w.0 w.1 (omega arith)),
    is_first rs k (run v [] start rs) refl,
  )

  -- a list that is not refused and not accepted only ends too early
  pub unfinished : (rs : List Rec) (en : State) → run v [] start rs ≡ through en → accepting en ≡ false
      → Viable rs × ((Permitted v rs × Distinct v rs) → ⊥)
  unfinished rs en h f = (
    through_viable rs en h,
    λ p. let w = (accepted_exactly rs).1 p in let z : en ≡ w.0 = through_same (sym h ∙ w.1) in not_both w.2 (subst (λ (x : State). accepting x ≡ false) z f),
  )
