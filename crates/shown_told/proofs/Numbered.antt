-- The first failing line of a file is refused by a number exactly where it is faulty by it after the lines before it.
use Prim.Native.Nat.{ℕ, suc, ◌+◌, ◌≤◌, ◌<◌}
use mathlib.Core.Path.{◌≡◌, refl, sym, ap, ◌∙◌}
use mathlib.Core.Logic.{◌↔◌}
use mathlib.Core.List.{List, [], ◌∷◌, ◌++◌, append-nil}
use native.Mathlib.Omega.{arith}
use lib.ListN.{length, take}
use Rattle.law.specs.Lines.{File}
use Rattle.law.specs.Values.{Rec}
use Rattle.law.specs.Fits.{under, WellFormed}
use Rattle.law.specs.declared.Rules.{Rules}
use Rattle.law.specs.Records.{Named}
use Rattle.order.specs.Automaton.{start, admit, noted, through, later, onward, run}
use Rattle.order.specs.declared.State.{State}
use Rattle.order.specs.declared.Reason.{Reason}
use Rattle.std.specs.Prelude.{Result, Ok as next, Err as stops}
use Rattle.shown_lists.proofs.FirstLine.{later_through, accepted_exactly, through_viable}
use Rattle.law.specs.LineSpelling.{SpellsLines, outside, end}
use Rattle.shown_told.specs.Told.{wrong, line_says, broken, told_from}
use Rattle.law.specs.Files.{titled, Mendable}
use Rattle.shown_told.proofs.WellFormedLists as every
use Rattle.shown_told.proofs.WellFormedLists.{Every, permitted_fit}
use Rattle.shown_told.proofs.Readings.{Through, Breaks, here, pass, take_in, done, through_told, told_breaks, breaks_told}
use Rattle.shown_told.proofs.ToldSound.{through_runs, through_spells}
use Rattle.shown_told.proofs.ToldComplete.{spells_through}
use Rattle.shown_told.proofs.FirstLine.{lines_first}
use Rattle.law.specs.LineFaults.{Faulty, by_3, by_4, by_5, free_5, by_6, by_field, by_11, by_12, Before, FaultyAfter}
use Rattle.shown_spelling.proofs.FieldNumbers.{fields_number}
use Rattle.shown_told.proofs.LineFaulty.{used_by, line_faulty, faulty_line}

module _ (v : Rules) where
  -- the front of a list that runs through runs through
  run_front : (rs ms : List Rec) (used : List Named) (st en : State) → run v used st (rs ++ ms) ≡ through en → (mid : State) × (run v used st rs ≡ through mid)
  run_front [] ms used st en h = (st, refl)
  run_front (r ∷ rs) ms used st en h = go (admit v used st r) (λ t. run_front rs ms (noted v used r) t en) h
    where
      go : (o : Result State Reason) → ((t : State) → run v (noted v used r) t (rs ++ ms) ≡ through en → (mid : State) × (run v (noted v used r) t rs ≡ through mid))
          → onward o (λ t. run v (noted v used r) t (rs ++ ms)) ≡ through en → (mid : State) × (onward o (λ t. run v (noted v used r) t rs) ≡ through mid)
      go (stops e) ih h = let z : ◌≡◌ {A = ℕ} 0 1 = cc in absurd (omega arith)
      go (next t) ih h = let w = ih t (later_through v _ en h) in (w.0, ap later w.1)

  -- lines are read through exactly where they spell records with which a permitted list begins
  pub before_through : {rs : List Rec} {ls : List (List ℕ)} → Before v rs ls → (st : State) × Through v [] start ls rs st
  before_through {rs} b =
      let w = (accepted_exactly v (rs ++ b.more)).1 (b.permitted, b.distinct) in
      let x = run_front rs b.more [] start w.0 w.1 in
      (x.0, spells_through v b.spelled refl x.1)

  every_front : {P : Rec → Type 0} (rs ms : List Rec) → Every P (rs ++ ms) → Every P rs
  every_front [] ms f = every.none
  every_front (r ∷ rs) ms (every.one h f) = every.one h (every_front rs ms f)

  pub through_before : {rs : List Rec} {ls : List (List ℕ)} {st : State} → Through v [] start ls rs st → Before v rs ls
  through_before {rs} {ls} {st} k =
      let w = through_viable v rs st (through_runs v k) in
      let u = titled (rs ++ w.0) in
      let f : Every (λ r. WellFormed (under v u) r) (rs ++ []) = rw (append-nil rs) (every_front rs w.0 (permitted_fit w.1)) in
      let s : SpellsLines (under v u) outside (rs ++ []) (ls ++ []) = through_spells v u k f end in
      record { more = w.0; permitted = w.1; distinct = w.2; spelled = rw (append-nil rs, append-nil ls) at s }

  -- they spell one list of records at most
  pub one_before : {rs qs : List Rec} {ls : List (List ℕ)} → Before v rs ls → Before v qs ls → rs ≡ qs
  one_before {rs} {qs} a b =
      let x = through_told v (before_through a).1 in
      let y = through_told v (before_through b).1 in
      cc

  module _ (l : List ℕ) (more : List (List ℕ)) where
    -- where a line is refused, the lines before it are read through, and it is refused after them; and conversely
    record Refused (used : List Named) (st : State) (ls : List (List ℕ)) (n : ℕ) : Type 0 where
      rs : List Rec
      mid : State
      front : Through v used st ls rs mid
      line : line_says v (used_by v used rs) mid l ≡ wrong n

    breaks_refused : {used : List Named} {st : State} (ls : List (List ℕ)) {k n : ℕ} → Breaks v used st (ls ++ (l ∷ more)) k n → k ≡ length ls → Refused used st ls n
    breaks_refused {st = st} [] (here e) i = record { rs = []; mid = st; front = done; line = e }
    breaks_refused [] (pass e b) i = absurd (omega arith)
    breaks_refused [] (take_in e b) i = absurd (omega arith)
    breaks_refused (q ∷ ls) (here e) i = absurd (omega arith)
    breaks_refused (q ∷ ls) (pass e b) i = let w = breaks_refused ls b (omega arith) in record { rs = w.rs; mid = w.mid; front = pass e w.front; line = w.line }
    breaks_refused {used = used} (q ∷ ls) (take_in {r = r} e b) i = let w = breaks_refused {used = noted v used r} ls b (omega arith) in record { rs = r ∷ w.rs; mid = w.mid; front = take_in e w.front; line = w.line }

    refused_breaks : {used : List Named} {st mid : State} {ls : List (List ℕ)} {rs : List Rec} {n : ℕ} → Through v used st ls rs mid → line_says v (used_by v used rs) mid l ≡ wrong n
        → Breaks v used st (ls ++ (l ∷ more)) (length ls) n
    refused_breaks done h = here h
    refused_breaks (pass e k) h = pass e (refused_breaks k h)
    refused_breaks (take_in e k) h = take_in e (refused_breaks k h)

    -- the line after ls is the first that is refused, by n, exactly where it is faulty by n after them
    pub told_faulty : (ls : List (List ℕ)) (n : ℕ) → (told_from v [] start (ls ++ (l ∷ more)) ≡ broken (length ls) n) ↔ FaultyAfter v ls l n
    told_faulty ls n = (to, back)
      where
        to : told_from v [] start (ls ++ (l ∷ more)) ≡ broken (length ls) n → FaultyAfter v ls l n
        to e =
            let w = breaks_refused ls (told_breaks v [] start (ls ++ (l ∷ more)) (length ls) n e) refl in
            (w.rs, through_before w.front, line_faulty v w.front l n w.line)

        back : FaultyAfter v ls l n → told_from v [] start (ls ++ (l ∷ more)) ≡ broken (length ls) n
        back (rs, b, f) = let w = before_through b in breaks_told v (refused_breaks w.1 (faulty_line v w.1 l f))

  -- where lines are refused, a line is faulty after those before it
  pub record FirstFault (ks : List (List ℕ)) (k n : ℕ) : Type 0 where
    pub front : List (List ℕ)
    pub line : List ℕ
    pub rest : List (List ℕ)
    pub is : ks ≡ front ++ (line ∷ rest)
    pub at : length front ≡ k
    pub faulty : FaultyAfter v front line n

  record Split (ks : List (List ℕ)) (k : ℕ) : Type 0 where
    front : List (List ℕ)
    line : List ℕ
    rest : List (List ℕ)
    is : ks ≡ front ++ (line ∷ rest)
    at : length front ≡ k

  breaks_split : {used : List Named} {st : State} {ks : List (List ℕ)} {k n : ℕ} → Breaks v used st ks k n → Split ks k
  breaks_split (here {l = l} {ls = ls} e) = record { front = []; line = l; rest = ls; is = refl; at = refl }
  breaks_split (pass {l = l} e b) = let w = breaks_split b in record { front = l ∷ w.front; line = w.line; rest = w.rest; is = ap (λ (x : List (List ℕ)). l ∷ x) w.is; at = ap suc w.at }
  breaks_split (take_in {l = l} e b) = let w = breaks_split b in record { front = l ∷ w.front; line = w.line; rest = w.rest; is = ap (λ (x : List (List ℕ)). l ∷ x) w.is; at = ap suc w.at }

  pub told_first : (ks : List (List ℕ)) (k n : ℕ) → told_from v [] start ks ≡ broken k n → FirstFault ks k n
  told_first ks k n e =
      let w = breaks_split (told_breaks v [] start ks k n e) in
      let f : told_from v [] start (w.front ++ (w.line ∷ w.rest)) ≡ broken (length w.front) n = ap (told_from v [] start) (sym w.is) ∙ e ∙ ap (λ (i : ℕ). broken i n) (sym w.at) in
      record { front = w.front; line = w.line; rest = w.rest; is = w.is; at = w.at; faulty = (told_faulty w.line w.rest w.front n).0 f }

  -- by one of 3 to 12
  faulty_by : {rs : List Rec} {l : List ℕ} {n : ℕ} → Faulty v rs l n → (3 ≤ n) × (n ≤ 12)
  faulty_by (by_3 f a) = (omega arith, omega arith)
  faulty_by (by_4 f a s) = (omega arith, omega arith)
  faulty_by (by_5 h s) = (omega arith, omega arith)
  faulty_by (free_5 f w) = (omega arith, omega arith)
  faulty_by (by_6 o d) = (omega arith, omega arith)
  faulty_by {rs} (by_field o i f) = let w = fields_number (under v (titled rs)) f in (omega arith, omega arith)
  faulty_by (by_11 h p) = (omega arith, omega arith)
  faulty_by (by_12 more h p d) = (omega arith, omega arith)

  pub faulty_number : {ls : List (List ℕ)} {l : List ℕ} {n : ℕ} → FaultyAfter v ls l n → (3 ≤ n) × (n ≤ 12)
  faulty_number (rs, b, f) = faulty_by f

  -- a line has one number at most
  pub one_number : {ls : List (List ℕ)} {l : List ℕ} {m n : ℕ} → FaultyAfter v ls l m → FaultyAfter v ls l n → m ≡ n
  one_number {ls} {l} {m} {n} a b =
      let x = (told_faulty l [] ls m).1 a in
      let y = (told_faulty l [] ls n).1 b in
      cc

  -- a line fails exactly where it has one
  pub fails_faulty : (ls more : List (List ℕ)) (l : List ℕ) {file : List ℕ} → File (ls ++ (l ∷ more)) file
      → ((length ls < length (ls ++ (l ∷ more))) × Mendable v (take (length ls) (ls ++ (l ∷ more))) × (Mendable v (take (length ls + 1) (ls ++ (l ∷ more))) → ⊥))
      ↔ ((n : ℕ) × FaultyAfter v ls l n)
  fails_faulty ls more l f =
      let w = lines_first v (ls ++ (l ∷ more)) (length ls) f in
      (λ h. let x = w.1 h in (x.0, (told_faulty l more ls x.0).0 x.1), λ x. w.0 (x.0, (told_faulty l more ls x.0).1 x.1))
