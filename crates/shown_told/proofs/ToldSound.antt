-- What lines are read through to say, they spell; and where the reading may end, the list is permitted.
use Prim.Native.Nat.{ℕ}
use mathlib.Core.Path.{◌≡◌, refl, sym, ap, subst}
use mathlib.Core.List.{List, [], ◌++◌, append-nil}
use Rattle.std.specs.Prelude.{Option, Some as some, None as none, Result, Ok as next, Err as stops}
use mathlib.Core.Bool.{Bool, true, false, cond, ◌&&◌}
use lib.Dec.{eqb}
use Rattle.basics.proofs.Bools.{both}
use Rattle.law.specs.Values.{Rec}
use Rattle.law.specs.Kinds.{section_of, role_of}
use Rattle.law.specs.declared.Role.{Role}
use Rattle.law.specs.declared.Role.TheVariants.{Opening as opening, Closing as closing, Title as title, Name as name, Lead as lead, Point as point, Prop as prop, Entry as entry, Part as part, Position as position}
use Rattle.law.specs.Fits.{under, well_formed, WellFormed}
use Rattle.law.specs.declared.Rules.{Rules}
use Rattle.law.specs.declared.FileType.{FileType}
use Rattle.law.specs.Records.{shape_of, many_loops, Named}
use Rattle.order.specs.Marks.{point_of}
use Rattle.order_loops.specs.Loops.{loop_after, complete}
use Rattle.order.specs.Stages.{may_open, file_of}
use Rattle.order.specs.Automaton.{start, start_of, is_role, if_fit, after_point, only_if, at_phase, advance, accepting, through, run, admit, type_at}
use Rattle.order.specs.declared.Stage.{Stage}
use Rattle.order_loops.specs.declared.LoopState.{LoopState}
use Rattle.order.specs.declared.Phase.{Phase}
use Rattle.order.specs.declared.Phase.TheVariants.{AwaitTitle, AwaitName, HeaderFull, AwaitLead, InPoints, InProps, InList, AwaitPart, AwaitPosition}
use Rattle.order.specs.declared.State.{State}
use Rattle.order.specs.declared.State.TheVariants.{Between as between, Inside as inside}
use Rattle.order.specs.declared.Reason.TheVariants.{Misplaced as misplaced}
use Rattle.order.specs.declared.Reason.{Reason}
use Rattle.order.proofs.Roles.{is_role_true}
use Rattle.shown_lists.proofs.FirstLine.{taken, accepted_exactly, run_typed}
use Rattle.law.specs.LineSpelling.{Where, outside, inside as within, leads_to, SpellsLines, end, free, line}
use Rattle.shown_told.specs.Told.{ended, told_from}
use Rattle.law.specs.Files.{titled, LinesSay}
use Rattle.shown_told.proofs.LineSound.{line_sound, line_nothing}
use Rattle.shown_told.proofs.Respelling.{spelled_again}
use Rattle.shown_told.proofs.WellFormedLists.{Every, one, permitted_fit}
use Rattle.shown_told.proofs.Readings.{Through, done, pass, take_in, told_through}

-- Where a state is, as the rules of lines say it
abbrev pub where_of : State → Where
where_of (between g) = outside
where_of (inside g s p) = within

-- a record leads where its role does
abbrev Goes : Where → Result State Reason → Type 0
Goes w (next t) = w ≡ where_of t
Goes w (stops e) = Unit {0}

goes_point : (g : Stage) (s : ℕ) (o : Option LoopState) → Goes within (after_point g s o)
goes_point g s none = tt
goes_point g s (some l) = refl

goes_only : (w : Where) (b : Bool) (x : Result State Reason) → Goes w x → Goes w (only_if b x)
goes_only w true x h = h
goes_only w false x h = tt

module _ (v : Rules) where
  module _ (r : Rec) (fit : Bool) where
    abbrev role : Role
    role = role_of v r.kind

    way : (w : Where) (a : Role) (x y : Result State Reason) → Goes (leads_to a w) x → Goes (leads_to role w) y → Goes (leads_to role w) (if_fit (is_role role a) fit x y)
    way w a x y p q = go (is_role role a) fit refl
      where
        go : (b f : Bool) → is_role role a ≡ b → Goes (leads_to role w) (if_fit b f x y)
        go true true e = subst (λ (c : Role). Goes (leads_to c w) x) (sym (is_role_true role a e)) p
        go true false e = tt
        go false f e = q

    goes_in : (g : Stage) (s : ℕ) (p : Phase) → Goes (leads_to role within) (at_phase g s p role fit r)
    goes_in g s AwaitTitle = way within title _ _ refl tt
    goes_in g s (AwaitName t) = way within name _ _ refl tt
    goes_in g s (HeaderFull t) = way within closing _ _ refl tt
    goes_in g s AwaitLead = way within lead _ _ refl tt
    goes_in g s (InPoints l) =
        way within point _ _ (goes_point g s (loop_after (many_loops s) l (point_of r)))
        (way within prop _ _ (goes_only within (complete l) _ refl) (way within closing _ _ (goes_only outside (complete l) _ refl) tt))
    goes_in g s InProps = way within prop _ _ refl (way within closing _ _ refl tt)
    goes_in g s InList = way within entry _ _ refl (way within closing _ _ refl tt)
    goes_in g s AwaitPart = way within part _ _ refl (way within closing _ _ refl tt)
    goes_in g s AwaitPosition = way within position _ _ refl tt

  goes : (st : State) (r : Rec) → Goes (leads_to (role_of v r.kind) (where_of st)) (advance v st r)
  unfolding advance
  goes (between g) r = go (is_role (role_of v r.kind) opening && may_open v g s) (well_formed (under v (file_of g)) r) refl
    where
      s : ℕ
      s = section_of v r.kind

      go : (b f : Bool) → (is_role (role_of v r.kind) opening && may_open v g s) ≡ b
          → Goes (leads_to (role_of v r.kind) outside) (if_fit b f (next (inside g s (start_of (shape_of v s)))) (stops misplaced))
      go true true e = let o : role_of v r.kind ≡ opening = is_role_true _ _ (both (is_role (role_of v r.kind) opening) (may_open v g s) e).0 in rw o
      go true false e = tt
      go false f e = tt
  goes (inside g s p) r = go (eqb (section_of v r.kind) s)
    where
      go : (b : Bool) → Goes (leads_to (role_of v r.kind) within) (cond b (at_phase g s p (role_of v r.kind) (well_formed (under v (file_of g)) r) r) (stops misplaced))
      go true = goes_in r (well_formed (under v (file_of g)) r) g s p
      go false = tt

  pub leads_where : (used : List Named) (st t : State) (r : Rec) → admit v used st r ≡ next t → leads_to (role_of v r.kind) (where_of st) ≡ where_of t
  leads_where used st t r j = subst (Goes (leads_to (role_of v r.kind) (where_of st))) (taken v used st t r j).moves (goes st r)

  -- The records run through
  pub through_runs : {used : List Named} {st en : State} {ls : List (List ℕ)} {rs : List Rec} → Through v used st ls rs en → run v used st rs ≡ through en
  through_runs done = refl
  through_runs (pass e k) = through_runs k
  through_runs {used} {st} (take_in {mid = t} {l = l} {r = r} e k) = rw ((line_sound v used st l r t e).1, through_runs k)

  -- The lines spell them, in a file of a type in which they are well formed, before whatever is spelled from there on
  pub through_spells : (u : FileType) {used : List Named} {st en : State} {ls ms : List (List ℕ)} {rs qs : List Rec} → Through v used st ls rs en
      → Every (λ r. WellFormed (under v u) r) (rs ++ qs) → SpellsLines (under v u) (where_of en) qs ms → SpellsLines (under v u) (where_of st) (rs ++ qs) (ls ++ ms)
  through_spells u done f m = m
  through_spells u {used} {st} (pass {l = l} e k) f m =
      let w = line_nothing v used st l e in
      let z : where_of st ≡ outside = ap where_of w.1 in
      rw z (free w.2 (rw z at (through_spells u k f m)))
  through_spells u {used} {st} {ms = ms} {qs = qs} (take_in {mid = t} {l = l} {ls = ls} {r = r} {rs = rs} e k) (one g f) m =
      let w = line_sound v used st l r t e in
      let x : SpellsLines (under v u) (leads_to (role_of v r.kind) (where_of st)) (rs ++ qs) (ls ++ ms) = rw (leads_where used st t r w.1) (through_spells u k f m) in
      line (spelled_again u w.0 g) x

  pub through_says : {ls : List (List ℕ)} {rs : List Rec} {en : State} → Through v [] start ls rs en → accepting en ≡ true → LinesSay v rs ls
  through_says {ls} {rs} {en} k a =
      let p = (accepted_exactly v rs).0 (en, through_runs k, a) in
      let f : Every (λ r. WellFormed (under v (titled rs)) r) (rs ++ []) = rw append-nil (permitted_fit p.0) in
      let s : SpellsLines (under v (titled rs)) outside (rs ++ []) (ls ++ []) = through_spells (titled rs) k f end in
      record { spelled = rw (append-nil rs, append-nil ls) at s; permitted = p.0; distinct = p.1 }

  -- lines that are told to the end, where they may end, say the list
  pub told_sound : (ls : List (List ℕ)) (rs : List Rec) (en : State) → told_from v [] start ls ≡ ended rs en → accepting en ≡ true → LinesSay v rs ls
  told_sound ls rs en e a = through_says (told_through v [] start ls rs en e) a

  -- and the state there has its type
  pub told_typed : (ls : List (List ℕ)) (rs : List Rec) (en : State) → told_from v [] start ls ≡ ended rs en → accepting en ≡ true → type_at en ≡ titled rs
  told_typed ls rs en e a = run_typed v (told_sound ls rs en e a).permitted (through_runs (told_through v [] start ls rs en e))
