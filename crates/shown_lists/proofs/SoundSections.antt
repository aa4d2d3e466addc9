-- The lines of a section that are accepted, the rules produce: each state has a type of what may still come (`Rest`), and a line goes in front of it.
use Prim.Native.Nat.{ℕ, ◌+◌, ◌≤◌}
use mathlib.Core.Path.{◌≡◌, refl, sym, subst}
use mathlib.Core.List.{List, [], ◌∷◌, ◌++◌}
use Rattle.std.specs.Prelude.{Option, Some as some, None as none, Result, Ok as next, Err as refused}
use mathlib.Core.Bool.{Bool, true, false, cond, false≢true}
use lib.Dec.{eqb}
use borrow.Author.Tests.{eqb-true}
use Rattle.law.specs.Values.{Rec}
use Rattle.law.specs.Kinds.{section_of, role_of}
use Rattle.law.specs.declared.Role.{Role}
use Rattle.law.specs.declared.Role.TheVariants.{Closing as closing, Title as title, Name as name, Lead as lead, Point as point, Prop as prop, Entry as entry, Part as part, Position as position}
use Rattle.law.specs.Fits.{under, well_formed}
use Rattle.law.specs.declared.Rules.{Rules}
use Rattle.law.specs.declared.FileType.{FileType}
use Rattle.law.specs.declared.FileType.TheVariants.{Board as board, Panel as panel, Library as library}
use Rattle.law.specs.Records.{many_loops, is_middle, is_component, type_in}
use Rattle.order.specs.Marks.{point_of}
use Rattle.order_loops.specs.Loops.{loop_after, complete}
use Rattle.order.specs.Stages.{after, file_of}
use Rattle.order.specs.Automaton.{is_role, if_fit, after_title, after_point, only_if, at_phase, advance, accepted, accepts}
use Rattle.order.specs.declared.Stage.{Stage}
use Rattle.order.specs.declared.Stage.TheVariants.{Nothing as nothing, Headed as headed, Middle as middle, Finished as finished}
use Rattle.order_loops.specs.declared.LoopState.{LoopState}
use Rattle.order_loops.specs.declared.LoopState.TheVariants.{NoPoint as no_point}
use Rattle.order.specs.declared.Phase.{Phase}
use Rattle.order.specs.declared.Phase.TheVariants.{AwaitTitle as await_title, AwaitName as await_name, HeaderFull as header_full, AwaitLead as await_lead, InPoints as in_points, InProps as in_props, InList as in_list, AwaitPart as await_part, AwaitPosition as await_position}
use Rattle.order.specs.declared.State.{State}
use Rattle.order.specs.declared.State.TheVariants.{Between as between, Inside as inside}
use Rattle.order.specs.declared.Reason.TheVariants.{Misplaced as misplaced}
use Rattle.order.specs.declared.Reason.{Reason}
use Rattle.law.specs.Lists.{bit, count, Line, Points, Lines, no_line, line, Pairs, no_pair, pair, Section, Sections, Middle, Permitted}
use Rattle.law.specs.Bytes.{All}
use Rattle.order.proofs.Roles.{is_role_true}
use Rattle.shown_lists.proofs.SoundPoints.{Tail, at_none, tail_complete, TailOf, point_before}

module _ (v : Rules) where
  -- what may still come in a section, up to its closing line
  pub data Within (t : FileType) (s : ℕ) : Phase → List Rec → Type 0 where
    at_lead : {a : Rec} {ps qs : List Rec} → Line v t s lead a → Points v t s ps → Lines v t s prop qs → Within t s await_lead (a ∷ (ps ++ qs))
    at_points : {l : LoopState} {ps qs : List Rec} → Tail v t s l ps → Lines v t s prop qs → Within t s (in_points l) (ps ++ qs)
    at_props : {qs : List Rec} → Lines v t s prop qs → Within t s in_props qs
    at_list : {es : List Rec} → Lines v t s entry es → Within t s in_list es
    at_part : {es : List Rec} → Pairs v t s es → Within t s await_part es
    at_position : {b : Rec} {es : List Rec} → Line v t s position b → Pairs v t s es → Within t s await_position (b ∷ es)

  -- what may still come between sections
  pub data Onto : Stage → List Rec → Type 0 where
    onto_all : {rs : List Rec} → Permitted v rs → Onto nothing rs
    onto_board : {os ms ps : List Rec} {ss : List ℕ} → Section v board 2 os → Sections v board ss ms → Middle v ss → Section v board 13 ps
        → Onto (headed board) (os ++ (ms ++ ps))
    onto_panel : {os ms ps : List Rec} {ss : List ℕ} → Section v panel 3 os → Sections v panel ss ms → Middle v ss → Section v panel 13 ps
        → Onto (headed panel) (os ++ (ms ++ ps))
    onto_library : {ms : List Rec} {ss : List ℕ} → Sections v library ss ms → All is_component ss → Onto (headed library) ms
    onto_middle : {t : FileType} {h n : Bool} {ms ps : List Rec} {ss : List ℕ} → Sections v t ss ms → All (is_middle v) ss → bit h + count 11 ss ≤ 1
        → bit n + count 12 ss ≤ 1
        → Section v t 13 ps → Onto (middle t h n) (ms ++ ps)
    onto_end : {t : FileType} → Onto (finished t) []

  pub data Rest : State → List Rec → Type 0 where
    rest_between : {g : Stage} {rs : List Rec} → Onto g rs → Rest (between g) rs
    rest_body : {g : Stage} {s : ℕ} {p : Phase} {c : Rec} {bs ms : List Rec} → Within (file_of g) s p bs → Line v (file_of g) s closing c
        → Onto (after g s) ms
        → Rest (inside g s p) (bs ++ (c ∷ ms))
    rest_full : {g : Stage} {s : ℕ} {t : FileType} {c : Rec} {ms : List Rec} → Line v (file_of g) s closing c → Onto (headed t) ms
        → Rest (inside g s (header_full t)) (c ∷ ms)
    rest_name : {g : Stage} {s : ℕ} {t : FileType} {b : Rec} {ms : List Rec} → Line v (file_of g) s name b → Rest (inside g s (header_full t)) ms
        → Rest (inside g s (await_name t)) (b ∷ ms)
    rest_title : {g : Stage} {s : ℕ} {a : Rec} {ms : List Rec} → Line v (file_of g) s title a → Rest (inside g s (after_title (type_in a))) ms
        → Rest (inside g s await_title) (a ∷ ms)

  -- a record in front, by its role
  module _ {g : Stage} {s : ℕ} {r : Rec} where
    lead_before : {ms : List Rec} → Line v (file_of g) s lead r → Rest (inside g s (in_points no_point)) ms → Rest (inside g s await_lead) (r ∷ ms)
    lead_before k (rest_body (at_points (at_none p) q) c o) = rest_body (at_lead k p q) c o

    props_before : {ms : List Rec} → Line v (file_of g) s prop r → Rest (inside g s in_props) ms → Rest (inside g s in_props) (r ∷ ms)
    props_before k (rest_body (at_props q) c o) = rest_body (at_props (line k q)) c o

    first_prop_before : {ms : List Rec} (l : LoopState) → complete l ≡ true → Line v (file_of g) s prop r → Rest (inside g s in_props) ms
        → Rest (inside g s (in_points l)) (r ∷ ms)
    first_prop_before l e k (rest_body (at_props q) c o) = rest_body (at_points (tail_complete v (file_of g) s l e) (line k q)) c o

    entry_before : {ms : List Rec} → Line v (file_of g) s entry r → Rest (inside g s in_list) ms → Rest (inside g s in_list) (r ∷ ms)
    entry_before k (rest_body (at_list q) c o) = rest_body (at_list (line k q)) c o

    part_before : {ms : List Rec} → Line v (file_of g) s part r → Rest (inside g s await_position) ms → Rest (inside g s await_part) (r ∷ ms)
    part_before k (rest_body (at_position b q) c o) = rest_body (at_part (pair k b q)) c o

    position_before : {ms : List Rec} → Line v (file_of g) s position r → Rest (inside g s await_part) ms → Rest (inside g s await_position) (r ∷ ms)
    position_before k (rest_body (at_part q) c o) = rest_body (at_position k q) c o

    closing_before : {ms : List Rec} {p : Phase} → Within (file_of g) s p [] → Line v (file_of g) s closing r → Rest (between (after g s)) ms
        → Rest (inside g s p) (r ∷ ms)
    closing_before w k (rest_between o) = rest_body w k o

    full_before : {ms : List Rec} {t : FileType} → Line v (file_of g) s closing r → Rest (between (headed t)) ms
        → Rest (inside g s (header_full t)) (r ∷ ms)
    full_before k (rest_between o) = rest_full k o

    -- the points
    points_before : {ms : List Rec} (l m : LoopState) → loop_after (many_loops s) l (point_of r) ≡ some m → Line v (file_of g) s point r
        → Rest (inside g s (in_points m)) ms → Rest (inside g s (in_points l)) (r ∷ ms)
    points_before l m e k (rest_body (at_points {ps = ps} tail q) c o) =
        rest_body (at_points (point_before v (file_of g) s k l (subst (λ (x : Option LoopState). TailOf v (file_of g) s x ps) (sym e) tail)) q) c o

  only : {G : Type 0} (b : Bool) (x : Result State Reason) (f : State → Bool) → (b ≡ true → accepted x f ≡ true → G) → accepted (only_if b x) f ≡ true → G
  only true x f k h = k refl h
  only false x f k h = absurd (false≢true h)

  module _ (g : Stage) (s : ℕ) (r : Rec) (ms : List Rec) (in-s : section_of v r.kind ≡ s) (ih : (st : State) → accepts v st ms ≡ true → Rest st ms) where
    abbrev onward : State → Bool
    onward st = accepts v st ms

    -- a role that is looked for: the record has it and is fit, or the other way is taken
    way : {G : Type 0} (a : Role) (x y : Result State Reason) → (Line v (file_of g) s a r → accepted x onward ≡ true → G) → (accepted y onward ≡ true → G)
        → accepted (if_fit (is_role (role_of v r.kind) a) (well_formed (under v (file_of g)) r) x y) onward ≡ true → G
    way {G} a x y k l = go (is_role (role_of v r.kind) a) (well_formed (under v (file_of g)) r) refl refl
      where
        go : (has fit : Bool) → is_role (role_of v r.kind) a ≡ has → well_formed (under v (file_of g)) r ≡ fit
            → accepted (if_fit has fit x y) onward ≡ true → G
        go true true e f h = k (record { in_section = in-s; has_role = is_role_true _ _ e; is_good = f }) h
        go true false e f h = absurd (false≢true h)
        go false fit e f h = l h

    no_way : {G : Type 0} → accepted (refused misplaced) onward ≡ true → G
    no_way h = absurd (false≢true h)

    -- the way out of a section by its closing line
    to_close : (p : Phase) → Within (file_of g) s p []
        → accepted (if_fit (is_role (role_of v r.kind) closing) (well_formed (under v (file_of g)) r) (next (between (after g s))) (refused misplaced)) onward ≡ true
        → Rest (inside g s p) (r ∷ ms)
    to_close p w = way closing _ _ (λ k a. closing_before w k (ih _ a)) no_way

    point_taken : (l : LoopState) (o : Option LoopState) → loop_after (many_loops s) l (point_of r) ≡ o → Line v (file_of g) s point r
        → accepted (after_point g s o) onward ≡ true → Rest (inside g s (in_points l)) (r ∷ ms)
    point_taken l none e k a = absurd (false≢true a)
    point_taken l (some m) e k a = points_before l m e k (ih _ a)

    phase_before : (p : Phase) → accepted (at_phase g s p (role_of v r.kind) (well_formed (under v (file_of g)) r) r) onward ≡ true
        → Rest (inside g s p) (r ∷ ms)
    phase_before await_title h = way title _ _ (λ k a. rest_title k (ih _ a)) no_way h
    phase_before (await_name t) h = way name _ _ (λ k a. rest_name k (ih _ a)) no_way h
    phase_before (header_full t) h = way closing _ _ (λ k a. full_before k (ih _ a)) no_way h
    phase_before await_lead h = way lead _ _ (λ k a. lead_before k (ih _ a)) no_way h
    phase_before (in_points l) h =
        way point _ _ (point_taken l _ refl)
        (way prop _ _ (λ k. only (complete l) _ onward (λ e a. first_prop_before l e k (ih _ a)))
        (way closing _ _ (λ k. only (complete l) _ onward (λ e a. closing_before (at_points (tail_complete v (file_of g) s l e) no_line) k (ih _ a))) no_way)) h
    phase_before in_props h = way prop _ _ (λ k a. props_before k (ih _ a)) (to_close in_props (at_props no_line)) h
    phase_before in_list h = way entry _ _ (λ k a. entry_before k (ih _ a)) (to_close in_list (at_list no_line)) h
    phase_before await_part h = way part _ _ (λ k a. part_before k (ih _ a)) (to_close await_part (at_part no_pair)) h
    phase_before await_position h = way position _ _ (λ k a. position_before k (ih _ a)) no_way h

  pub inside_before : (g : Stage) (s : ℕ) (p : Phase) (r : Rec) (ms : List Rec) → ((st : State) → accepts v st ms ≡ true → Rest st ms)
      → accepted (advance v (inside g s p) r) (λ st. accepts v st ms) ≡ true → Rest (inside g s p) (r ∷ ms)
  unfolding advance
  inside_before g s p r ms ih = go (eqb (section_of v r.kind) s) refl
    where
      go : (b : Bool) → eqb (section_of v r.kind) s ≡ b
          → accepted (cond b (at_phase g s p (role_of v r.kind) (well_formed (under v (file_of g)) r) r) (refused misplaced)) (λ st. accepts v st ms) ≡ true → Rest (inside g s p) (r ∷ ms)
      go true e h = phase_before g s r ms (eqb-true _ _ e) ih p h
      go false e h = absurd (false≢true h)
