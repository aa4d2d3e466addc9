-- What is accepted, the rules produce: section after section.
use Prim.Native.Nat.{ℕ, ◌+◌, ◌≤◌}
use mathlib.Core.Path.{◌≡◌, refl, sym, ap, subst}
use mathlib.Core.List.{List, [], ◌∷◌, ◌++◌, append_assoc, append-nil}
use mathlib.Core.Bool.{Bool, true, false, cond, not, ◌&&◌, ◌||◌, false≢true}
use native.Mathlib.Omega.{arith}
use lib.Dec.{eqb}
use borrow.Author.Tests.{eqb-true}
use Rattle.basics.proofs.Bools.{both, not_both}
use Rattle.law.specs.Values.{Rec}
use Rattle.law.specs.Sections.{Shape, header, outline, component, keepout, listing, placements}
use Rattle.law.specs.Kinds.{section_of, role_of}
use Rattle.law.specs.declared.Role.TheVariants.{Opening as opening, Closing as closing, Title as title, Prop as prop}
use Rattle.law.specs.Fits.{under, well_formed}
use Rattle.law.specs.declared.Rules.{Rules}
use Rattle.law.specs.declared.FileType.{FileType}
use Rattle.law.specs.declared.FileType.TheVariants.{Board as board, Panel as panel, Library as library}
use Rattle.law.specs.Records.{shape_of, is_middle, is_component, type_in}
use Rattle.order.specs.Stages.{may_open, after, file_of}
use Rattle.order.specs.Places.{has_props}
use Rattle.order.specs.Automaton.{start, start_of, is_role, if_fit, after_title, advance, accepting, accepted, accepts}
use Rattle.order.specs.declared.Stage.{Stage}
use Rattle.order.specs.declared.Stage.TheVariants.{Nothing as nothing, Headed as headed, Middle as middle, Finished as finished}
use Rattle.order.specs.declared.Phase.TheVariants.{AwaitTitle as await_title}
use Rattle.order.specs.declared.State.{State}
use Rattle.order.specs.declared.State.TheVariants.{Between as between, Inside as inside}
use Rattle.order.specs.declared.Reason.TheVariants.{Misplaced as misplaced}
use Rattle.std.specs.Prelude.{Ok as next, Err as refused}
use Rattle.law.specs.Lists.{leads, bit, Line, Points, Lines, no_line, line, Body, led, points, listed, placed, Section, section, no_section, and_section, header_of, header_of_library, Permitted, a_board, a_panel, a_library}
use Rattle.order.proofs.Roles.{is_role_true}
use Rattle.shown_lists.proofs.Roles.{is_header, prop_component}
use Rattle.shown_lists.proofs.Tables.{header_first, header_not_middle, no_header}
use Rattle.shown_lists.proofs.Samples.{retype}
use Rattle.shown_lists.proofs.SoundPoints.{at_none}
use Rattle.shown_lists.proofs.SoundSections.{at_lead, at_points, at_list, at_part, Onto, onto_all, onto_board, onto_panel, onto_library, onto_middle, onto_end, Rest, rest_between, rest_body, rest_full, rest_name, rest_title, inside_before}
use Rattle.law.specs.Bytes as B

module _ (v : Rules) where
  -- a section and what follows it
  data Opened (g : Stage) (s : ℕ) : List Rec → Type 0 where
    opened : {rs ms : List Rec} → Section v (file_of g) s rs → Onto v (after g s) ms → Opened g s (rs ++ ms)

  close_up : {g : Stage} {s : ℕ} {o c : Rec} {bs ms : List Rec} → Line v (file_of g) s opening o → Body v (file_of g) s bs
      → Line v (file_of g) s closing c → Onto v (after g s) ms
      → Opened g s (o ∷ (bs ++ (c ∷ ms)))
  close_up {g} {s} {o} {c} {bs} {ms} a b e k = let x : Opened g s ((o ∷ (bs ++ (c ∷ []))) ++ ms) = opened (section a b e) k in rw append_assoc at x

  no_props : {t : FileType} {s : ℕ} {ps qs : List Rec} → has_props (shape_of v s) ≡ false → Points v t s ps → Lines v t s prop qs
      → Points v t s (ps ++ qs)
  no_props e p no_line = rw append-nil p
  no_props {s = s} e p (line {r} k rest) =
      let c : shape_of v s ≡ component = subst (λ (n : ℕ). shape_of v n ≡ component) k.in_section (prop_component v r.kind k.has_role) in
      absurd (not_both (ap has_props c) e)

  opened_by : {g : Stage} {s : ℕ} {r : Rec} {ms : List Rec} (f : Shape) → shape_of v s ≡ f → is_header f ≡ false → Line v (file_of g) s opening r
      → Rest v (inside g s (start_of f)) ms → Opened g s (r ∷ ms)
  opened_by header e n k w = absurd (false≢true (sym n))
  opened_by outline e n k (rest_body (at_lead a p q) c o) = close_up k (led (ap leads e) a p q) c o
  opened_by component e n k (rest_body (at_lead a p q) c o) = close_up k (led (ap leads e) a p q) c o
  opened_by keepout e n k (rest_body (at_points (at_none p) q) c o) = close_up k (points e (no_props (ap has_props e) p q)) c o
  opened_by listing e n k (rest_body (at_list q) c o) = close_up k (listed e q) c o
  opened_by placements e n k (rest_body (at_part q) c o) = close_up k (placed e q) c o

  bits_back : (h t : Bool) (c : ℕ) → (t ≡ true → not h ≡ true) → bit (h || t) + c ≤ 1 → bit h + (bit t + c) ≤ 1
  bits_back true true c f e = absurd (false≢true (f refl))
  bits_back true false c f e = omega arith
  bits_back false true c f e = omega arith
  bits_back false false c f e = omega arith

  bit_small : (h : Bool) → bit h + 0 ≤ 1
  bit_small true = omega arith
  bit_small false = omega arith

  once : (h t : Bool) → not (h && t) ≡ true → t ≡ true → not h ≡ true
  once true true f e = f
  once true false f e = absurd (false≢true e)
  once false t f e = refl

  middle_opened : (h n : Bool) (s : ℕ) → (eqb s 13 || is_middle v s && not (h && eqb s 11) && not (n && eqb s 12)) ≡ true → eqb s 13 ≡ false
      → (is_middle v s ≡ true) × (eqb s 11 ≡ true → not h ≡ true) × (eqb s 12 ≡ true → not n ≡ true)
  middle_opened h n s m l =
      let x = both (is_middle v s && not (h && eqb s 11)) (not (n && eqb s 12)) (rw l at m) in
      let z = both (is_middle v s) (not (h && eqb s 11)) x.0 in
      (z.0, once h (eqb s 11) z.1, once n (eqb s 12) x.1)

  middle_before : {t : FileType} {s : ℕ} {rs : List Rec} (h n : Bool) → may_open v (middle t h n) s ≡ true → Opened (middle t h n) s rs
      → Onto v (middle t h n) rs
  unfolding may_open after
  middle_before {t} {s} h n m (opened k o) = go (eqb s 13) refl k o
    where
      go : {xs ys : List Rec} (b : Bool) → eqb s 13 ≡ b → Section v t s xs → Onto v (cond b (finished t) (middle t (h || eqb s 11) (n || eqb s 12))) ys
          → Onto v (middle t h n) (xs ++ ys)
      go true e k onto_end = rw append-nil (onto_middle no_section B.none (bit_small h) (bit_small n) (rw (eqb-true s 13 e) at k))
      go {xs = xs} false e k (onto_middle {ms = ms} {ps = ps} ss a c d p) =
          let w = middle_opened h n s m e in
          let x : Onto v (middle t h n) ((xs ++ ms) ++ ps) = onto_middle (and_section k ss) (B.one w.0 a) (bits_back h (eqb s 11) _ w.1 c) (bits_back n (eqb s 12) _ w.2 d) p in
          rw append_assoc at x

  -- the other stages
  board_before : {rs : List Rec} → Opened (headed board) 2 rs → Onto v (headed board) rs
  unfolding after
  board_before (opened k (onto_middle ss a c d p)) = onto_board k ss (record { among = a; holes_once = omega arith; notes_once = omega arith }) p

  panel_before : {rs : List Rec} → Opened (headed panel) 3 rs → Onto v (headed panel) rs
  unfolding after
  panel_before (opened k (onto_middle ss a c d p)) = onto_panel k ss (record { among = a; holes_once = omega arith; notes_once = omega arith }) p

  library_before : {s : ℕ} {rs : List Rec} → is_component s ≡ true → Opened (headed library) s rs → Onto v (headed library) rs
  unfolding after
  library_before e (opened k (onto_library ss a)) = onto_library (and_section k ss) (B.one e a)

  stage_before : {s : ℕ} {rs : List Rec} (g : Stage) → may_open v g s ≡ true → eqb s 1 ≡ false → Opened g s rs → Onto v g rs
  unfolding may_open
  stage_before nothing m e o = absurd (not_both m e)
  stage_before {rs = rs} (headed board) m e o = board_before (subst (λ (n : ℕ). Opened (headed board) n rs) (eqb-true _ _ m) o)
  stage_before {rs = rs} (headed panel) m e o = panel_before (subst (λ (n : ℕ). Opened (headed panel) n rs) (eqb-true _ _ m) o)
  stage_before (headed library) m e o = library_before m o
  stage_before (middle t h n) m e o = middle_before h n m o
  stage_before (finished t) m e o = absurd (false≢true m)

  -- the header
  header_by : {o a : Rec} {ms : List Rec} (t : FileType) → type_in a ≡ t → Line v library 1 opening o → Line v library 1 title a
      → Rest v (inside nothing 1 (after_title t)) ms → Permitted v (o ∷ a ∷ ms)
  header_by board e o a (rest_name b (rest_full c (onto_board os ss m ps))) =
      a_board (header_of refl (retype v board refl refl o) (retype v board refl refl a) e (retype v board refl refl b) (retype v board refl refl c)) os ss m ps
  header_by panel e o a (rest_name b (rest_full c (onto_panel os ss m ps))) =
      a_panel (header_of refl (retype v panel refl refl o) (retype v panel refl refl a) e (retype v panel refl refl b) (retype v panel refl refl c)) os ss m ps
  header_by library e o a (rest_full c (onto_library ss m)) = a_library (header_of_library o a e c) ss m
  header_by board e o a (rest_body {c = c} {bs = bs} {ms = ms} x20 _ _) = elim x20 [ ]
  header_by board e o a (rest_name b (rest_body {c = c} {bs = bs} {ms = ms} x29 _ _)) = elim x29 [ ]
  header_by panel e o a (rest_body {c = c} {bs = bs} {ms = ms} x21 _ _) = elim x21 [ ]
  header_by panel e o a (rest_name b (rest_body {c = c} {bs = bs} {ms = ms} x30 _ _)) = elim x30 [ ]
  header_by library e o a (rest_body {c = c} {bs = bs} {ms = ms} x22 _ _) = elim x22 [ ]

  header_before : {o : Rec} {ms : List Rec} → Line v library 1 opening o → Rest v (inside nothing 1 await_title) ms → Permitted v (o ∷ ms)
  header_before o (rest_title {a = a} k w) = header_by (type_in a) refl o k w
  header_before o (rest_body {c = c} {bs = bs} {ms = ms} x14 _ _) = elim x14 [ ]

  module _ {r : Rec} {ms : List Rec} where
    start_before : {s : ℕ} → s ≡ 1 → Line v library s opening r → Rest v (inside nothing s (start_of (shape_of v s))) ms → Permitted v (r ∷ ms)
    start_before {s} e k w =
        header_before (rw e at k) (subst (λ (f : Shape). Rest v (inside nothing 1 (start_of f)) ms) (header_first v) (subst (λ (n : ℕ). Rest v (inside nothing n (start_of (shape_of v n))) ms) e w))

    -- after the header, no section is a header
    later_before : {s : ℕ} (g : Stage) → (may_open v g 1 ≡ false) → may_open v g s ≡ true → Line v (file_of g) s opening r
        → Rest v (inside g s (start_of (shape_of v s))) ms → Onto v g (r ∷ ms)
    later_before {s} g n m k w = go (eqb s 1) refl
      where
        go : (b : Bool) → eqb s 1 ≡ b → Onto v g (r ∷ ms)
        go true e = absurd (not_both (subst (λ (i : ℕ). may_open v g i ≡ true) (eqb-true s 1 e) m) n)
        go false e = stage_before g m e (opened_by (shape_of v s) refl (no_header v s e) k w)

    open_before : {s : ℕ} (g : Stage) → may_open v g s ≡ true → Line v (file_of g) s opening r → Rest v (inside g s (start_of (shape_of v s))) ms
        → Onto v g (r ∷ ms)
    unfolding may_open
    open_before nothing m k w = onto_all (start_before (eqb-true _ _ m) k w)
    open_before (headed board) m k w = later_before (headed board) refl m k w
    open_before (headed panel) m k w = later_before (headed panel) refl m k w
    open_before (headed library) m k w = later_before (headed library) refl m k w
    open_before (middle t h n) m k w = later_before (middle t h n) (rw (header_not_middle v)) m k w
    open_before (finished t) m k w = later_before (finished t) refl m k w

  between_before : (g : Stage) (r : Rec) (ms : List Rec) → ((st : State) → accepts v st ms ≡ true → Rest v st ms)
      → accepted (advance v (between g) r) (λ st. accepts v st ms) ≡ true → Rest v (between g) (r ∷ ms)
  unfolding advance
  between_before g r ms ih = go (is_role (role_of v r.kind) opening && may_open v g s) (well_formed (under v (file_of g)) r) refl refl
    where
      s : ℕ
      s = section_of v r.kind

      go : (b c : Bool) → (is_role (role_of v r.kind) opening && may_open v g s) ≡ b → well_formed (under v (file_of g)) r ≡ c
          → accepted (if_fit b c (next (inside g s (start_of (shape_of v s)))) (refused misplaced)) (λ st. accepts v st ms) ≡ true → Rest v (between g) (r ∷ ms)
      go true true e f h =
          let w = both (is_role (role_of v r.kind) opening) (may_open v g s) e in
          rest_between (open_before g w.1 (record { in_section = refl; has_role = is_role_true _ _ w.0; is_good = f }) (ih _ h))
      go true false e f h = absurd (false≢true h)
      go false c e f h = absurd (false≢true h)

  at_end : (st : State) → accepting st ≡ true → Rest v st []
  at_end (inside g s p) h = absurd (false≢true h)
  at_end (between nothing) h = absurd (false≢true h)
  at_end (between (headed board)) h = absurd (false≢true h)
  at_end (between (headed panel)) h = absurd (false≢true h)
  at_end (between (headed library)) h = rest_between (onto_library no_section B.none)
  at_end (between (middle t a b)) h = absurd (false≢true h)
  at_end (between (finished t)) h = rest_between onto_end

  rest_of : (rs : List Rec) (st : State) → accepts v st rs ≡ true → Rest v st rs
  rest_of [] st h = at_end st h
  rest_of (r ∷ rs) (between g) h = between_before g r rs (rest_of rs) h
  rest_of (r ∷ rs) (inside g s p) h = inside_before v g s p r rs (rest_of rs) h

  from_start : {rs : List Rec} → Rest v start rs → Permitted v rs
  from_start (rest_between (onto_all p)) = p

  -- every list that is accepted is permitted
  pub accepted_permitted : (rs : List Rec) → accepts v start rs ≡ true → Permitted v rs
  accepted_permitted rs h = from_start (rest_of rs start h)
