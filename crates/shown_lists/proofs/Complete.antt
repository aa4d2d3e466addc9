-- What the rules produce is accepted.
use Prim.Native.Nat.{ℕ, ◌+◌, ◌≤◌}
use mathlib.Core.Path.{◌≡◌, refl, sym, ap, ◌∙◌}
use mathlib.Core.List.{List, [], ◌∷◌, ◌++◌, append_assoc, append-nil}
use mathlib.Core.Bool.{Bool, true, false, not, ◌&&◌, ◌||◌, false≢true}
use native.Mathlib.Omega.{arith}
use lib.Dec.{eqb}
use borrow.Author.Tests.{eqb-true}
use Rattle.law.specs.Files.{titled}
use Rattle.basics.proofs.Bools.{not_both, or_second}
use Rattle.law.specs.Values.{Rec}
use Rattle.law.specs.Sections.{Shape}
use Rattle.law.specs.declared.Role.TheVariants.{Opening as opening, Closing as closing, Title as title, Name as name, Prop as prop, Entry as entry}
use Rattle.law.specs.declared.Rules.{Rules}
use Rattle.law.specs.declared.FileType.{FileType}
use Rattle.law.specs.declared.FileType.TheVariants.{Board as board, Panel as panel, Library as library}
use Rattle.law.specs.Records.{shape_of, is_middle, is_component, is_library, type_in}
use Rattle.order_loops.specs.Loops.{complete}
use Rattle.order.specs.Stages.{may_open, after, file_of}
use Rattle.order.specs.Automaton.{start, start_of, after_title, advance, accepting, accepts, type_at}
use Rattle.order.specs.declared.Stage.{Stage}
use Rattle.order.specs.declared.Stage.TheVariants.{Nothing as nothing, Headed as headed, Middle as middle, Finished as finished}
use Rattle.order_loops.specs.declared.LoopState.{LoopState}
use Rattle.order_loops.specs.declared.LoopState.TheVariants.{NoPoint as no_point}
use Rattle.order.specs.declared.Phase.{Phase}
use Rattle.order.specs.declared.Phase.TheVariants.{AwaitTitle as await_title, AwaitName as await_name, HeaderFull as header_full, AwaitLead as await_lead, InPoints as in_points, InProps as in_props, InList as in_list, AwaitPart as await_part, AwaitPosition as await_position}
use Rattle.order.specs.declared.State.{State}
use Rattle.order.specs.declared.State.TheVariants.{Between as between, Inside as inside}
use Rattle.std.specs.Prelude.{Ok as next}
use Rattle.law.specs.Lists.{bit, count, Line, Lines, no_line, line, Pairs, no_pair, pair, Body, led, points, listed, placed, Section, section, Sections, no_section, and_section, Header, header_of, header_of_library, Middle, Permitted, a_board, a_panel, a_library}
use Rattle.law.specs.Bytes.{All}
use Rattle.shown_lists.proofs.Roles.{starts_led}
use Rattle.shown_lists.proofs.Tables.{header_first, placement_not_middle}
use Rattle.shown_lists.proofs.Samples.{retype}
use Rattle.shown_lists.proofs.CompletePoints.{Leads, here, step, leads_append, leads_accepts, open_step, in_step, points_lead}
use Rattle.law.specs.Bytes as B

module _ (v : Rules) where
  module _ (g : Stage) (s : ℕ) where
    props_lead : {rs : List Rec} → Lines v (file_of g) s prop rs → Leads v (inside g s in_props) rs (inside g s in_props)
    props_lead no_line = here
    props_lead (line k rest) = step (in_step v g in_props k) (props_lead rest)

    entries_lead : {rs : List Rec} → Lines v (file_of g) s entry rs → Leads v (inside g s in_list) rs (inside g s in_list)
    entries_lead no_line = here
    entries_lead (line k rest) = step (in_step v g in_list k) (entries_lead rest)

    pairs_lead : {rs : List Rec} → Pairs v (file_of g) s rs → Leads v (inside g s await_part) rs (inside g s await_part)
    pairs_lead no_pair = here
    pairs_lead (pair a b rest) = step (in_step v g await_part a) (step (in_step v g await_position b) (pairs_lead rest))

    pub close_step : {r : Rec} (l : LoopState) → complete l ≡ true → Line v (file_of g) s closing r
        → advance v (inside g s (in_points l)) r ≡ next (between (after g s))
    close_step l e k = in_step v g (in_points l) k ∙ rw e

    prop_step : {r : Rec} (l : LoopState) → complete l ≡ true → Line v (file_of g) s prop r
        → advance v (inside g s (in_points l)) r ≡ next (inside g s in_props)
    prop_step l e k = in_step v g (in_points l) k ∙ rw e

    -- from a complete loop, PROP lines if any, and the closing line
    ends_lead : {c : Rec} {qs : List Rec} (l : LoopState) → complete l ≡ true → Lines v (file_of g) s prop qs → Line v (file_of g) s closing c
        → Leads v (inside g s (in_points l)) (qs ++ (c ∷ [])) (between (after g s))
    ends_lead l e no_line k = step (close_step l e k) here
    ends_lead l e (line a rest) k = step (prop_step l e a) (leads_append v (props_lead rest) (step (in_step v g in_props k) here))

    from : {rs : List Rec} {en : State} (p : Phase) → start_of (shape_of v s) ≡ p → Leads v (inside g s p) rs en
        → Leads v (inside g s (start_of (shape_of v s))) rs en
    from p e l = rw e l

    body_leads : {c : Rec} {bs : List Rec} → Body v (file_of g) s bs → Line v (file_of g) s closing c
        → Leads v (inside g s (start_of (shape_of v s))) (bs ++ (c ∷ [])) (between (after g s))
    body_leads {c} (led {a} {ps} {qs} f k p q) e =
        let w = points_lead v g s p in
        let y : Leads v (inside g s (in_points no_point)) ((ps ++ qs) ++ (c ∷ [])) (between (after g s)) =
        rw append_assoc (leads_append v w.is_led (ends_lead w.stop w.is_complete q e)) in
        from await_lead (starts_led (shape_of v s) f) (step (in_step v g await_lead k) y)
    body_leads (points f p) e =
        let w = points_lead v g s p in
        from (in_points no_point) (ap start_of f) (leads_append v w.is_led (ends_lead w.stop w.is_complete no_line e))
    body_leads (listed f k) e = from in_list (ap start_of f) (leads_append v (entries_lead k) (step (in_step v g in_list e) here))
    body_leads (placed f k) e = from await_part (ap start_of f) (leads_append v (pairs_lead k) (step (in_step v g await_part e) here))

    section_leads : {rs : List Rec} → may_open v g s ≡ true → Section v (file_of g) s rs → Leads v (between g) rs (between (after g s))
    section_leads m (section o b c) = step (open_step v g o m) (body_leads b c)

  bits : (h t : Bool) (c : ℕ) → bit h + (bit t + c) ≤ 1 → (t ≡ true → not h ≡ true) × (bit (h || t) + c ≤ 1)
  bits true true c e = (λ z. absurd (omega arith), omega arith)
  bits true false c e = (λ z. absurd (false≢true z), omega arith)
  bits false true c e = (λ z. refl, omega arith)
  bits false false c e = (λ z. refl, omega arith)

  not_again : (h t : Bool) → (t ≡ true → not h ≡ true) → not (h && t) ≡ true
  not_again true true f = f refl
  not_again true false f = refl
  not_again false t f = refl

  middle_opens : (t : FileType) (h n : Bool) (s : ℕ) → is_middle v s ≡ true → (eqb s 11 ≡ true → not h ≡ true) → (eqb s 12 ≡ true → not n ≡ true)
      → may_open v (middle t h n) s ≡ true
  unfolding may_open
  middle_opens t h n s m a b = or_second (eqb s 13) _ (rw (m, not_again h (eqb s 11) a, not_again n (eqb s 12) b))

  not_last : (s : ℕ) → is_middle v s ≡ true → eqb s 13 ≡ false
  not_last s m = go (eqb s 13) refl
    where
      go : (x : Bool) → eqb s 13 ≡ x → x ≡ false
      go false e = refl
      go true e = absurd (not_both (rw (eqb-true s 13 e) at m) (placement_not_middle v))

  after_middle : (t : FileType) (h n : Bool) (s : ℕ) → is_middle v s ≡ true → after (middle t h n) s ≡ middle t (h || eqb s 11) (n || eqb s 12)
  unfolding after
  after_middle t h n s m = rw (not_last s m)

  -- from the middle, sections lead to the middle
  data ToMiddle (t : FileType) (st : State) (rs : List Rec) : Type 0 where
    to_middle : (h n : Bool) → Leads v st rs (between (middle t h n)) → ToMiddle t st rs

  middle_leads : {t : FileType} {ss : List ℕ} {rs : List Rec} (h n : Bool) → Sections v t ss rs → All (is_middle v) ss → bit h + count 11 ss ≤ 1
      → bit n + count 12 ss ≤ 1
      → ToMiddle t (between (middle t h n)) rs
  middle_leads h n no_section a c d = to_middle h n here
  middle_leads {t} h n (and_section {s} {ss} k rest) (B.one m a) c d =
      let x = bits h (eqb s 11) (count 11 ss) c in
      let y = bits n (eqb s 12) (count 12 ss) d in
      let l = rw (after_middle t h n s m) at (section_leads (middle t h n) s (middle_opens t h n s m x.0 y.0) k) in
      go l (middle_leads (h || eqb s 11) (n || eqb s 12) rest a x.1 y.1)
    where
      go : {st mid : State} {rs ms : List Rec} → Leads v st rs mid → ToMiddle t mid ms → ToMiddle t st (rs ++ ms)
      go l (to_middle h n k) = to_middle h n (leads_append v l k)

  components_lead : {ss : List ℕ} {rs : List Rec} → Sections v library ss rs → All is_component ss
      → Leads v (between (headed library)) rs (between (headed library))
  unfolding after may_open
  components_lead no_section a = here
  components_lead (and_section {s} k rest) (B.one m a) = leads_append v (section_leads (headed library) s m k) (components_lead rest a)

  pub title_step : {r : Rec} (t : FileType) → type_in r ≡ t → Line v library 1 title r
      → advance v (inside nothing 1 await_title) r ≡ next (inside nothing 1 (after_title t))
  title_step t e k = in_step v nothing await_title k ∙ ap (λ (u : FileType). next (inside nothing 1 (after_title u))) e

  open_header : {r : Rec} → Line v library 1 opening r → advance v (between nothing) r ≡ next (inside nothing 1 await_title)
  unfolding may_open
  open_header k = open_step v nothing k refl ∙ ap (λ (f : Shape). next (inside nothing 1 (start_of f))) (header_first v)

  header_in : {o a b c : Rec} (t : FileType) → type_in a ≡ t → is_library t ≡ false → Line v library 1 opening o → Line v library 1 title a
      → Line v library 1 name b → Line v library 1 closing c
      → Leads v start (o ∷ a ∷ b ∷ c ∷ []) (between (headed t))
  unfolding may_open
  header_in board i e o k n c =
      step (open_header o) (step (title_step board i k) (step (in_step v nothing (await_name board) n) (step (in_step v nothing (header_full board) c) here)))
  header_in panel i e o k n c =
      step (open_header o) (step (title_step panel i k) (step (in_step v nothing (await_name panel) n) (step (in_step v nothing (header_full panel) c) here)))
  header_in library i e o k n c = absurd (false≢true (sym e))

  header_leads : {t : FileType} {rs : List Rec} → Header v t rs → Leads v start rs (between (headed t))
  unfolding may_open
  header_leads {t} (header_of e o k i n c) =
      header_in t i e (retype v library refl refl o) (retype v library refl refl k) (retype v library refl refl n) (retype v library refl refl c)
  header_leads (header_of_library o k i c) =
      step (open_header o) (step (title_step library i k) (step (in_step v nothing (header_full library) c) here))

  -- the middle and the placement
  tail_leads : {rs ps : List Rec} {t : FileType} {st : State} → ToMiddle t st rs → Section v t 13 ps → Leads v st (rs ++ ps) (between (finished t))
  unfolding after may_open
  tail_leads {t = t} (to_middle h n k) p = leads_append v k (section_leads (middle t h n) 13 refl p)

  -- header, outline, middle, placement
  whole : {hs os ms ps : List Rec} {ss : List ℕ} (t : FileType) (s : ℕ) → may_open v (headed t) s ≡ true → after (headed t) s ≡ middle t false false
      → Header v t hs → Section v t s os → Sections v t ss ms → Middle v ss → Section v t 13 ps → Leads v start (hs ++ (os ++ (ms ++ ps))) (between (finished t))
  whole {ss = ss} t s m e h o k a p =
      let x = rw e at (section_leads (headed t) s m o) in
      let c : bit false + count 11 ss ≤ 1 = omega (arith, a.holes_once) in
      let d : bit false + count 12 ss ≤ 1 = omega (arith, a.notes_once) in
      leads_append v (header_leads h) (leads_append v x (tail_leads (middle_leads false false k a.among c d) p))

  pub leads_to_end : {rs : List Rec} {en : State} → Leads v start rs en → accepting en ≡ true → accepts v start rs ≡ true
  leads_to_end {rs} l e = let x = leads_accepts v l [] in (rw append-nil at x) ∙ e

  -- a permitted list leads to a state in which a file may end, and which has its type
  pub record Ends (rs : List Rec) : Type 0 where
    pub state : State
    pub is_led : Leads v start rs state
    pub may_end_lem : accepting state ≡ true
    pub typed : type_at state ≡ titled rs

  header_titled : {t : FileType} {hs : List Rec} → Header v t hs → (ms : List Rec) → t ≡ titled (hs ++ ms)
  header_titled (header_of e o k i n c) ms = sym i
  header_titled (header_of_library o k i c) ms = sym i

  pub permitted_ends : {rs : List Rec} → Permitted v rs → Ends rs
  unfolding after may_open
  permitted_ends (a_board {os = os} {ms = ms} {ps = ps} h o k a p) =
      record { state = between (finished board); is_led = whole board 2 refl refl h o k a p; may_end_lem = refl; typed = header_titled h (os ++ (ms ++ ps)) }
  permitted_ends (a_panel {os = os} {ms = ms} {ps = ps} h o k a p) =
      record { state = between (finished panel); is_led = whole panel 3 refl refl h o k a p; may_end_lem = refl; typed = header_titled h (os ++ (ms ++ ps)) }
  permitted_ends (a_library {ms = ms} h k a) =
      record { state = between (headed library); is_led = leads_append v (header_leads h) (components_lead k a); may_end_lem = refl; typed = header_titled h ms }

  -- so it is accepted
  pub permitted_accepted : {rs : List Rec} → Permitted v rs → accepts v start rs ≡ true
  permitted_accepted p = let e = permitted_ends p in leads_to_end e.is_led e.may_end_lem
