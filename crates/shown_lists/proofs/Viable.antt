-- Every state that a list can reach can be brought to an end.
use Prim.Native.Nat.{ℕ, ◌≤◌}
use mathlib.Core.Path.{◌≡◌, refl, sym, ap, ◌∙◌}
use mathlib.Core.Logic.{◌≢◌}
use mathlib.Core.List.{List, [], ◌∷◌}
use Rattle.std.specs.Prelude.{Some as some, Ok as next}
use mathlib.Core.Bool.{Bool, true, false}
use native.Mathlib.Omega.{arith}
use lib.IntN.{ℤ, pos}
use Rattle.basics.proofs.Integers.{eq_z_same, eq_z_differ}
use Rattle.basics.specs.Integers.{eq_z}
use Rattle.law.specs.Bytes.{all_of}
use Rattle.law.specs.Values.{Rec}
use Rattle.law.specs.Sections.{Shape, header, placements}
use Rattle.law.specs.Kinds.{kind_at, role_in}
use Rattle.law.specs.declared.Role.{Role}
use Rattle.law.specs.declared.Role.TheVariants.{Opening as opening, Closing as closing, Title as title, Name as name, Lead as lead, Position as position, Unknown as unknown}
use Rattle.law.specs.Fits.{text_byte}
use Rattle.law.specs.declared.Rules.{Rules}
use Rattle.law.specs.declared.FileType.{FileType}
use Rattle.law.specs.declared.FileType.TheVariants.{Board as board, Panel as panel, Library as library}
use Rattle.law.specs.Records.{shape_of, many_loops, label_of, place_of, angle_of, type_in, names_a_component, name_in}
use Rattle.order.specs.Marks.{point_of}
use Rattle.law.specs.Limits.{whole_turn}
use Rattle.order_loops.specs.Loops.{reached, loop_after, complete}
use Rattle.order.specs.Stages.{may_open, after, file_of}
use Rattle.order.specs.Places.{point_line}
use Rattle.order.specs.Automaton.{start_of, is_role, after_title, advance, accepting, accepts}
use Rattle.order_loops.specs.declared.Place.{Place as Spot}
use Rattle.order.specs.declared.Stage.{Stage}
use Rattle.order.specs.declared.Stage.TheVariants.{Nothing as nothing, Headed as headed, Middle as middle, Finished as finished}
use Rattle.order_loops.specs.declared.LoopState.{LoopState}
use Rattle.order_loops.specs.declared.LoopState.TheVariants.{NoPoint as no_point, OnePoint as one_point, Away as away, Back as back}
use Rattle.order.specs.declared.Phase.{Phase}
use Rattle.order.specs.declared.Phase.TheVariants.{AwaitTitle as await_title, AwaitName as await_name, HeaderFull as header_full, AwaitLead as await_lead, InPoints as in_points, InProps as in_props, InList as in_list, AwaitPart as await_part, AwaitPosition as await_position}
use Rattle.order.specs.declared.State.{State}
use Rattle.order.specs.declared.State.TheVariants.{Between as between, Inside as inside}
use Rattle.law.specs.Lists.{leads, Line, names_of}
use Rattle.shown_lists.proofs.Spots.{spot, spot_of, same_same, same_differ}
use Rattle.shown_lists.proofs.Roles.{is_section, has_points, led_points, lead_first, starts_led}
use Rattle.shown_lists.proofs.Tables.{header_first, placement_shape, outline_leads, are_sections, section_at_lem, role_at, component_fields, outlines_name_none}
use Rattle.shown_lists.proofs.Samples.{origin_at, sample, sample_line, origin_line, elsewhere, no_name}
use Rattle.shown_lists.proofs.CompletePoints.{open_step, in_step, point_step, second_after}
use Rattle.shown_lists.proofs.Complete.{close_step}
use Rattle.shown_lists.proofs.Sane.{First, Fine, fine_none, fine_one, fine_away, fine_back, fine_round, SaneIn, sane_title, sane_name, sane_full, sane_lead, sane_points, sane_props, sane_list, sane_part, sane_position, Sane, sane_between, sane_inside}

module _ (v : Rules) where
  -- an end that names no component
  pub record Quiet (st : State) : Type 0 where
    pub rest : List Rec
    pub ends : accepts v st rest ≡ true
    pub nameless : names_of v rest ≡ []

  quiet_step : {st mid : State} (r : Rec) → advance v st r ≡ next mid → names_a_component v r.kind ≡ false → Quiet mid → Quiet st
  quiet_step r e n q = record { rest = r ∷ q.rest; ends = rw e q.ends; nameless = rw n q.nameless }

  flat_not_full : (z : ℤ) → z ≡ pos 0 → z ≢ whole_turn
  flat_not_full z a b = let y : ◌≡◌ {A = ℕ} 0 36000000 = cc in omega arith

  closes_away : (many : Bool) (l : ℤ) (f q : Spot) (r : Rec) → label_of r ≡ l → place_of r ≢ spot q → angle_of r ≢ whole_turn → place_of r ≡ spot f
      → loop_after many (away l f q) (point_of r) ≡ some (back l f)
  unfolding loop_after
  closes_away many l f q r a b c d = rw (eq_z_same _ _ a, same_differ (spot_of r) q b, eq_z_differ _ _ c, same_same (spot_of r) f d)

  first_away : (many : Bool) (l : ℤ) (f : Spot) (r : Rec) → label_of r ≡ l → place_of r ≢ spot f → angle_of r ≢ whole_turn
      → loop_after many (one_point l f) (point_of r) ≡ some (away l f (spot_of r))
  first_away many l f r a b c = let z : reached l f (spot_of r) ≡ away l f (spot_of r) = rw (same_differ (spot_of r) f b) in second_after v many l f r a b c ∙ ap some z

  origin_begins : (many : Bool) (k : ℕ) → loop_after many no_point (point_of (origin_at k)) ≡ some (one_point (pos 0) (spot_of (origin_at k)))
  unfolding loop_after eq_z
  origin_begins true k = refl
  origin_begins false k = refl

  -- with texts w in it
  module _ (w : List ℕ) (texts : all_of text_byte w ≡ true) where
    -- a line with a given role
    line_of : (t : FileType) (s n : ℕ) (a : Role) → is_section v s ≡ true → is_role a unknown ≡ false → n ≤ 9 → role_in (shape_of v s) n ≡ a
        → Line v t s a (sample v w (kind_at v s n))
    line_of t s n a i u h e = sample_line v w texts t s a (kind_at v s n) u (section_at_lem v s n i h) (role_at v s n i h ∙ e)

    module _ (g : Stage) (s : ℕ) (i : is_section v s ≡ true) (after-that : Quiet (between (after g s))) where
      closing_line : Line v (file_of g) s closing (sample v w (kind_at v s 9))
      closing_line = line_of (file_of g) s 9 closing i refl (omega arith) refl

      quiet_close : {p : Phase} → advance v (inside g s p) (sample v w (kind_at v s 9)) ≡ next (between (after g s)) → Quiet (inside g s p)
      quiet_close h = quiet_step _ h (no_name v refl closing_line) after-that

      quiet_complete : (l : LoopState) → complete l ≡ true → Quiet (inside g s (in_points l))
      quiet_complete l h = quiet_close (close_step v g s l h closing_line)

      quiet_away : {l : ℤ} {f q : Spot} → First v (file_of g) s l f → spot q ≢ spot f → Quiet (inside g s (in_points (away l f q)))
      quiet_away {l} {f} {q} a n =
          quiet_step a.first
          (point_step v g _ _ a.is_line (closes_away (many_loops s) l f q a.first a.is_label (λ h. n (sym h ∙ a.is_place)) (flat_not_full _ a.is_flat) a.is_place))
          (no_name v refl a.is_line) (quiet_complete (back l f) refl)

      quiet_one : {l : ℤ} {f : Spot} → First v (file_of g) s l f → Quiet (inside g s (in_points (one_point l f)))
      quiet_one {l} {f} a =
          let x = elsewhere v a.is_line in
          let n : place_of x.there ≢ spot f = λ h. x.other_place (h ∙ sym a.is_place) in
          quiet_step x.there
          (point_step v g _ _ x.is_line (first_away (many_loops s) l f x.there (x.same_label ∙ a.is_label) n (flat_not_full _ (x.same_angle ∙ a.is_flat))))
          (no_name v refl x.is_line) (quiet_away a n)

      quiet_none : has_points (shape_of v s) ≡ true → Quiet (inside g s (in_points no_point))
      quiet_none h =
          let k = origin_line v (file_of g) s i h in
          quiet_step _ (point_step v g _ _ k (origin_begins (many_loops s) (kind_at v s (point_line (shape_of v s))))) (no_name v refl k)
          (quiet_one (record { first = _; is_line = k; is_label = refl; is_place = refl; is_flat = refl }))

      quiet_points : {l : LoopState} → has_points (shape_of v s) ≡ true → Fine v (file_of g) s l → Quiet (inside g s (in_points l))
      quiet_points h fine_none = quiet_none h
      quiet_points h (fine_one a) = quiet_one a
      quiet_points h (fine_away a n) = quiet_away a n
      quiet_points h (fine_back a) = quiet_complete _ refl
      quiet_points h fine_round = quiet_complete _ refl

      -- the other phases
      quiet_props : Quiet (inside g s in_props)
      quiet_props = quiet_close (in_step v g in_props closing_line)

      quiet_list : Quiet (inside g s in_list)
      quiet_list = quiet_close (in_step v g in_list closing_line)

      quiet_part : Quiet (inside g s await_part)
      quiet_part = quiet_close (in_step v g await_part closing_line)

      quiet_position : shape_of v s ≡ placements → Quiet (inside g s await_position)
      quiet_position f =
          let k = line_of (file_of g) s 2 position i refl (omega arith) (ap (λ (x : Shape). role_in x 2) f) in
          quiet_step _ (in_step v g await_position k) (no_name v refl k) quiet_part

      -- a section that is not a component
      quiet_lead : leads (shape_of v s) ≡ true → names_a_component v (kind_at v s 1) ≡ false → Quiet (inside g s await_lead)
      quiet_lead h n =
          let k = line_of (file_of g) s 1 lead i refl (omega arith) (lead_first (shape_of v s) h) in
          quiet_step _ (in_step v g await_lead k) n (quiet_none (led_points (shape_of v s) h))

    opening_line : (g : Stage) (s : ℕ) → is_section v s ≡ true → Line v (file_of g) s opening (sample v w (kind_at v s 0))
    opening_line g s i = line_of (file_of g) s 0 opening i refl (omega arith) refl

    quiet_open : (g : Stage) (s : ℕ) → is_section v s ≡ true → may_open v g s ≡ true → Quiet (inside g s (start_of (shape_of v s))) → Quiet (between g)
    quiet_open g s i m q = let k = opening_line g s i in quiet_step _ (open_step v g k m) (no_name v refl k) q

    quiet_end : (g : Stage) → accepting (between g) ≡ true → Quiet (between g)
    quiet_end g h = record { rest = []; ends = h; nameless = refl }

    quiet_middle : (t : FileType) (h n : Bool) → Quiet (between (middle t h n))
    unfolding may_open after
    quiet_middle t h n =
        let i = (are_sections v).3 in
        quiet_open (middle t h n) 13 i refl (rw (placement_shape v) (quiet_part (middle t h n) 13 i (quiet_end (finished t) refl)))

    quiet_outline : (t : FileType) (s : ℕ) → is_section v s ≡ true → may_open v (headed t) s ≡ true → leads (shape_of v s) ≡ true
        → names_a_component v (kind_at v s 1) ≡ false → Quiet (between (after (headed t) s)) → Quiet (between (headed t))
    quiet_outline t s i m l n q = quiet_open (headed t) s i m (rw (starts_led (shape_of v s) l) (quiet_lead (headed t) s i q l n))

    quiet_headed : (t : FileType) → Quiet (between (headed t))
    unfolding may_open after
    quiet_headed board = quiet_outline board 2 (are_sections v).1 refl (outline_leads v).0 (outlines_name_none v).0 (quiet_middle board false false)
    quiet_headed panel = quiet_outline panel 3 (are_sections v).2 refl (outline_leads v).1 (outlines_name_none v).1 (quiet_middle panel false false)
    quiet_headed library = quiet_end (headed library) refl

    -- the header
    quiet_full : (g : Stage) (s : ℕ) (i : is_section v s ≡ true) (t : FileType) → Quiet (inside g s (header_full t))
    quiet_full g s i t =
        let k = line_of (file_of g) s 9 closing i refl (omega arith) refl in
        quiet_step _ (in_step v g (header_full t) k) (no_name v refl k) (quiet_headed t)

    quiet_name : (g : Stage) (s : ℕ) (i : is_section v s ≡ true) (t : FileType) → shape_of v s ≡ header → Quiet (inside g s (await_name t))
    quiet_name g s i t f =
        let k = line_of (file_of g) s 2 name i refl (omega arith) (ap (λ (x : Shape). role_in x 2) f) in
        quiet_step _ (in_step v g (await_name t) k) (no_name v refl k) (quiet_full g s i t)

    quiet_named : (g : Stage) (s : ℕ) (i : is_section v s ≡ true) (t : FileType) → shape_of v s ≡ header → Quiet (inside g s (after_title t))
    quiet_named g s i board f = quiet_name g s i board f
    quiet_named g s i panel f = quiet_name g s i panel f
    quiet_named g s i library f = quiet_full g s i library

    quiet_title : (g : Stage) (s : ℕ) (i : is_section v s ≡ true) → shape_of v s ≡ header → Quiet (inside g s await_title)
    quiet_title g s i f =
        let k = line_of (file_of g) s 1 title i refl (omega arith) (ap (λ (x : Shape). role_in x 1) f) in
        quiet_step _ (in_step v g await_title k) (no_name v refl k) (quiet_named g s i (type_in (sample v w (kind_at v s 1))) f)

    quiet_between : (g : Stage) → Quiet (between g)
    unfolding may_open
    quiet_between nothing = let i = (are_sections v).0 in quiet_open nothing 1 i refl (rw (header_first v) (quiet_title nothing 1 i (header_first v)))
    quiet_between (headed t) = quiet_headed t
    quiet_between (middle t h n) = quiet_middle t h n
    quiet_between (finished t) = quiet_end (finished t) refl

    pub data Ending (st : State) : Type 0 where
      quietly : Quiet st → Ending st
      with_one : (rs : List Rec) → accepts v st rs ≡ true → names_of v rs ≡ record { geometry = w; number = w } ∷ [] → Ending st

    sample_name : (k : ℕ) → names_a_component v k ≡ true → name_in (sample v w k) ≡ record { geometry = w; number = w }
    sample_name k h = rw (component_fields v k h).1

    lead_ends : (g : Stage) (s : ℕ) → is_section v s ≡ true → leads (shape_of v s) ≡ true → Ending (inside g s await_lead)
    lead_ends g s i h = go (names_a_component v (kind_at v s 1)) refl
      where
        q : Quiet (inside g s (in_points no_point))
        q = quiet_none g s i (quiet_between (after g s)) (led_points (shape_of v s) h)

        k : Line v (file_of g) s lead (sample v w (kind_at v s 1))
        k = line_of (file_of g) s 1 lead i refl (omega arith) (lead_first (shape_of v s) h)

        go : (b : Bool) → names_a_component v (kind_at v s 1) ≡ b → Ending (inside g s await_lead)
        go false n = quietly (quiet_step _ (in_step v g await_lead k) n q)
        go true n = with_one (sample v w (kind_at v s 1) ∷ q.rest) (rw (in_step v g await_lead k) q.ends) (rw (n, q.nameless, sample_name (kind_at v s 1) n))

    ending_in : {g : Stage} {s : ℕ} {p : Phase} → is_section v s ≡ true → SaneIn v g s p → Ending (inside g s p)
    ending_in {g} {s} i (sane_title f) = quietly (quiet_title g s i f)
    ending_in {g} {s} i (sane_name {t} f) = quietly (quiet_name g s i t f)
    ending_in {g} {s} i (sane_full {t}) = quietly (quiet_full g s i t)
    ending_in {g} {s} i (sane_lead h) = lead_ends g s i h
    ending_in {g} {s} i (sane_points h f) = quietly (quiet_points g s i (quiet_between (after g s)) h f)
    ending_in {g} {s} i sane_props = quietly (quiet_props g s i (quiet_between (after g s)))
    ending_in {g} {s} i (sane_list f) = quietly (quiet_list g s i (quiet_between (after g s)))
    ending_in {g} {s} i (sane_part f) = quietly (quiet_part g s i (quiet_between (after g s)))
    ending_in {g} {s} i (sane_position f) = quietly (quiet_position g s i (quiet_between (after g s)) f)

    pub ending : {st : State} → Sane v st → Ending st
    ending (sane_between {g}) = quietly (quiet_between g)
    ending (sane_inside i h) = ending_in i h
