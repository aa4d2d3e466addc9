-- The order of sections, the lines of a section and the loop rule as tables, computed from the definitions, both sides of each row.
use Prim.Native.Nat.{ℕ}
use mathlib.Core.Path.{◌≡◌, refl}
use mathlib.Core.List.{List, [], ◌∷◌}
use mathlib.Core.Bool.{Bool, true, false, cond}
use lib.IntN.{pos}
use Rattle.std.specs.Prelude.{Option, Some as some, None as none, Result, Ok as next, Err as refused}
use Rattle.rows.specs.declared.Point.{Point}
use Rattle.basics.specs.Integers.{eq_z}
use Rattle.law.specs.Sections.{sections}
use Rattle.law.specs.Kinds.{kind_at, section_of, line_of, role_of}
use Rattle.law.specs.declared.Role.{Role}
use Rattle.law.specs.declared.Role.TheVariants as role
use Rattle.form.specs.declared.Keyword.TheVariants.{Opening, Closing, Unknown}
use Rattle.law.specs.declared.Rules.TheVariants.{Idf3}
use Rattle.law.specs.declared.FileType.TheVariants.{Board as board, Panel as panel, Library as library}
use Rattle.law.specs.Records.{shape_of, many_loops, is_middle}
use Rattle.order_loops.specs.Loops.{loop_after}
use Rattle.order.specs.Stages.{may_open, after, may_end}
use Rattle.order.specs.Places.{data_kind, key_kind}
use Rattle.order.specs.Automaton.{start_of, stands_in, moved_in, may_stand}
use Rattle.order_loops.specs.declared.Place.{Place}
use Rattle.order.specs.declared.Stage.{Stage}
use Rattle.order.specs.declared.Stage.TheVariants.{Nothing as nothing, Headed as headed, Middle as middle, Finished as finished}
use Rattle.order_loops.specs.declared.LoopState.{LoopState}
use Rattle.order_loops.specs.declared.LoopState.TheVariants.{NoPoint as no_point, OnePoint as one_point, Away as away, Back as back, Round as round}
use Rattle.order.specs.declared.Phase.{Phase}
use Rattle.order.specs.declared.Phase.TheVariants.{AwaitTitle as await_title, AwaitName as await_name, HeaderFull as header_full, AwaitLead as await_lead, InPoints as in_points, InProps as in_props, InList as in_list, AwaitPart as await_part, AwaitPosition as await_position}
use Rattle.order.specs.declared.State.{State}
use Rattle.order.specs.declared.State.TheVariants.{Between as between, Inside as inside}
use Rattle.order.specs.declared.Reason.{Reason}
use Rattle.order.specs.declared.Reason.TheVariants.{BadLoop as bad_loop}

-- what of a list passes a test
abbrev chosen : {A : Type 0} → (A → Bool) → List A → List A
chosen f [] = []
chosen f (n ∷ ns) = cond (f n) (n ∷ chosen f ns) (chosen f ns)

-- which sections may open, of all, and of 0 and 16, which are none
abbrev opens : Stage → List ℕ
opens g = chosen (may_open Idf3 g) (0 ∷ 1 ∷ 2 ∷ 3 ∷ 4 ∷ 5 ∷ 6 ∷ 7 ∷ 8 ∷ 9 ∷ 10 ∷ 11 ∷ 12 ∷ 13 ∷ 14 ∷ 15 ∷ 16 ∷ [])

pub record Order : Type 0 where
  at_first : opens nothing ≡ 1 ∷ []
  of_a_board : opens (headed board) ≡ 2 ∷ []
  of_a_panel : opens (headed panel) ≡ 3 ∷ []
  of_a_library : opens (headed library) ≡ 14 ∷ 15 ∷ []
  after_the_outline : opens (middle board false false) ≡ 4 ∷ 5 ∷ 6 ∷ 7 ∷ 8 ∷ 9 ∷ 10 ∷ 11 ∷ 12 ∷ 13 ∷ []
  after_holes : opens (middle board true false) ≡ 4 ∷ 5 ∷ 6 ∷ 7 ∷ 8 ∷ 9 ∷ 10 ∷ 12 ∷ 13 ∷ []
  after_notes : opens (middle panel false true) ≡ 4 ∷ 5 ∷ 6 ∷ 7 ∷ 8 ∷ 9 ∷ 10 ∷ 11 ∷ 13 ∷ []
  after_both : opens (middle panel true true) ≡ 4 ∷ 5 ∷ 6 ∷ 7 ∷ 8 ∷ 9 ∷ 10 ∷ 13 ∷ []
  after_placement : opens (finished board) ≡ []
  board_outline : after (headed board) 2 ≡ middle board false false
  panel_outline : after (headed panel) 3 ≡ middle panel false false
  component : after (headed library) 14 ≡ headed library
  other_outline : after (middle board true false) 4 ≡ middle board true false
  place_region : after (middle panel false true) 10 ≡ middle panel false true
  drilled_holes : after (middle board false true) 11 ≡ middle board true true
  notes : after (middle board false false) 12 ≡ middle board false true
  placement : after (middle panel false false) 13 ≡ finished panel
  ends_nowhere : may_end nothing ≡ false
  ends_board_headed : may_end (headed board) ≡ false
  ends_panel_headed : may_end (headed panel) ≡ false
  ends_middle : may_end (middle board true true) ≡ false
  ends_placed : may_end (finished board) ≡ true
  ends_library : may_end (headed library) ≡ true

pub order : Order
unfolding may_open is_middle after
order =
    record {
      at_first = refl;
      of_a_board = refl;
      of_a_panel = refl;
      of_a_library = refl;
      after_the_outline = refl;
      after_holes = refl;
      after_notes = refl;
      after_both = refl;
      after_placement = refl;
      board_outline = refl;
      panel_outline = refl;
      component = refl;
      other_outline = refl;
      place_region = refl;
      drilled_holes = refl;
      notes = refl;
      placement = refl;
      ends_nowhere = refl;
      ends_board_headed = refl;
      ends_panel_headed = refl;
      ends_middle = refl;
      ends_placed = refl;
      ends_library = refl;
    }

-- the places of a loop, and its points by label and angle
abbrev here : Place
here = record { x = record { 0 = pos 0 }; y = record { 0 = pos 0 } }

abbrev there : Place
there = record { x = record { 0 = pos 1 }; y = record { 0 = pos 0 } }

abbrev beside : Place
beside = record { x = record { 0 = pos 1 }; y = record { 0 = pos 1 } }

abbrev at : Place → ℕ → ℕ → Point
at p l a = record { label = pos l; x = p.x; y = p.y; angle = record { 0 = pos a } }

abbrev turn : ℕ
turn = 36_000_000

-- which roles may stand, of all
abbrev stands : Phase → List Role
stands p = chosen (stands_in p) (role.Opening ∷ role.Title ∷ role.Name ∷ role.Lead ∷ role.Point ∷ role.Prop ∷ role.Entry ∷ role.Part ∷ role.Position ∷ role.Closing ∷ role.Unknown ∷ [])

-- what a line does in section s of a board, by its role
abbrev moves : ℕ → Phase → Role → Result State Reason
moves s p a = moved_in (middle board false false) s p a board (at here 0 0)

abbrev on : ℕ → Phase → Result State Reason
on s p = next (inside (middle board false false) s p)

abbrev out : Result State Reason
out = next (between (middle board false false))

-- the kind of a data line in section s; marked with the bare word PROP or not
abbrev kinds : ℕ → Phase → List ℕ
kinds s p = data_kind Idf3 (inside nothing s p) false ∷ data_kind Idf3 (inside nothing s p) true ∷ []

pub record Within : Type 0 where
  title : stands await_title ≡ role.Title ∷ []
  title_board : moves 1 await_title role.Title ≡ on 1 (await_name board)
  title_library : moved_in nothing 1 await_title role.Title library (at here 0 0) ≡ next (inside nothing 1 (header_full library))
  name : stands (await_name board) ≡ role.Name ∷ []
  name_moves : moves 1 (await_name panel) role.Name ≡ on 1 (header_full panel)
  full : stands (header_full board) ≡ role.Closing ∷ []
  full_moves : moves 1 (header_full panel) role.Closing ≡ next (between (headed panel))
  lead : stands await_lead ≡ role.Lead ∷ []
  lead_moves : moves 5 await_lead role.Lead ≡ on 5 (in_points no_point)
  points : stands (in_points no_point) ≡ role.Point ∷ role.Prop ∷ role.Closing ∷ []
  closed_at_once : moves 8 (in_points no_point) role.Closing ≡ refused bad_loop
  closed_after_one : moves 8 (in_points (one_point (pos 0) here)) role.Closing ≡ refused bad_loop
  closed_away : moves 8 (in_points (away (pos 0) here there)) role.Closing ≡ refused bad_loop
  closed_back : moves 8 (in_points (back (pos 0) here)) role.Closing ≡ out
  closed_round : moves 8 (in_points (round (pos 0))) role.Closing ≡ out
  prop_away : moves 14 (in_points (away (pos 0) here there)) role.Prop ≡ refused bad_loop
  prop_back : moves 14 (in_points (back (pos 0) here)) role.Prop ≡ on 14 in_props
  props : stands in_props ≡ role.Prop ∷ role.Closing ∷ []
  props_go_on : moves 14 in_props role.Prop ≡ on 14 in_props
  props_end : moves 14 in_props role.Closing ≡ out
  entries : stands in_list ≡ role.Entry ∷ role.Closing ∷ []
  entries_go_on : moves 7 in_list role.Entry ≡ on 7 in_list
  entries_end : moves 7 in_list role.Closing ≡ out
  part : stands await_part ≡ role.Part ∷ role.Closing ∷ []
  part_moves : moves 7 await_part role.Part ≡ on 7 await_position
  parts_end : moves 7 await_part role.Closing ≡ out
  position : stands await_position ≡ role.Position ∷ []
  position_moves : moves 13 await_position role.Position ≡ on 13 await_part
  begins_title : start_of (shape_of Idf3 1) ≡ await_title
  begins_lead : start_of (shape_of Idf3 10) ≡ await_lead
  begins_points : start_of (shape_of Idf3 8) ≡ in_points no_point
  begins_entries : start_of (shape_of Idf3 11) ≡ in_list
  begins_parts : start_of (shape_of Idf3 13) ≡ await_part
  kind_title : kinds 1 await_title ≡ 11 ∷ 11 ∷ []
  kind_name : kinds 1 (await_name board) ≡ 12 ∷ 12 ∷ []
  kind_full : kinds 1 (header_full board) ≡ 0 ∷ 0 ∷ []
  kind_lead : kinds 14 await_lead ≡ 141 ∷ 141 ∷ []
  kind_points : kinds 14 (in_points no_point) ≡ 142 ∷ 143 ∷ []
  kind_props : kinds 14 in_props ≡ 0 ∷ 143 ∷ []
  kind_mechanical : kinds 15 (in_points no_point) ≡ 152 ∷ 152 ∷ []
  kind_keepout : kinds 8 (in_points no_point) ≡ 81 ∷ 81 ∷ []
  kind_holes : kinds 11 in_list ≡ 111 ∷ 111 ∷ []
  kind_part : kinds 13 await_part ≡ 131 ∷ 131 ∷ []
  kind_position : kinds 13 await_position ≡ 132 ∷ 132 ∷ []
  own_line : may_stand Idf3 (inside nothing 1 await_title) 11 ≡ true
  another_closing : may_stand Idf3 (inside nothing 5 (in_points (round (pos 0)))) 49 ≡ false
  an_opening : may_stand Idf3 (inside nothing 5 (in_points (round (pos 0)))) 60 ≡ false
  own_closing : may_stand Idf3 (inside nothing 5 (in_points (round (pos 0)))) 59 ≡ true
  unknown_keyword : may_stand Idf3 (inside nothing 5 await_lead) (key_kind Idf3 Unknown) ≡ false
  closing_between : may_stand Idf3 (between (headed board)) 29 ≡ false
  data_between : may_stand Idf3 (between (headed board)) 21 ≡ false
  opening_between : may_stand Idf3 (between (headed board)) (key_kind Idf3 (Opening 2)) ≡ true
  kind_closing : key_kind Idf3 (Closing 13) ≡ 139
  kind_between : data_kind Idf3 (between (finished board)) true ≡ 0

pub within : Within
unfolding many_loops after shape_of sections data_kind key_kind kind_at may_stand may_open role_of section_of line_of
within =
    record {
      title = refl;
      title_board = refl;
      title_library = refl;
      name = refl;
      name_moves = refl;
      full = refl;
      full_moves = refl;
      lead = refl;
      lead_moves = refl;
      points = refl;
      closed_at_once = refl;
      closed_after_one = refl;
      closed_away = refl;
      closed_back = refl;
      closed_round = refl;
      prop_away = refl;
      prop_back = refl;
      props = refl;
      props_go_on = refl;
      props_end = refl;
      entries = refl;
      entries_go_on = refl;
      entries_end = refl;
      part = refl;
      part_moves = refl;
      parts_end = refl;
      position = refl;
      position_moves = refl;
      begins_title = refl;
      begins_lead = refl;
      begins_points = refl;
      begins_entries = refl;
      begins_parts = refl;
      kind_title = refl;
      kind_name = refl;
      kind_full = refl;
      kind_lead = refl;
      kind_points = refl;
      kind_props = refl;
      kind_mechanical = refl;
      kind_keepout = refl;
      kind_holes = refl;
      kind_part = refl;
      kind_position = refl;
      own_line = refl;
      another_closing = refl;
      an_opening = refl;
      own_closing = refl;
      unknown_keyword = refl;
      closing_between = refl;
      data_between = refl;
      opening_between = refl;
      kind_closing = refl;
      kind_between = refl;
    }

-- in a section with many loops, and in one with one
abbrev many : LoopState → Point → Option LoopState
many l d = loop_after true l d

abbrev single : LoopState → Point → Option LoopState
single l d = loop_after false l d

abbrev one : LoopState
one = one_point (pos 0) here

abbrev gone : LoopState
gone = away (pos 0) here there

abbrev home : LoopState
home = back (pos 0) here

pub record Looping : Type 0 where
  first_angle : many no_point (at here 0 1) ≡ none
  first_0 : many no_point (at here 0 0) ≡ some one
  first_1 : many no_point (at here 1 0) ≡ none
  only_0 : single no_point (at here 0 0) ≡ some one
  only_1 : single no_point (at here 1 0) ≡ some (one_point (pos 1) here)
  only_2 : single no_point (at here 2 0) ≡ none
  second_label : single one (at there 1 0) ≡ none
  second_same : single one (at here 0 0) ≡ none
  second_centre : single one (at here 0 turn) ≡ none
  second_circle : single one (at there 0 turn) ≡ some (round (pos 0))
  second_path : single one (at there 0 5) ≡ some gone
  gone_label : many gone (at beside 1 0) ≡ none
  gone_turn : many gone (at beside 0 turn) ≡ none
  gone_same : many gone (at there 0 0) ≡ none
  gone_back : many gone (at here 0 0) ≡ some home
  gone_on : many gone (at beside 0 0) ≡ some (away (pos 0) here beside)
  home_next : many home (at there 1 0) ≡ some (one_point (pos 1) there)
  home_next_angle : many home (at there 1 1) ≡ none
  home_next_alone : single home (at there 1 0) ≡ none
  home_label : many home (at there 2 0) ≡ none
  home_turn : many home (at there 0 turn) ≡ none
  home_same : many home (at here 0 0) ≡ none
  home_on : single home (at there 0 0) ≡ some gone
  round_next : many (round (pos 0)) (at there 1 0) ≡ some (one_point (pos 1) there)
  round_next_angle : many (round (pos 0)) (at there 1 1) ≡ none
  round_label : many (round (pos 0)) (at there 2 0) ≡ none
  round_on : many (round (pos 0)) (at there 0 0) ≡ none
  round_alone : single (round (pos 0)) (at there 1 0) ≡ none

pub looping : Looping
unfolding loop_after eq_z
looping =
    record {
      first_angle = refl;
      first_0 = refl;
      first_1 = refl;
      only_0 = refl;
      only_1 = refl;
      only_2 = refl;
      second_label = refl;
      second_same = refl;
      second_centre = refl;
      second_circle = refl;
      second_path = refl;
      gone_label = refl;
      gone_turn = refl;
      gone_same = refl;
      gone_back = refl;
      gone_on = refl;
      home_next = refl;
      home_next_angle = refl;
      home_next_alone = refl;
      home_label = refl;
      home_turn = refl;
      home_same = refl;
      home_on = refl;
      round_next = refl;
      round_next_angle = refl;
      round_label = refl;
      round_on = refl;
      round_alone = refl;
    }
