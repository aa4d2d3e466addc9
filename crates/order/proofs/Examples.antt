-- Lists of records on either side of a rule, run.
use Prim.Native.Nat.{ℕ}
use mathlib.Core.Path.{◌≡◌, refl}
use mathlib.Core.List.{List, [], ◌∷◌, ◌++◌}
use mathlib.Core.Bool.{false}
use lib.IntN.{ℤ, pos, negsuc}
use Rattle.basics.specs.Integers.{eq_z}
use Rattle.law.specs.Bytes.{all_of, permitted, ascii}
use Rattle.law.specs.Dates.{date_pieces, is_two, fits_in, is_date}
use Rattle.law.specs.Values.{Value, number, word, text, Rec}
use Rattle.law.specs.Words.{words_of, same_bytes, word_at, named, is_in, folded}
use Rattle.law.specs.Sections.{sections}
use Rattle.law.specs.Kinds.{section_of, line_of, role_of}
use Rattle.law.specs.Layouts.{layout_of}
use Rattle.law.specs.Fits.{within, barred, good_text, is_empty, meaning, fits, fits_all, well_formed, is_name}
use Rattle.law.specs.declared.Rules.TheVariants.{Idf3}
use Rattle.law.specs.declared.FileType.TheVariants.{Board as board, Library as library}
use Rattle.law.specs.Records.{shape_of, many_loops, is_middle, names_a_component}
use Rattle.law.specs.Limits.{whole_turn}
use Rattle.order_loops.specs.Loops.{loop_after}
use Rattle.order.specs.Stages.{may_open, after}
use Rattle.order.specs.Automaton.{start, advance, accepts, Ran, through, stopped, run}
use Rattle.order.specs.declared.Stage.TheVariants.{Nothing as nothing, Headed as headed, Middle as middle, Finished as finished}
use Rattle.order.specs.declared.State.TheVariants.{Between as between}
use Rattle.order.specs.declared.Reason.TheVariants.{Misplaced as misplaced, Unfit as unfit, BadLoop as bad_loop, Repeated as repeated}

abbrev of : ℕ → List Value → Rec
of k vs = record { kind = k; values = vs }

abbrev title_of : ℕ → Rec
title_of t = of 11 (word t ∷ number (pos 300_000) ∷ text (ascii "s") ∷ text (ascii "2024/05/06.07:08:09") ∷ number (pos 1) ∷ [])

-- the header of a library, of a board
abbrev the_library : List Rec
the_library = of 10 [] ∷ title_of 2 ∷ of 19 [] ∷ []

abbrev the_board : List Rec
the_board = of 10 [] ∷ title_of 0 ∷ of 12 (text (ascii "n") ∷ word 0 ∷ []) ∷ of 19 [] ∷ []

-- a point of kind k with label l at x, 0
abbrev at : ℕ → ℕ → ℕ → ℤ → Rec
at k l x a = of k (number (pos l) ∷ number (pos x) ∷ number (pos 0) ∷ number a ∷ [])

abbrev circle_of : ℕ → ℕ → List Rec
circle_of k l = at k l 0 (pos 0) ∷ at k l 1 whole_turn ∷ []

-- BOARD_OUTLINE with these points; PLACEMENT without parts
abbrev outlined : List Rec → List Rec
outlined ps = of 20 (word 0 ∷ []) ∷ of 21 (number (pos 1) ∷ []) ∷ (ps ++ (of 29 [] ∷ []))

abbrev placed : List Rec
placed = of 130 [] ∷ of 139 [] ∷ []

-- the leading line of a component with this geometry
abbrev leading : ℕ → List ℕ → Rec
leading k g = of k (text g ∷ text (ascii "p") ∷ word 0 ∷ number (pos 1) ∷ [])

-- a library of one ELECTRICAL with these points
abbrev electrical : List Rec → List Rec
electrical ps = the_library ++ (of 140 [] ∷ leading 141 (ascii "g") ∷ (ps ++ (of 149 [] ∷ [])))

-- two points of it
abbrev A : Rec
A = at 142 0 0 (pos 0)

abbrev B : Rec
B = at 142 0 1 (pos 0)

abbrev ran : List Rec → Ran
ran rs = run Idf3 [] start rs

record Cases : Type 0 where
  nothing_yet : ran [] ≡ through (between nothing)
  library_alone : ran the_library ≡ through (between (headed library))
  a_board : ran (the_board ++ (outlined (circle_of 22 0) ++ placed)) ≡ through (between (finished board))
  without_placement : accepts Idf3 start (the_board ++ outlined (circle_of 22 0)) ≡ false
  no_such_kind : ran (of 15 [] ∷ []) ≡ stopped 0 misplaced
  past_the_kinds : ran (of 160 [] ∷ []) ≡ stopped 0 misplaced
  a_b_a : ran (electrical (A ∷ B ∷ A ∷ [])) ≡ through (between (headed library))
  a_b_a_b_a : ran (electrical (A ∷ B ∷ A ∷ B ∷ A ∷ [])) ≡ through (between (headed library))
  a_a : ran (electrical (A ∷ A ∷ [])) ≡ stopped 6 bad_loop
  a_b_and_closing : ran (electrical (A ∷ B ∷ [])) ≡ stopped 7 bad_loop
  first_angle_90 : ran (electrical (at 142 0 0 (pos 9_000_000) ∷ [])) ≡ stopped 5 bad_loop
  angle_minus_360 : ran (electrical (at 142 0 0 (negsuc 35_999_999) ∷ [])) ≡ stopped 5 unfit
  circle_at_its_centre : ran (electrical (A ∷ at 142 0 0 whole_turn ∷ [])) ≡ stopped 6 bad_loop
  point_after_a_circle : ran (electrical (circle_of 142 0 ++ (B ∷ []))) ≡ stopped 7 bad_loop
  a_loop_labelled_1 : ran (electrical (circle_of 142 1)) ≡ through (between (headed library))
  second_loop_of_a_component : ran (electrical (circle_of 142 0 ++ circle_of 142 1)) ≡ stopped 7 bad_loop
  second_loop_of_a_board : ran (the_board ++ outlined (circle_of 22 0 ++ circle_of 22 1)) ≡ through (between (middle board false false))
  second_loop_labelled_2 : ran (the_board ++ outlined (circle_of 22 0 ++ circle_of 22 2)) ≡ stopped 8 bad_loop
  prop_before_the_loop_is_complete : ran (electrical (A ∷ of 143 (text [] ∷ text [] ∷ []) ∷ [])) ≡ stopped 6 bad_loop
  point_after_prop : ran (electrical (circle_of 142 0 ++ (of 143 (text [] ∷ text [] ∷ []) ∷ A ∷ []))) ≡ stopped 8 misplaced
  closing_before_the_first_data_line : ran (the_board ++ (of 20 (word 0 ∷ []) ∷ of 29 [] ∷ [])) ≡ stopped 5 misplaced
  notes_twice : ran (the_board ++ (outlined (circle_of 22 0) ++ (of 120 [] ∷ of 129 [] ∷ of 120 [] ∷ []))) ≡ stopped 11 misplaced
  used_before : ran (electrical (circle_of 142 0) ++ (of 150 [] ∷ leading 151 (ascii "g") ∷ [])) ≡ stopped 9 repeated
  board_as_reference : ran (the_board ++ (outlined (circle_of 22 0) ++ (of 130 [] ∷ of 131 (text [] ∷ text [] ∷ text (ascii "BOARD") ∷ []) ∷ []))) ≡ stopped 10 unfit

cases : Cases
unfolding sections section_of line_of role_of layout_of shape_of well_formed fits_all fits within good_text meaning is_name named is_in folded barred all_of permitted same_bytes words_of word_at is_empty is_date fits_in is_two date_pieces may_open after is_middle many_loops names_a_component advance loop_after eq_z
cases =
    record {
      nothing_yet = refl;
      library_alone = refl;
      a_board = refl;
      without_placement = refl;
      no_such_kind = refl;
      past_the_kinds = refl;
      a_b_a = refl;
      a_b_a_b_a = refl;
      a_a = refl;
      a_b_and_closing = refl;
      first_angle_90 = refl;
      angle_minus_360 = refl;
      circle_at_its_centre = refl;
      point_after_a_circle = refl;
      a_loop_labelled_1 = refl;
      second_loop_of_a_component = refl;
      second_loop_of_a_board = refl;
      second_loop_labelled_2 = refl;
      prop_before_the_loop_is_complete = refl;
      point_after_prop = refl;
      closing_before_the_first_data_line = refl;
      notes_twice = refl;
      used_before = refl;
      board_as_reference = refl;
    }
