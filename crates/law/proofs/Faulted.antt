-- Refusals that the rules give, derived step by step; an edit of a rule is refused here.
use mathlib.Core.Path.{refl, ap}
use mathlib.Core.Logic.{◌≢◌}
use mathlib.Core.List.{[], ◌∷◌, ◌++◌}
use mathlib.Core.Bool.{Bool, true, false, false≢true}
use native.Mathlib.Omega.{arith}
use lib.IntN.{pos, negsuc}
use Rattle.law.specs.Bytes as by
use Rattle.law.specs.Bytes.{permitted, is_space, All, ascii}
use Rattle.law.specs.Lines.{last as last_Line, Free, blank}
use Rattle.law.specs.Fields.{field}
use Rattle.law.specs.Limits.{largest_length}
use Rattle.law.specs.Numbers as exact
use Rattle.law.specs.Numbers.{Digit, one, more}
use Rattle.law.specs.Magnitudes.{last, next, with_point, InMagnitude, plain}
use Rattle.law.specs.Sections.{sections, section_names}
use Rattle.law.specs.Kinds.{section_of, line_of, role_of}
use Rattle.law.specs.Values.{word}
use Rattle.law.specs.Records.{names_a_component}
use Rattle.law.specs.LineSpelling.{end}
use Rattle.law.specs.Lists.{nothing_named}
use Rattle.law.specs.Answers.{reply}
use Rattle.law.specs.Given.{Answered, refused}
use Rattle.law.specs.Fits.{under, within, kept}
use Rattle.law.specs.FieldFaults.{FaultyField, other_version, beyond_limit}
use Rattle.law.specs.LineFaults.{Stands, Faulty, by_3}
use Rattle.law.specs.declared.Limit.{Limit}
use Rattle.law.specs.declared.Limit.TheVariants.{Length as L, NotBelow as L0, Above as Lp, Included as A, Rotation as R, Version as Ver}
use Rattle.law.specs.declared.FieldType.TheVariants.{Number}
use Rattle.law.specs.declared.FileType.TheVariants.{Board}
use Rattle.law.specs.declared.Rules.TheVariants.{Idf3}
use Rattle.law.proofs.Samples.{of, count, heading, point_at, placing, board, part, position}
use Rattle.law.proofs.Derived.{digit, smallest, small_board}

-- a number of six digits on each side is within the largest magnitude, of which the sixth decimal is no part
nine : Digit 9 57
nine = digit 9 (omega arith)

pub all_nines : InMagnitude 5 largest_length (ascii "999999.999999")
all_nines = plain (with_point (more (more (more (more (more (one nine) nine) nine) nine) nine) nine) (next nine (next nine (next nine (next nine (next nine (last nine)))))) (omega arith))

-- another version is 9, a height below zero 10
pub version_2 : FaultyField (under Idf3 Board) (Number Ver) (field false (ascii "2.0")) 9
unfolding within kept
version_2 = other_version {z = pos 200_000} (exact.plain (exact.with_point (one (digit 2 (omega arith))) (exact.last (digit 0 (omega arith)) (λ e. refl))) (omega arith)) refl

abbrev is_version : Limit → Bool
is_version L = false
is_version L0 = false
is_version Lp = false
is_version A = false
is_version R = false
is_version Ver = true

no_version : L0 ≢ Ver
no_version e = false≢true (ap is_version e)

pub height_below : FaultyField (under Idf3 Board) (Number L0) (field false (ascii "-0.00001")) 10
unfolding within kept
height_below = beyond_limit {z = negsuc 0} no_version smallest refl

-- a TAB is no blank, and not permitted
not_blank : Free (9 ∷ []) → ⊥
not_blank (blank (by.one h r)) = false≢true h

not_clean : All permitted (9 ∷ []) → ⊥
unfolding permitted
not_clean (by.one h r) = false≢true h

pub a_tab : Faulty Idf3 [] (9 ∷ []) 3
a_tab = by_3 not_blank not_clean

-- so it is named as the first line of its file
pub named_first : Answered (9 ∷ []) (reply 3 1 0)
unfolding names_a_component
named_first = refused [] (9 ∷ []) [] (omega arith) (last_Line (by.one refl by.none)) ([], record { more = board (part "g" "p" "R1" ∷ position ∷ []); permitted = small_board; distinct = nothing_named; spelled = end }, a_tab)

-- an outline's closing line can stand behind its leading line, points aside: it is the loop rule, and not its place, that is in its way
pub closing_stands : Stands Idf3 (heading ++ (of 20 (word 0 ∷ []) ∷ of 21 (count 1 ∷ []) ∷ [])) 29
unfolding section_of line_of role_of sections section_names
closing_stands =
    record {
      before = heading ++ (of 20 (word 0 ∷ []) ∷ of 21 (count 1 ∷ []) ∷ point_at 22 0 0 0 ∷ point_at 22 100_000 0 36_000_000 ∷ []);
      this = of 29 [];
      more = placing (part "g" "p" "R1" ∷ position ∷ []);
      permitted = small_board;
      same = refl;
      kind = refl;
    }
