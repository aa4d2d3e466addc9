-- What the producing rules let in, derived step by step, and what they keep out; an edit of a rule is refused here.
use Prim.Native.Nat.{ℕ, ◌+◌, ◌<◌}
use mathlib.Core.Path.{◌≡◌, refl, sym, ap, ◌∙◌}
use mathlib.Core.Logic.{◌≢◌}
use mathlib.Core.List.{List, [], ◌∷◌, ◌++◌}
use mathlib.Core.Bool.{Bool, true, false, ◌||◌, or-true, false≢true}
use native.Mathlib.Omega.{arith}
use borrow.Author.Tests.{eq-eqb}
use lib.Dec.{eqb}
use lib.IntN.{ℤ, pos, negsuc, nat_abs}
use lib.ListN.{length, take, get_or, length-append}
use Rattle.law.specs.Files.{Mendable}
use Rattle.law.specs.Given.{Fails}
use Rattle.law.specs.Bytes as by
use Rattle.law.specs.Bytes.{permitted, all_of, ascii}
use Rattle.law.specs.Lines as lines
use Rattle.law.specs.Fields.{Field, field, Spells, bare, Spelled, space, last as last_field, next as next_field}
use Rattle.law.specs.Limits.{largest_length, whole_turn}
use Rattle.law.specs.Numbers.{Digit, one, last, next, with_point, SpellsNumber, plain, minus}
use Rattle.law.specs.Dates.{date_pieces, is_two, fits_in, is_date}
use Rattle.law.specs.Words.{words_of, same_bytes, word_at, named, is_in, folded}
use Rattle.law.specs.Sections.{sections, section_names}
use Rattle.law.specs.Kinds.{section_of, line_of, role_of}
use Rattle.law.specs.declared.Role.{Role}
use Rattle.law.specs.declared.Role.TheVariants.{Point as point}
use Rattle.law.specs.Layouts.{plain as data_line_lem, layout_of, types_of}
use Rattle.law.specs.Values.{Value, word, Rec}
use Rattle.law.specs.Records.{Place, place_of, angle_of, is_library, shape_of, many_loops, Named, names_a_component}
use Rattle.law.specs.Fits.{under, within, meaning, barred, good_text, is_empty, fits, fits_all, well_formed, is_name}
use Rattle.law.specs.WordSpelling.{Listed, here, there, AnyCase, end, same, small}
use Rattle.law.specs.RecordSpelling.{SpellsField, as_word, is_data}
use Rattle.law.specs.LineFaults.{as_data}
use Rattle.law.specs.Letters as letters
use Rattle.law.specs.Letters.{OtherLine}
use Rattle.law.specs.declared.Texts.TheVariants.{Plain, Reference}
use Rattle.law.specs.LineSpelling as spelled
use Rattle.law.specs.LineSpelling.{SpellsLines, inside}
use Rattle.law.specs.Lists.{Line, PointLine, Step, last as back, Loop, circle, path, Loops, final, another, numbered, no_line, no_pair, pair, led, placed, section, no_section, Section, Header, header_of, Middle, Permitted, a_board, in_none, nor, nothing_named, and_new, Distinct}
use Rattle.law.specs.Rows as rows
use Rattle.law.specs.Rows.{Holds, none, a_number, a_word, a_date, a_text, with_line, RowsMean, Rises}
use Rattle.law.specs.Answers.{verdict}
use Rattle.law.specs.Judging as judging
use Rattle.law.specs.Judging.{placement_in, Entry, this, later, Served, board as needs_none, mechanical as needs_mechanical, electrical as needs_electrical, Judged, lacking, served}
use Rattle.law.specs.declared.Rules.{Rules}
use Rattle.law.specs.declared.Rules.TheVariants.{Idf3}
use Rattle.law.specs.declared.FileType.{FileType}
use Rattle.law.specs.declared.FileType.TheVariants.{Board, Library}
use Rattle.law.specs.declared.Context.{Context}
use Rattle.law.specs.declared.Words.{Words}
use Rattle.law.specs.declared.Words.TheVariants.{Units}
use Rattle.law.specs.declared.FieldType.TheVariants.{Text, Word}
use Rattle.law.proofs.Samples.{said, count, point_at, heading, circled, placing, board, part, position, electrical, mechanical, library}

-- lines: byte 10 ends each, or 13 and 10, and the last may lack its end
pub either_end : lines.File (ascii "a" ∷ [] ∷ ascii "b" ∷ []) (97 ∷ 10 ∷ 13 ∷ 10 ∷ 98 ∷ [])
unfolding by.ends_in
either_end = lines.next (by.one refl by.none) (lines.by_10 refl) (lines.next by.none lines.by_13_10 (lines.last (by.one refl by.none)))

-- a 13 before 10 is of the end, so it is not of the line
no_line_13 : {ls : List (List ℕ)} {s : List ℕ} → lines.File ls s → ls ≡ (97 ∷ 13 ∷ []) ∷ [] → s ≡ 97 ∷ 13 ∷ 10 ∷ [] → ⊥
unfolding by.ends_in
no_line_13 lines.none e f = omega (arith, ap length e)
no_line_13 (lines.last {b = b} {l = l} a) e f = let g : b ∷ l ≡ 97 ∷ 13 ∷ [] = ap (λ (x : List (List ℕ)). get_or x 0 []) e in omega (arith, ap length f, ap length g)
no_line_13 (lines.next {l = l} {s = s} a (lines.by_10 h) r) e f = let g : l ≡ 97 ∷ 13 ∷ [] = ap (λ (x : List (List ℕ)). get_or x 0 []) e in false≢true (sym h ∙ ap (by.ends_in 13) g)
no_line_13 (lines.next {l = l} {s = s} a lines.by_13_10 r) e f =
    let g : l ≡ 97 ∷ 13 ∷ [] = ap (λ (x : List (List ℕ)). get_or x 0 []) e in
    omega (arith, ap length f, ap length g, length-append l (13 ∷ 10 ∷ s))

pub one_line_alone : lines.File ((97 ∷ 13 ∷ []) ∷ []) (97 ∷ 13 ∷ 10 ∷ []) → ⊥
one_line_alone m = no_line_13 m refl refl

-- the Windows copy: a 13 before the first 10, none where one stands, none at the end
pub copy : lines.windows (10 ∷ 13 ∷ 10 ∷ 97 ∷ 13 ∷ 13 ∷ 10 ∷ 13 ∷ []) ≡ 13 ∷ 10 ∷ 13 ∷ 10 ∷ 97 ∷ 13 ∷ 13 ∷ 10 ∷ 13 ∷ []
unfolding lines.copied
copy = refl

-- a last line that lacks its end is given byte 10, and no other is
pub shut : (lines.closed (97 ∷ 10 ∷ 98 ∷ []) ≡ 97 ∷ 10 ∷ 98 ∷ 10 ∷ []) × (lines.closed (97 ∷ 13 ∷ 10 ∷ []) ≡ 97 ∷ 13 ∷ 10 ∷ [])
unfolding by.ends_in
shut = (refl, refl)

-- numbers: the hundred-thousandth keeps its sign, and a sixth decimal may be 0

pub digit : (d : ℕ) → d < 10 → Digit d (48 + d)
digit d h = record { small = h; byte = refl }

zero_digit : Digit 0 48
zero_digit = digit 0 (omega arith)

one_digit : Digit 1 49
one_digit = digit 1 (omega arith)

pub smallest : SpellsNumber 5 largest_length (negsuc 0) (ascii "-0.00001")
smallest =
    minus
    (with_point
    (one zero_digit)
    (next zero_digit (λ e. refl) (next zero_digit (λ e. refl) (next zero_digit (λ e. refl) (next zero_digit (λ e. refl) (last one_digit (λ e. e)))))))
    (omega arith)

pub sixth_is_zero : SpellsNumber 5 largest_length (pos 100_001) (ascii "1.000010")
sixth_is_zero =
    plain
    (with_point
    (one one_digit)
    (next zero_digit (λ e. refl)
    (next zero_digit (λ e. refl) (next zero_digit (λ e. refl) (next zero_digit (λ e. refl) (next one_digit (λ e. e) (last zero_digit (λ e. refl))))))))
    (omega arith)

-- words: in any letter case, and bare; names of sections so too
pub second_unit : Listed (words_of Idf3 Units) 1 (ascii "tHoU")
unfolding words_of
second_unit = there (here (small refl (same refl (small refl (same refl end)))))

pub no_quoted_word : {c : Context} {l : Words} {v : Value} {q : Bool} {s : List ℕ} → SpellsField c (Word l) v (field q s) → q ≡ false
no_quoted_word (as_word x) = refl

pub any_case : AnyCase (ascii "VIA_") (ascii "vIa_")
any_case = small refl (same refl (small refl (same refl end)))

-- letters: a reference in another letter case is the same where it is a name
abbrev referring : List ℕ → List Field
referring r = field false (ascii "a") ∷ field false (ascii "b") ∷ field false r ∷ []

spelled_so : (r : List ℕ) → Spells (field false r) r → Spelled (referring r) (ascii "a b " ++ r)
spelled_so r s = next_field (bare (by.one refl by.none)) (space (next_field (bare (by.one refl by.none)) (space (last_field s))))

pub other_reference : OtherLine (record { front = data_line_lem; types = Text Plain ∷ Text Plain ∷ Text Reference ∷ [] }) (ascii "a b BOARD") (ascii "a b Board")
unfolding folded is_name named is_in same_bytes is_data by.begins
other_reference =
    record {
      letters = refl;
      fields = referring (ascii "BOARD");
      others = referring (ascii "Board");
      spelled = spelled_so (ascii "BOARD") (bare (by.one refl (by.one refl (by.one refl (by.one refl (by.one refl by.none))))));
      respelled = spelled_so (ascii "Board") (bare (by.one refl (by.one refl (by.one refl (by.one refl (by.one refl by.none))))));
      own = referring (ascii "BOARD");
      its = referring (ascii "Board");
      fronted = as_data refl;
      refronted = as_data refl;
      each = letters.more letters.as_it_is (letters.more letters.as_it_is (letters.more (letters.a_name refl refl) letters.none));
    }

-- free lines stand for nothing inside a section
pub none_inside : {c : Context} {rs : List Rec} {l : List ℕ} {ls : List (List ℕ)} → SpellsLines c inside rs (l ∷ ls) → rs ≢ []
none_inside (spelled.line p m) e = let z : ◌≡◌ {A = ℕ} 0 1 = cc in omega arith

-- loops: a circle, and a path there and back

apart : {p q : Place} → nat_abs p.x ≢ nat_abs q.x → p ≢ q
apart h e = h (ap (λ (r : Place). nat_abs r.x) e)

good : {t : FileType} {s : ℕ} {a : Role} {r : Rec} → section_of Idf3 r.kind ≡ s → role_of Idf3 r.kind ≡ a → well_formed (under Idf3 t) r ≡ true → Line Idf3 t s a r
good e f h = record { in_section = e; has_role = f; is_good = h }

at_point : {t : FileType} {s : ℕ} (k x a : ℕ) → section_of Idf3 k ≡ s → role_of Idf3 k ≡ point → well_formed (under Idf3 t) (point_at k x 0 a) ≡ true
    → PointLine Idf3 t s (pos 0) (point_at k x 0 a)
at_point k x a e f h = record { line = good e f h; labelled = refl }

step : {t : FileType} {s : ℕ} {q : Place} {r : Rec} → PointLine Idf3 t s (pos 0) r → place_of r ≢ q → angle_of r ≢ whole_turn → Step Idf3 t s (pos 0) q r
step p e a = record { has_point_role = p; elsewhere = e; not_360 = a }

turned : {a b : ℤ} → nat_abs a ≢ nat_abs b → a ≢ b
turned h e = h (ap nat_abs e)

pub a_circle : Loop Idf3 Board 2 (pos 0) (point_at 22 0 0 0 ∷ point_at 22 100_000 0 36_000_000 ∷ [])
unfolding well_formed fits_all fits within good_text meaning is_name named is_in folded barred all_of permitted same_bytes is_empty word_at words_of is_date fits_in is_two date_pieces layout_of section_of line_of role_of sections section_names
a_circle = circle (at_point 22 0 0 refl refl refl) refl (at_point 22 100_000 36_000_000 refl refl refl) (apart (λ e. absurd (omega (arith, e)))) refl

pub there_and_back : Loop Idf3 Board 2 (pos 0) (point_at 22 0 0 0 ∷ point_at 22 100_000 0 0 ∷ point_at 22 0 0 0 ∷ [])
unfolding well_formed fits_all fits within good_text meaning is_name named is_in folded barred all_of permitted same_bytes is_empty word_at words_of is_date fits_in is_two date_pieces layout_of section_of line_of role_of sections section_names
there_and_back =
    path
    (at_point 22 0 0 refl refl refl)
    refl
    (step (at_point 22 100_000 0 refl refl refl) (apart (λ e. absurd (omega (arith, e)))) (turned (λ e. absurd (omega (arith, e)))))
    (back {q = place_of (point_at 22 100_000 0 0)} (step (at_point 22 0 0 refl refl refl) (apart (λ e. absurd (omega (arith, e)))) (turned (λ e. absurd (omega (arith, e))))) refl)

pub no_centre : {v : Rules} {t : FileType} {s : ℕ} {label : ℤ} {a b : Rec} → Loop v t s label (a ∷ b ∷ []) → place_of b ≢ place_of a
no_centre (circle p z q e w) = e
no_centre {v = v} {t = t} {s = s} {label = label} {a = a} {b = b} (path _ _ _ x16) = elim x16 [ ]

pub two_loops : {v : Rules} {t : FileType} {s : ℕ} {rs ms : List Rec} → Loop v t s (pos 0) rs → Loop v t s (pos 1) ms → Loops v t s (pos 0) (rs ++ ms)
two_loops a b = another a (final b)

-- order: a board is header, outline, what may stand between, PLACEMENT

a_heading : Header Idf3 Board heading
unfolding well_formed fits_all fits within good_text meaning is_name named is_in folded barred all_of permitted same_bytes is_empty word_at words_of is_date fits_in is_two date_pieces layout_of section_of line_of role_of sections section_names
a_heading = header_of refl (good refl refl refl) (good refl refl refl) refl (good refl refl refl) (good refl refl refl)

an_outline : Section Idf3 Board 2 circled
unfolding well_formed fits_all fits within good_text meaning is_name named is_in folded barred all_of permitted same_bytes is_empty word_at words_of is_date fits_in is_two date_pieces layout_of section_of line_of role_of sections section_names shape_of many_loops
an_outline = section (good refl refl refl) (led {qs = []} refl (good refl refl refl) (numbered refl (final a_circle)) no_line) (good refl refl refl)

pub a_placement : Section Idf3 Board 13 (placing (part "g" "p" "R1" ∷ position ∷ []))
unfolding well_formed fits_all fits within good_text meaning is_name named is_in folded barred all_of permitted same_bytes is_empty word_at words_of is_date fits_in is_two date_pieces layout_of section_of line_of role_of sections section_names shape_of
a_placement = section (good refl refl refl) (placed refl (pair (good refl refl refl) (good refl refl refl) no_pair)) (good refl refl refl)

nothing_between : Middle Idf3 []
nothing_between = record { among = by.none; holes_once = omega arith; notes_once = omega arith }

pub small_board : Permitted Idf3 (board (part "g" "p" "R1" ∷ position ∷ []))
small_board = a_board a_heading an_outline no_section nothing_between a_placement

pub notes_once_only : {v : Rules} → Middle v (12 ∷ 12 ∷ []) → ⊥
notes_once_only m = omega (arith, m.notes_once)

pub holes_once_only : {v : Rules} → Middle v (11 ∷ 11 ∷ []) → ⊥
holes_once_only m = omega (arith, m.holes_once)

-- names: another part makes another component, the same pair does not

other_part : {a b : Named} → length a.number ≢ length b.number → a ≢ b
other_part h e = h (ap (λ (n : Named). length n.number) e)

pub two_parts : Distinct Idf3 (library (electrical "g" "p" ++ mechanical "g" "pp"))
unfolding names_a_component
two_parts = and_new (nor (other_part {a = record { geometry = ascii "g"; number = ascii "p" }} {b = record { geometry = ascii "g"; number = ascii "pp" }} (λ e. absurd (omega (arith, e)))) in_none) (and_new in_none nothing_named)

pub one_name : Distinct Idf3 (library (electrical "g" "p" ++ mechanical "g" "p")) → ⊥
unfolding names_a_component
one_name (and_new (nor h q) d) = h refl

-- rows: the title line of a library of three lines, as document 01 has its columns
abbrev three_lines : List ℕ
three_lines = ascii ".HEADER" ++ (10 ∷ (ascii "LIBRARY_FILE 3.0 s 2024/05/06.07:08:09 1" ++ (10 ∷ (ascii ".END_HEADER" ++ 10 ∷ []))))

abbrev title_row_lem : List ℤ
title_row_lem = pos 11 ∷ pos 2 ∷ pos 300_000 ∷ pos 25 ∷ pos 1 ∷ pos 27 ∷ pos 19 ∷ pos 1 ∷ pos 0 ∷ pos 0 ∷ []

pub title_held : Holds three_lines 11 (types_of Idf3 11) title_row_lem (word 2 ∷ count 300_000 ∷ said "s" ∷ said "2024/05/06.07:08:09" ∷ count 1 ∷ [])
unfolding types_of layout_of section_of line_of role_of sections meaning is_name named is_in folded same_bytes
title_held =
    record {
      columns = pos 2 ∷ pos 300_000 ∷ pos 25 ∷ pos 1 ∷ pos 27 ∷ pos 19 ∷ pos 1 ∷ [];
      left = 2;
      is = refl;
      ten = refl;
      means = a_word (a_number refl (a_text {a = 25} {l = 1} (omega arith) (a_date {a = 27} {l = 19} (omega arith) (a_number refl none))));
    }

-- it means the same with any line
pub any_line : (n : ℤ) → RowsMean three_lines (record { kind = 11; values = word 2 ∷ count 300_000 ∷ said "s" ∷ said "2024/05/06.07:08:09" ∷ count 1 ∷ [] } ∷ []) (with_line title_row_lem n ++ [])
any_line n = rows.row n title_held rows.none

-- lines: from 1 on, with gaps; not from 0 or below, not twice the same, not falling
pub from_one : Rises (pos 0) (pos 1 ∷ pos 2 ∷ pos 7 ∷ [])
from_one = rows.next refl (rows.next refl (rows.next refl rows.none))

pub not_from_zero : Rises (pos 0) (pos 0 ∷ []) → ⊥
not_from_zero (rows.next h r) = false≢true h

pub not_below_zero : Rises (pos 0) (negsuc 0 ∷ []) → ⊥
not_below_zero (rows.next h r) = false≢true h

pub not_the_same : Rises (pos 0) (pos 2 ∷ pos 2 ∷ []) → ⊥
not_the_same (rows.next g (rows.next h r)) = false≢true h

pub not_falling : Rises (pos 0) (pos 3 ∷ pos 2 ∷ []) → ⊥
not_falling (rows.next g (rows.next h r)) = false≢true h

-- judging: R1 is served by an electrical entry, NOREFDES by a mechanical one and by no other

not_library : {t : FileType} → is_library t ≡ false → t ≢ Library
not_library h e = false≢true (sym h ∙ ap is_library e)

other_length : {s t : List ℕ} → length s ≢ length t → s ≢ t
other_length h e = h (ap length e)

abbrev parts : List Rec
parts = part "g" "p" "R1" ∷ position ∷ part "h" "q" "NOREFDES" ∷ position ∷ []

abbrev stock : List Rec
stock = library (electrical "g" "p" ++ mechanical "h" "q")

pub both_served : Judged (board parts) stock (verdict 0 0 2 0)
both_served =
    served
    (not_library refl)
    refl
    (judging.one
    (needs_electrical (other_length {s = ascii "R1"} {t = ascii "BOARD"} (λ e. absurd (omega (arith, e)))) (other_length {s = ascii "R1"} {t = ascii "NOREFDES"} (λ e. absurd (omega (arith, e)))) (later (later (later (later (this refl refl))))))
    (judging.one (needs_mechanical refl (later (later (later (later (later (later (later (later (later (this refl refl))))))))))) judging.none))

abbrev has_kind : ℕ → List Rec → Bool
has_kind k [] = false
has_kind k (q ∷ qs) = eqb q.kind k || has_kind k qs

kinded : {k : ℕ} {a : Named} {qs : List Rec} → Entry k a qs → has_kind k qs ≡ true
kinded {k} (this e n) = rw (e, eq-eqb k k refl)
kinded {k} (later {q} n) = rw (kinded n) (or-true (eqb q.kind k))

-- an electrical entry of that name is none for NOREFDES
lacks_mechanical : Served (library (electrical "h" "q")) (placement_in (part "h" "q" "NOREFDES")) → ⊥
lacks_mechanical (needs_none e) = other_length {s = ascii "NOREFDES"} {t = ascii "BOARD"} (λ f. absurd (omega (arith, f))) e
lacks_mechanical (needs_mechanical e n) = false≢true (kinded n)
lacks_mechanical (needs_electrical e f n) = f refl

pub second_lacks : Judged (board (part "h" "q" "NOREFDES" ∷ position ∷ [])) (library (electrical "h" "q")) (verdict 16 0 1 1)
second_lacks = lacking [] [] (placement_in (part "h" "q" "NOREFDES")) (not_library refl) refl refl judging.none lacks_mechanical

-- replies: the line that fails is the one with which nothing can be mended, and not the one behind it
pub failing_line : (ls : List (List ℕ)) (k : ℕ) → Fails ls k → Mendable Idf3 (take k ls) × (Mendable Idf3 (take (k + 1) ls) → ⊥)
failing_line ls k f = (f.1, f.2)
