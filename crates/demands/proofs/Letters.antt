-- W-203, "All bare words are read without regard to letter case … So are NOREFDES and BOARD as references, and NOREFDES, BOARD and PANEL as a
-- hole's part": what these say of records, of boards, and of files that differ in nothing else.
use Prim.Native.Nat.{ℕ, zero, suc, ◌≤◌}
use mathlib.Core.Path.{◌≡◌, refl, sym, ◌∙◌, subst}
use mathlib.Core.List.{List}
use mathlib.Core.Option.{some}
use mathlib.Core.Bool.{Bool, true, false}
use native.Mathlib.Omega.{arith}
use borrow.Author.Tests.{eqb-true, eqb-false, ltb-true, ltb-false}
use lib.Dec.{eqb, ltb}
use lib.ListN.{length}
use Rattle.basics.proofs.Bools.{none_some}
use Rattle.law.specs.Fields.{field}
use Rattle.law.specs.Values.{Rec}
use Rattle.law.specs.Records.{bytes_of, value_at}
use Rattle.law.specs.Sections.{nth, sections}
use Rattle.law.specs.Kinds.{part_kind, section_of, line_of, role_of}
use Rattle.law.specs.Layouts.{layout_of, types_of}
use Rattle.law.specs.Words.{board_word, named, is_in}
use Rattle.law.specs.Fits.{under, WellFormed}
use Rattle.law.specs.WordSpelling.{AnyCase}
use Rattle.law.specs.FieldFaults.{FaultyField}
use Rattle.law.specs.Lists.{Permitted}
use Rattle.law.specs.Files.{titled, FileSays}
use Rattle.law.specs.Letters.{OtherFile}
use Rattle.law.specs.Judging.{placement_in}
use Rattle.law.specs.Answers.{limit, verdict}
use Rattle.law.specs.declared.Rules.{Rules}
use Rattle.law.specs.declared.Rules.TheVariants.{Idf3}
use Rattle.law.specs.declared.FileType.TheVariants.{Board}
use Rattle.law.specs.declared.Context.{Context}
use Rattle.law.specs.declared.Texts.{Texts}
use Rattle.law.specs.declared.Texts.TheVariants.{Reference}
use Rattle.law.specs.declared.FieldType.TheVariants.{Text as T}
use Rattle.law.specs.declared.Verdict.{Verdict}
use Rattle.shown_spelling.proofs.OtherLetters as shown
use Rattle.shown_told.proofs.WellFormedLists.{Every, none, one, permitted_fit}
use Rattle.shown_read.proofs.PointKinds.{fits_types}
use Rattle.read.specs.Replies.{check_reply}
use Rattle.judge.specs.Verdicts.{judge_reply}
use Rattle.shown_judge.proofs.JudgedFiles.{judged_lists_only, judged_second}
use Rattle.demands.specs.Outcomes.{Compares, Judges}
use Rattle.demands.proofs.Demands.{accepted_iff, large_iff, same_iff}

-- "All are written in capitals": where a record's text is in some letter case what it may name, it is that in capitals
pub name_in_capitals : (c : Context) (r : Rec) → WellFormed c r → (i : ℕ) (k : Texts) → nth (types_of c.rules r.kind) i ≡ some (T k)
    → (w : List ℕ) → is_in w (named k) ≡ true → AnyCase w (bytes_of (value_at r i)) → bytes_of (value_at r i) ≡ w
name_in_capitals c r g i k e w h m = shown.capitals_at c k w h (types_of c.rules r.kind) r.values i (fits_types c r.kind r.values g) e m

-- "board as a reference in a board file now gives" 9, in any letter case, bare or quoted
pub board_refused : {v : Rules} {q : Bool} {s : List ℕ} → AnyCase board_word s → FaultyField (under v Board) (T Reference) (field q s) 9
board_refused m = shown.board_faulty m

every_at : {P : Rec → Type 0} {rs : List Rec} → Every P rs → (i : ℕ) (r : Rec) → nth rs i ≡ some r → P r
every_at none i r e = absurd (none_some e)
every_at {P} (one {r = x} p a) zero r e = let z : x ≡ r = cc in subst P z p
every_at (one p a) (suc i) r e = every_at a i r e

third : nth (types_of Idf3 part_kind) 2 ≡ some (T Reference)
unfolding types_of layout_of section_of line_of role_of sections
third = refl

-- so no placement of a board refers to BOARD
pub board_refers_none : {rs : List Rec} → Permitted Idf3 rs → titled rs ≡ Board → (i : ℕ) (r : Rec) → nth rs i ≡ some r → r.kind ≡ part_kind → AnyCase board_word (placement_in r).reference → ⊥
board_refers_none p t i r e k m =
    let g : WellFormed (under Idf3 Board) r = rw t at (every_at (permitted_fit p) i r e) in
    shown.board_held Idf3 (value_at r 2) (shown.fits_at_lem (under Idf3 Board) (types_of Idf3 r.kind) r.values 2 (T Reference) (fits_types (under Idf3 Board) r.kind r.values g) (rw k third)) m

-- files that say one list get one verdict from every library, accepted or refused
pub one_verdict : {rs : List Rec} {file other library : List ℕ} {v w : Verdict} → length file ≤ limit → length other ≤ limit → FileSays Idf3 rs file → FileSays Idf3 rs other
    → Judges file library v → Judges other library w → v ≡ w
one_verdict {rs} {file} {other} {library} h i s u j k = j.answer ∙ go (eqb (check_reply library).number 0) refl ∙ sym k.answer
  where
    passes : (f : List ℕ) → length f ≤ limit → FileSays Idf3 rs f → (check_reply f).number ≡ 0
    passes f l y = (accepted_iff (record { answer = refl }) l).1 (rs, y)

    within : (check_reply library).number ≡ 0 → (t : Bool) → ltb limit (length library) ≡ t → length library ≤ limit
    within z true e = let y = (large_iff {file = library} (record { answer = refl })).1 (ltb-true limit (length library) e) in absurd (omega arith)
    within z false e = ltb-false limit (length library) e

    go : (t : Bool) → eqb (check_reply library).number 0 ≡ t → judge_reply file library ≡ judge_reply other library
    go true e =
        let z = eqb-true (check_reply library).number 0 e in
        let l = within z (ltb limit (length library)) refl in
        let q = (accepted_iff {file = library} (record { answer = refl }) l).0 z in
        judged_lists_only file other library library h i l l s u q.1 q.1
    go false e =
        let n = eqb-false (check_reply library).number 0 e in
        judged_second file library (passes file h s) n ∙ sym (judged_second other library (passes other i u) n)

-- files that differ only in the letter case of words and names are the same, and get the same verdict from every library
module _ {rs : List Rec} {file other : List ℕ} (o : OtherFile Idf3 rs file other) (h : length file ≤ limit) (i : length other ≤ limit) where
  pub letters_same : {v : Verdict} → Compares file other v → v ≡ verdict 0 0 1 0
  letters_same c = let s = shown.letters_say o in (same_iff c h i s.0 s.1).0.1 refl

  pub letters_judged : {library : List ℕ} {v w : Verdict} → Judges file library v → Judges other library w → v ≡ w
  letters_judged j k = let s = shown.letters_say o in one_verdict h i s.0 s.1 j k
