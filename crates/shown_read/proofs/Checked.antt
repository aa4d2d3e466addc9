-- Whole files: what `check` answers and what rows the file has, by the rules that say which files are permitted.
use Prim.Native.Nat.{ℕ, ◌+◌, ◌*◌, ◌≤◌, ◌<◌}
use mathlib.Core.Path.{◌≡◌, refl, sym, ap, subst, ◌∙◌}
use mathlib.Core.Logic.{◌↔◌}
use mathlib.Core.List.{List, [], ◌∷◌, ◌++◌, append_assoc}
use mathlib.Core.Bool.{Bool, true, false, cond}
use native.Mathlib.Omega.{arith}
use native.Mathlib.Decide.{dec_lt}
use borrow.Author.Tests.{lt-ltb}
use lib.ListN.{length, take, drop, take-append-drop}
use Rattle.law.specs.Lines.{File}
use Rattle.text.specs.Lines.{lines_of}
use Rattle.text.proofs.LineSpelling.{lines_sound, lines_complete}
use Rattle.law.specs.Values.{Rec}
use Rattle.law.specs.declared.Rules.{Rules}
use Rattle.law.specs.declared.Rules.TheVariants.{Idf3}
use Rattle.law.specs.Rows.{stride, RowsMean}
use Rattle.order.specs.Automaton.{start, accepting}
use Rattle.order.specs.declared.State.{State}
use Rattle.law.specs.Answers.{limit, reply}
use Rattle.read.specs.Replies.{check_reply, rows_of}
use Rattle.law.specs.declared.Reply.{Reply}
use Rattle.shown_told.specs.Told.{Told, ended, broken, told_from}
use Rattle.law.specs.Files.{FileSays, Mendable}
use Rattle.law.specs.Given as goal
use Rattle.law.specs.Given.{Fails, Short, Answered, accepted, too_large, refused}
use Rattle.shown_read.specs.Outcomes.{reply_of}
use Rattle.shown_told.proofs.WholeFiles.{accepted_exactly, first_line, too_early}
use Rattle.shown_told.proofs.Numbered.{told_faulty, told_first, faulty_number, fails_faulty}
use Rattle.shown_read.proofs.CheckTold.{check_told}
use Rattle.shown_read.proofs.RowsTold.{rows_told, rows_long}

-- the first lines of what can be mended can be mended
mendable_front : (v : Rules) (i : ℕ) (ls : List (List ℕ)) → Mendable v ls → Mendable v (take i ls)
mendable_front v i ls m =
    let e : ls ++ m.more ≡ take i ls ++ (drop i ls ++ m.more) = rw (sym (append_assoc (take i ls) (drop i ls) m.more), take-append-drop i ls) in
    record { more = drop i ls ++ m.more; records = m.records; file = m.file; made = rw e at m.made; say = rw e at m.say }

module _ (file : List ℕ) where
  -- the rows of a file that says a list hold the values of its records, a row for each
  pub check_rows : {rs : List Rec} → FileSays Idf3 rs file → RowsMean file rs (rows_of file)
  check_rows {rs} s = let w = (accepted_exactly Idf3 file rs).1 s in rows_told file rs w.0 w.1

  pub check_long : {rs : List Rec} → FileSays Idf3 rs file → length (rows_of file) ≡ stride * length rs
  check_long s = rows_long (check_rows s)

  -- a file over the limit is answered 1, whatever it says
  pub check_large : limit < length file → check_reply file ≡ reply 1 0 0
  unfolding check_reply
  check_large h = rw (lt-ltb limit (length file) h)

  module _ (h : length file ≤ limit) where
    -- a file that says a list is accepted, and its records are counted
    pub check_count : {rs : List Rec} → FileSays Idf3 rs file → check_reply file ≡ reply 0 0 (length rs)
    check_count {rs} s = let w = (accepted_exactly Idf3 file rs).1 s in check_told file h ∙ rw (w.1, w.2)

    answered_ended : (rs : List Rec) (st : State) (b : Bool) → accepting st ≡ b → told_from Idf3 [] start (lines_of file) ≡ ended rs st
        → Answered file (cond b (reply 0 0 (length rs)) (reply 13 (length (lines_of file) + 1) 0))
    answered_ended rs st true a e = accepted h ((accepted_exactly Idf3 file rs).0 (st, e, a))
    answered_ended rs st false a e = goal.too_early h (lines_sound file) (too_early Idf3 file rs st e a)

    answered : (x : Told) → told_from Idf3 [] start (lines_of file) ≡ x → Answered file (reply_of x (length (lines_of file)))
    answered (ended rs st) e = answered_ended rs st (accepting st) refl e
    answered (broken k n) e =
        let w = told_first Idf3 (lines_of file) k n e in
        let m : File (w.front ++ (w.line ∷ w.rest)) file = subst (λ (ls : List (List ℕ)). File ls file) w.is (lines_sound file) in
        subst (λ (i : ℕ). Answered file (reply n (i + 1) 0)) w.at (refused w.front w.line w.rest h m w.faulty)

    -- a line that fails is refused, by one of 3 to 12
    pub check_first : (k : ℕ) → Fails (lines_of file) k → (n : ℕ) × (3 ≤ n) × (n ≤ 12) × (check_reply file ≡ reply n (k + 1) 0)
    check_first k f =
        let w = (first_line Idf3 file k).1 f in
        let b = faulty_number Idf3 (told_first Idf3 (lines_of file) k w.0 w.1).faulty in
        (w.0, b.0, b.1, check_told file h ∙ rw w.1)

  -- what `check` answers is what the law gives the file
  pub check_answers : Answered file (check_reply file)
  check_answers = elim (dec_lt limit (length file)) [
    | yes h ↦ rw (check_large h) (too_large h)
    | no h ↦ (let i : length file ≤ limit = omega arith in rw (check_told file i) (answered i (told_from Idf3 [] start (lines_of file)) refl))
  ]

  only_early : {x : Reply} → length file ≤ limit → Answered file x → Short (lines_of file) file → x ≡ reply 13 (length (lines_of file) + 1) 0
  only_early h (accepted {rs} i s) w = absurd (w.1 rs s)
  only_early h (too_large i) w = absurd (omega arith)
  only_early h (refused ls l more {n} i m f) w =
      let g : Mendable Idf3 (ls ++ (l ∷ more)) = rw (lines_complete m) at w.0 in
      absurd (((fails_faulty Idf3 ls more l m).1 (n, f)).2 (mendable_front Idf3 (length ls + 1) (ls ++ (l ∷ more)) g))
  only_early h (goal.too_early i m s) w = rw (lines_complete m) refl

  -- and nothing else is
  pub check_only : {r : Reply} → Answered file r → r ≡ check_reply file
  check_only (accepted h s) = sym (check_count h s)
  check_only (too_large h) = sym (check_large h)
  check_only (refused ls l more {n} h m f) = sym (check_told file h ∙ rw (lines_complete m, (told_faulty Idf3 l more ls n).1 f))
  check_only (goal.too_early h m s) = rw (sym (lines_complete m)) (sym (only_early h check_answers (rw (lines_complete m) s)))

  -- a file is accepted exactly if it says a list
  number_zero : {x : Reply} → Answered file x → x.number ≡ 0 → (rs : List Rec) × FileSays Idf3 rs file
  number_zero (accepted {rs} h s) z = (rs, s)
  number_zero (too_large h) z = absurd (omega arith)
  number_zero (refused ls l more h m f) z = let w = faulty_number Idf3 f in absurd (omega arith)
  number_zero (goal.too_early h m s) z = absurd (omega arith)

  pub check_accepts : length file ≤ limit → ((check_reply file).number ≡ 0) ↔ ((rs : List Rec) × FileSays Idf3 rs file)
  check_accepts h = (number_zero check_answers, λ w. ap (λ (r : Reply). r.number) (check_count h w.1))
