-- What the answers of `check` and `read` mean, from the lines of the file.
use Prim.Native.Nat.{ℕ, ◌+◌, ◌*◌, ◌≤◌, ◌<◌}
use mathlib.Core.Path.{◌≡◌, refl, sym, ap, ◌∙◌}
use mathlib.Core.List.{List, [], ◌∷◌, ◌++◌}
use mathlib.Core.Bool.{Bool, true, false, cond, false≢true}
use native.Mathlib.Omega.{arith}
use borrow.Author.Tests.{eqb-true, ltb-false}
use lib.Dec.{eqb, ltb}
use lib.IntN.{ℤ}
use lib.ListN.{length, take, drop, length-append}
use lib.Seq.{take_at, drop_at}
use Rattle.read.proofs.ReplyLaws.{accepted_small}
use Rattle.law.specs.Lines.{File}
use Rattle.text.proofs.LineSpelling.{lines_complete, lines_unique}
use Rattle.law.specs.Values.{Rec}
use Rattle.law.specs.declared.Rules.TheVariants.{Idf3}
use Rattle.law.specs.Rows.{stride, capacity, RowsMean}
use Rattle.order.specs.Automaton.{start, accepting}
use Rattle.law.specs.Answers.{limit, reply}
use Rattle.read.specs.Replies.{check_reply, read_reply, read_rows, rows_of}
use Rattle.law.specs.declared.Reply.{Reply}
use Rattle.shown_told.specs.Told.{Told, ended, broken, told_from}
use Rattle.law.specs.Files.{FileSays}
use Rattle.law.specs.LineFaults.{FaultyAfter}
use Rattle.shown_read.specs.Outcomes.{reply_of}
use Rattle.shown_told.proofs.Numbered.{told_faulty, faulty_number, fails_faulty}
use Rattle.shown_read.proofs.CheckTold.{check_told}
use Rattle.shown_read.proofs.Checked.{check_accepts, check_count, check_long, check_rows}
use Rattle.shown_read.proofs.ReadSays.{read_puts}
use Rattle.law.specs.Given.{Fails, Short, Answered, accepted, too_large, refused, too_early}

-- by the number
module _ {file : List ℕ} where
  pub answered_one : {r : Reply} → Answered file r → r.number ≡ 1 → limit < length file
  answered_one (accepted h s) z = absurd (omega arith)
  answered_one (too_large h) z = h
  answered_one (refused ls l more h m f) z = let w = faulty_number Idf3 f in absurd (omega arith)
  answered_one (too_early h m s) z = absurd (omega arith)

  module _ {ls : List (List ℕ)} (m : File ls file) where
    pub answered_line : {r : Reply} → Answered file r → (k : ℕ) → 3 ≤ r.number → r.number ≤ 12 → r.line ≡ k + 1 → Fails ls k
    answered_line (accepted h s) k a b l = absurd (omega arith)
    answered_line (too_large h) k a b l = absurd (omega arith)
    answered_line (refused us u more {n} h i f) k a b l = let z : length us ≡ k = omega arith in rw (lines_unique m i, sym z) ((fails_faulty Idf3 us more u i).1 (n, f))
    answered_line (too_early h n s) k a b l = absurd (omega arith)

    pub answered_early : {r : Reply} → Answered file r → r.number ≡ 13 → Short ls file × (r ≡ reply 13 (length ls + 1) 0)
    answered_early (accepted h s) z = absurd (omega arith)
    answered_early (too_large h) z = absurd (omega arith)
    answered_early (refused us l more h n f) z = let w = faulty_number Idf3 f in absurd (omega arith)
    answered_early (too_early h n s) z = rw (lines_unique m n) (s, refl)

-- a line that is named is faulty by the number that is given
module _ {file : List ℕ} (h : length file ≤ limit) (ls more : List (List ℕ)) (l : List ℕ) (m : File (ls ++ (l ∷ more)) file) (n : ℕ) where
  longer : length ls < length (ls ++ (l ∷ more))
  longer = let e = length-append ls (l ∷ more) in omega arith

  ended_not : (b : Bool) (k : ℕ) → cond b (reply 0 0 k) (reply 13 (length (ls ++ (l ∷ more)) + 1) 0) ≡ reply n (length ls + 1) 0 → ⊥
  ended_not true k e = let z = ap (λ (r : Reply). r.line) e in omega arith
  ended_not false k e = let z = ap (λ (r : Reply). r.line) e in omega (arith, longer)

  told_broken : (t : Told) → reply_of t (length (ls ++ (l ∷ more))) ≡ reply n (length ls + 1) 0 → t ≡ broken (length ls) n
  told_broken (ended rs st) e = absurd (ended_not (accepting st) (length rs) e)
  told_broken (broken k j) e =
      let x = ap (λ (r : Reply). r.line) e in
      let y : k ≡ length ls = omega arith in
      rw (y, ap (λ (r : Reply). r.number) e) refl

  pub named_faulty : check_reply file ≡ reply n (length ls + 1) 0 → FaultyAfter Idf3 ls l n
  named_faulty e = (told_faulty Idf3 l more ls n).0 (told_broken (told_from Idf3 [] start (ls ++ (l ∷ more))) (sym (rw (lines_complete m) at (check_told file h)) ∙ e))

-- `read` answers 0 only for a file that says a list, with room for its rows
module _ (file : List ℕ) (room : ℕ) where
  accepted_room : (read_reply file room).number ≡ 0 → ((check_reply file).number ≡ 0) × ((check_reply file).count ≤ capacity room)
  unfolding read_reply
  accepted_room = go (eqb (check_reply file).number 0) (ltb (capacity room) (check_reply file).count) refl refl
    where
      go : (a b : Bool) → eqb (check_reply file).number 0 ≡ a → ltb (capacity room) (check_reply file).count ≡ b
          → (cond a (cond b (reply 2 0 (check_reply file).count) (check_reply file)) (check_reply file)).number ≡ 0
          → ((check_reply file).number ≡ 0) × ((check_reply file).count ≤ capacity room)
      go true true x y z = absurd (omega arith)
      go true false x y z = (eqb-true (check_reply file).number 0 x, ltb-false (capacity room) (check_reply file).count y)
      go false b x y z = let w : false ≡ true = sym x ∙ ap (λ (n : ℕ). eqb n 0) z in absurd (false≢true w)

  pub read_list : (read_reply file room).number ≡ 0 → (length file ≤ limit) × ((rs : List Rec) × FileSays Idf3 rs file × (length rs ≤ capacity room))
  read_list z =
      let w = accepted_room z in
      let h = accepted_small file (check_reply file) refl w.0 in
      let s = (check_accepts file h).0 w.0 in
      let c : (check_reply file).count ≡ length s.0 = ap (λ (r : Reply). r.count) (check_count file h s.1) in
      (h, (s.0, s.1, rw (sym c) w.1))

-- the rows of a file that says a list, in front of what they do not cover
module _ (file : List ℕ) (h : length file ≤ limit) {rs : List Rec} (s : FileSays Idf3 rs file) (old : List ℤ) (i : length rs ≤ capacity (length old)) where
  pub front_means : RowsMean file rs (take (stride * length rs) (read_rows file old))
  front_means = rw (read_puts file h s old i, take_at (rows_of file) (drop (length (rows_of file)) old) (stride * length rs) (check_long file s)) (check_rows file s)

  pub behind_kept : drop (stride * length rs) (read_rows file old) ≡ drop (stride * length rs) old
  behind_kept =
      rw (read_puts file h s old i, drop_at (rows_of file) (drop (length (rows_of file)) old) (stride * length rs) (check_long file s), check_long file s) refl
