-- The three demands, sentence by sentence, and judging: what each outcome that a contract allows says of the files, by the rules for producing them.
use Prim.Native.Nat.{ℕ, ◌+◌, ◌*◌, ◌≤◌, ◌<◌}
use mathlib.Core.Path.{◌≡◌, refl, sym, ap, ◌∙◌, subst}
use mathlib.Core.Logic.{◌↔◌}
use mathlib.Core.List.{List, ◌∷◌, ◌++◌}
use mathlib.Core.Bool.{Bool, true, false}
use native.Mathlib.Omega.{arith}
use lib.IntN.{ℤ}
use lib.ListN.{length, take, drop}
use Rattle.law.specs.Lines.{File}
use Rattle.text.proofs.LineSpelling.{lines_complete}
use Rattle.law.specs.Values.{Rec}
use Rattle.law.specs.declared.Rules.TheVariants.{Idf3}
use Rattle.law.specs.Rows.{stride, capacity, RowsMean, RowsSay}
use Rattle.law.specs.Lists.{Permitted, Distinct}
use Rattle.law.specs.Answers.{limit, verdict, reply}
use Rattle.read.specs.Replies.{check_reply, rows_of}
use Rattle.law.specs.declared.Reply.{Reply}
use Rattle.read.proofs.RowLaws as reads
use Rattle.write.specs.Outcomes.{write_reply, write_text}
use Rattle.law.specs.declared.Verdict.{Verdict}
use Rattle.same.specs.Ignoring.{nothing}
use Rattle.same.specs.SameLists.{same_files}
use Rattle.same.specs.Verdicts.{found_same, same_reply}
use Rattle.same.proofs.VerdictLaws.{first_refused, second_refused}
use Rattle.law.specs.Fits.{under}
use Rattle.law.specs.Files.{titled, FileSays}
use Rattle.shown_told.proofs.WholeFiles as files
use Rattle.shown_told.proofs.Numbered as faults
use Rattle.shown_read.proofs.Checked.{check_large, check_accepts, check_count, check_first, check_answers, check_only}
use Rattle.shown_read.proofs.RowsTold as told
use Rattle.shown_read.proofs.ReadSays as reading
use Rattle.law.specs.Canonical.{canonical_text}
use Rattle.shown_write.proofs.RowsWritten as rows
use Rattle.shown_write.proofs.RoundTrip as texts
use Rattle.shown_same.proofs.Sameness as alike
use Rattle.law.specs.Judging.{Judged}
use Rattle.shown_judge.proofs.JudgedFiles as entries
use Rattle.law.specs.RowPlaces.{RowsOf}
use Rattle.viewer.specs.declared.Step.{Step}
use Rattle.demands.specs.Outcomes.{Checks, Reads, Writes, Compares, Judges, Shows}
use Rattle.law.specs.LineFaults.{FaultyAfter}
use Rattle.law.specs.Given as goal
use Rattle.law.specs.Given.{Fails, Short, Answered, Written}
use Rattle.demands.proofs.WriteAnswers.{write_answers, written_one, written_zero}
use Rattle.demands.proofs.Answers.{answered_one, answered_line, answered_early, named_faulty, read_list, front_means, behind_kept}
use Rattle.demands.proofs.Starts.{starts}
use Rattle.demands.proofs.Viewing.{view_untouched}

-- the parts of an answer
abbrev number_in : Reply → ℕ
number_in r = r.number

counted : {v w : Verdict} → v ≡ w → v.count ≡ w.count
counted e = ap (λ (u : Verdict). u.count) e

two : {n : ℕ} → n ≡ 0 → n ≡ 1 → ⊥
two a b = omega arith

-- Demand 1

-- "Every file, however broken, gets a result or a refusal with a number and a line": the one that the rules give it, and no other
pub every_file : {file : List ℕ} {r : Reply} → Checks file r ↔ Answered file r
every_file {file} = (λ c. subst (Answered file) (sym c.answer) (check_answers file), λ a. record { answer = check_only file a })

-- "A refusal writes nothing into what was lent": reading, writing, the line reader
pub untouched :
    ((file : List ℕ) (old new : List ℤ) (r : Reply) → Reads file old r new → (r.number ≡ 0 → ⊥) → new ≡ old)
    × ((rows : List ℤ) (bytes old new : List ℕ) (r : Reply) → Writes rows bytes old r new → (r.number ≡ 0 → ⊥) → new ≡ old)
    × ((file : List ℕ) (at n : ℕ) (old new : List ℤ) (s : Step) → Shows file at n old s new → (s.reply.number ≡ 0 → ⊥) → new ≡ old)
untouched = (
  λ file old new r o h. o.left ∙ reading.untouched file old (λ z. h (ap number_in o.answer ∙ z)),
  λ cs bytes old new r o h. o.left ∙ rows.untouched cs bytes old (λ z. h (ap number_in o.answer ∙ z)),
  λ file at n old new s o h. view_untouched o h,
)

-- Demand 2

-- "An accepted file gives exactly the records that IDF 3.0 gives its lines": what `read` leaves means the list that the file says, line by line, each text by its own place in its own line, each row with the number of its line; and the rest is as it was
pub records : {file : List ℕ} {old new : List ℤ} {r : Reply} → Reads file old r new → r.number ≡ 0
    → (rs : List Rec)
    × (s : FileSays Idf3 rs file)
    × (r ≡ reply 0 0 (length rs))
    × RowsMean file rs (take (stride * length rs) new)
    × RowsOf (under Idf3 (titled rs)) file s.lines rs (take (stride * length rs) new)
    × (drop (stride * length rs) new ≡ drop (stride * length rs) old)
records {file} {old} o z =
    let w = read_list file (length old) (sym (ap number_in o.answer) ∙ z) in
    let h = w.0 in
    let s = w.1.1 in
    let i = w.1.2 in
    (w.1.0, s, o.answer ∙ reading.read_says file h s old i, rw o.left (front_means file h s old i), starts o z s.made s, rw o.left (behind_kept file h s old i))

-- rows mean one list at most
pub rows_one : {file : List ℕ} {rs qs : List Rec} {xs : List ℤ} → RowsMean file rs xs → RowsMean file qs xs → rs ≡ qs
rows_one a b = told.rows_one a b

-- all its records or none: too few rows lent is 2, with the number of rows needed
module _ {file : List ℕ} {old new : List ℤ} {r : Reply} (o : Reads file old r new) (h : length file ≤ limit) {rs : List Rec} (s : FileSays Idf3 rs file) where
  pub read_whole : length rs ≤ capacity (length old) → r ≡ reply 0 0 (length rs)
  read_whole i = o.answer ∙ reading.read_says file h s old i

  pub read_short : capacity (length old) < length rs → r ≡ reply 2 0 (length rs)
  read_short i = o.answer ∙ reading.read_short file h s old i

-- what `check` refuses, `read` refuses so
pub read_refused : {file : List ℕ} {old new : List ℤ} {r c : Reply} → Reads file old r new → Checks file c → (c.number ≡ 0 → ⊥) → r ≡ c
read_refused {file} {old} {c = c} o d h = o.answer ∙ sym (reads.read_refused file old c d.answer h)

-- "The writer turns records into one canonical text", which spells them
pub canonical_spells : {rs : List Rec} → Permitted Idf3 rs → Distinct Idf3 rs → FileSays Idf3 rs (canonical_text Idf3 rs)
canonical_spells p d = texts.canonical_spells Idf3 p d

-- no two lists have one text
pub one_text : {rs qs : List Rec} → Permitted Idf3 rs → Distinct Idf3 rs → Permitted Idf3 qs → Distinct Idf3 qs → (canonical_text Idf3 rs ≡ canonical_text Idf3 qs) ↔ (rs ≡ qs)
one_text p d q e = texts.one_text Idf3 p d q e

-- `write` gives it, or says that there is none or that the lines of the rows do not rise (15), or that it is too large (1) or the slice too short (14)
pub written_iff : {rows : List ℤ} {bytes old new : List ℕ} {r : Reply} → Writes rows bytes old r new ↔ Written rows bytes old r new
written_iff {rows} {bytes} {old} = (λ o. rw (o.answer, o.left) (write_answers rows bytes old), λ w. let e = written_one rows bytes old w in record { answer = e.0; left = e.1 })

-- "Within the size limit, reading that text gives the same records back"
pub round_trip : {rs : List Rec} {old new : List ℤ} {r : Reply} → Permitted Idf3 rs → Distinct Idf3 rs → length (canonical_text Idf3 rs) ≤ limit
    → Reads (canonical_text Idf3 rs) old r new → length rs ≤ capacity (length old)
    → (r ≡ reply 0 0 (length rs)) × RowsMean (canonical_text Idf3 rs) rs (take (stride * length rs) new)
round_trip {rs} {old} p d h o i =
    let s = canonical_spells p d in
    (read_whole o h s i, rw o.left (front_means (canonical_text Idf3 rs) h s old i))

-- what was read from a file is written as the canonical text of the list that the file says
pub written_read : {file : List ℕ} {rs : List Rec} {old new : List ℤ} {r q : Reply} {room out : List ℕ} → FileSays Idf3 rs file → length file ≤ limit
    → Reads file old r new → length rs ≤ capacity (length old)
    → Writes (take (stride * length rs) new) file room q out → length (canonical_text Idf3 rs) ≤ limit → length (canonical_text Idf3 rs) ≤ length room
    → (q ≡ reply 0 0 (length (canonical_text Idf3 rs))) × (out ≡ canonical_text Idf3 rs ++ drop (length (canonical_text Idf3 rs)) room)
written_read {file} {rs} {old} {new} {room = room} s h o i u l j =
    let e : take (stride * length rs) new ≡ rows_of file = ap (take (stride * length rs)) o.left ∙ texts.read_front file s h old i in
    let w = texts.write_read_text file s l room j in
    (u.answer ∙ ap (λ (xs : List ℤ). write_reply xs file (length room)) e ∙ w.0, u.left ∙ ap (λ (xs : List ℤ). write_text xs file room) e ∙ w.1)

-- so a canonical text is written as itself
pub written_again : {rs : List Rec} {old new : List ℤ} {r q : Reply} {room out : List ℕ} → Permitted Idf3 rs → Distinct Idf3 rs → length (canonical_text Idf3 rs) ≤ limit
    → Reads (canonical_text Idf3 rs) old r new → length rs ≤ capacity (length old)
    → Writes (take (stride * length rs) new) (canonical_text Idf3 rs) room q out → length (canonical_text Idf3 rs) ≤ length room
    → (q ≡ reply 0 0 (length (canonical_text Idf3 rs))) × (out ≡ canonical_text Idf3 rs ++ drop (length (canonical_text Idf3 rs)) room)
written_again p d h o i u j = written_read (canonical_spells p d) h o i u h j

-- what `write` wrote, `read` reads as the list that the rows said
pub read_written : {rows old new : List ℤ} {bytes room out : List ℕ} {q r : Reply} {rs : List Rec} → RowsSay bytes rs rows
    → Writes rows bytes room q out → q.number ≡ 0 → Reads (take q.count out) old r new → length rs ≤ capacity (length old)
    → (r ≡ reply 0 0 (length rs)) × RowsMean (take q.count out) rs (take (stride * length rs) new)
read_written {rows} {bytes = bytes} {room = room} s u z o i =
    let w = written_zero rows bytes room s (written_iff.0 u) z in
    rw w.1 (round_trip s.permitted s.distinct w.0 (rw w.1 at o) i)

-- Demand 3

-- "A file within the size limit is accepted exactly when it is a permitted spelling of some permitted list of records"
pub accepted_iff : {file : List ℕ} {r : Reply} → Checks file r → length file ≤ limit → (r.number ≡ 0) ↔ ((rs : List Rec) × FileSays Idf3 rs file)
accepted_iff {file} c h = rw c.answer (check_accepts file h)

-- over the limit it is 1, and only there
pub large_iff : {file : List ℕ} {r : Reply} → Checks file r → (r.number ≡ 1) ↔ (limit < length file)
large_iff {file} c = (λ z. answered_one (every_file.0 c) z, λ h. ap number_in (c.answer ∙ check_large file h))

-- "There is only one such list"
pub one_list : {file : List ℕ} {rs qs : List Rec} → FileSays Idf3 rs file → FileSays Idf3 qs file → rs ≡ qs
one_list a b = files.one_list Idf3 a b

-- "A refusal on content names the first line after which, size aside, no further lines would make an accepted file"
pub first_line : {file : List ℕ} {ls : List (List ℕ)} {r : Reply} → Checks file r → length file ≤ limit → File ls file → (k : ℕ)
    → ((3 ≤ r.number) × (r.number ≤ 12) × (r.line ≡ k + 1)) ↔ Fails ls k
first_line {file} {ls} {r} c h m k = (λ w. answered_line m (every_file.0 c) k w.0 w.1 w.2, λ f. named (check_first file h k (rw (lines_complete m) f)))
  where
    named : (n : ℕ) × (3 ≤ n) × (n ≤ 12) × (check_reply file ≡ reply n (k + 1) 0) → (3 ≤ r.number) × (r.number ≤ 12) × (r.line ≡ k + 1)
    named (n, a, b, e) = rw (c.answer, e) (a, b, refl)

-- "No. | given exactly when": of lines ls, then l, then more, the answer is n at the line l exactly where l is faulty by n after ls
pub numbered : {file : List ℕ} {r : Reply} (ls more : List (List ℕ)) (l : List ℕ) → Checks file r → length file ≤ limit → File (ls ++ (l ∷ more)) file → (n : ℕ)
    → (r ≡ reply n (length ls + 1) 0) ↔ FaultyAfter Idf3 ls l n
numbered ls more l c h m n = (λ e. named_faulty h ls more l m n (sym c.answer ∙ e), λ f. c.answer ∙ sym (every_file.1 (goal.refused ls l more h m f)).answer)

-- no line has two numbers
pub one_number : {ls : List (List ℕ)} {l : List ℕ} {m n : ℕ} → FaultyAfter Idf3 ls l m → FaultyAfter Idf3 ls l n → m ≡ n
one_number a b = faults.one_number Idf3 a b

-- the lines that have one are those that fail, and each is one of 3 to 12
pub fails_iff : (ls more : List (List ℕ)) (l : List ℕ) {file : List ℕ} → File (ls ++ (l ∷ more)) file → Fails (ls ++ (l ∷ more)) (length ls) ↔ ((n : ℕ) × FaultyAfter Idf3 ls l n)
fails_iff ls more l f = faults.fails_faulty Idf3 ls more l f

pub line_numbers : {ls : List (List ℕ)} {l : List ℕ} {n : ℕ} → FaultyAfter Idf3 ls l n → (3 ≤ n) × (n ≤ 12)
line_numbers f = faults.faulty_number Idf3 f

-- "or says that the file ends too early"
pub too_early : {file : List ℕ} {ls : List (List ℕ)} {r : Reply} → Checks file r → length file ≤ limit → File ls file
    → ((r.number ≡ 13) ↔ Short ls file) × (r.number ≡ 13 → r ≡ reply 13 (length ls + 1) 0)
too_early {file} {ls} {r} c h m = ((λ z. (answered_early m (every_file.0 c) z).0, ends), λ z. (answered_early m (every_file.0 c) z).1)
  where
    ends : Short ls file → r.number ≡ 13
    ends s = ap number_in (c.answer ∙ sym (every_file.1 (goal.too_early h m s)).answer)

-- "Two accepted files are the same exactly when their lists are equal": 1 where they are, 0 where they are not, and neither is refused
pub same_iff : {first second : List ℕ} {rs qs : List Rec} {v : Verdict} → Compares first second v → length first ≤ limit → length second ≤ limit
    → FileSays Idf3 rs first → FileSays Idf3 qs second
    → ((v ≡ verdict 0 0 1 0) ↔ (rs ≡ qs)) × ((v ≡ verdict 0 0 0 0) ↔ (rs ≡ qs → ⊥))
unfolding same_reply
same_iff {first} {second} {rs} {qs} {v} c h i s t = go (same_files nothing first second) (c.answer ∙ rw (check_count first h s, check_count second i t)) (rw c.answer (alike.same_iff first second h i s t))
  where
    go : (b : Bool) → v ≡ found_same b → (v.count ≡ 1) ↔ (rs ≡ qs) → ((v ≡ verdict 0 0 1 0) ↔ (rs ≡ qs)) × ((v ≡ verdict 0 0 0 0) ↔ (rs ≡ qs → ⊥))
    go true e w = ((λ x. w.0 (counted x), λ x. e), (λ x y. two (counted x) (w.1 y), λ d. absurd (d (w.0 (counted e)))))
    go false e w = ((λ x. w.0 (counted x), λ x. absurd (two (counted e) (w.1 x))), (λ x y. two (counted x) (w.1 y), λ d. e))

-- a refused file is named, 1 the first and 2 the second, with its own number and line
pub same_refused : {first second : List ℕ} {c d : Reply} {v : Verdict} → Compares first second v → Checks first c → Checks second d
    → ((c.number ≡ 0 → ⊥) → v ≡ verdict c.number c.line 0 1) × (c.number ≡ 0 → (d.number ≡ 0 → ⊥) → v ≡ verdict d.number d.line 0 2)
same_refused {first} {second} {c} {d} o a b = (
  λ h. o.answer ∙ sym (first_refused first second c a.answer (verdict c.number c.line 0 1) h refl),
  λ h i. o.answer ∙ sym (second_refused first second c a.answer (verdict d.number d.line 0 2) h d b.answer i refl),
)

-- Judging

-- the verdict on two accepted files is the one that the rules over their lists give
pub judged : {board library : List ℕ} {rs qs : List Rec} {v : Verdict} → length board ≤ limit → length library ≤ limit → FileSays Idf3 rs board → FileSays Idf3 qs library
    → Judges board library v ↔ Judged rs qs v
judged {board} {library} {v = v} h i s u = let w = entries.judged_exactly board library h i s u v in (λ e. w.0 (sym e.answer), λ j. record { answer = sym (w.1 j) })

-- a refused file is named as in comparing
pub judge_refused : {board library : List ℕ} {c d : Reply} {v : Verdict} → Judges board library v → Checks board c → Checks library d
    → ((c.number ≡ 0 → ⊥) → v ≡ verdict c.number c.line c.count 1)
    × (c.number ≡ 0 → (d.number ≡ 0 → ⊥) → v ≡ verdict d.number d.line d.count 2)
judge_refused {board} {library} {c} {d} o a b = (
  λ h. rw a.answer (o.answer ∙ entries.judged_first board library (λ z. h (ap number_in a.answer ∙ z))),
  λ h i. rw b.answer (o.answer ∙ entries.judged_second board library (sym (ap number_in a.answer) ∙ h) (λ z. i (ap number_in b.answer ∙ z))),
)
