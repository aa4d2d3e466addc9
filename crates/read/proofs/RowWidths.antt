-- Every row has its width, with its line the stride, and no refusal the number 0, so as many numbers are written as rows are counted.
use Prim.Native.Nat.{ℕ, zero, suc, ◌+◌, ◌-◌, ◌*◌}
use mathlib.Core.Path.{◌≡◌, refl, ◌∙◌}
use mathlib.Core.List.{List, [], ◌∷◌}
use mathlib.Core.Bool.{Bool, true, false, cond}
use native.Mathlib.Omega.{arith}
use Rattle.std.specs.Prelude.{Result, Ok, Err, Ok as Next, Err as Stops}
use lib.Dec.{eqb, ltb}
use lib.IntN.{ℤ, pos}
use lib.ListN.{length, set, length-append, length-set}
use Rattle.rows.specs.Columns.{point_in, type_in_row}
use Rattle.law.specs.Fits.{under}
use Rattle.law.specs.Layouts.{types_of}
use Rattle.law.specs.Refusals.{number_of}
use Rattle.law.specs.declared.refusals.Refusal.{Refusal}
use Rattle.law.specs.declared.refusals.Refusal.TheVariants.{TooLarge, FewRows, ForbiddenByte, BrokenQuoting, Misplaced, FieldCount, NoNumber, TooFine, WrongWord, BeyondLimit, LoopRule, NameAgain, TooEarly, ShortText, NoList, NoEntry, WrongKind}
use Rattle.law.specs.declared.Context.{Context}
use Rattle.law.specs.declared.Rules.{Rules}
use Rattle.law.specs.declared.Rules.TheVariants.{Idf3}
use Rattle.law.specs.declared.FieldType.{FieldType}
use Rattle.law.specs.Rows.{width, stride, with_line}
use Rattle.line_rows.specs.Rows.{put_entry, put_next, entry_at, onward, begun as firstly, fill_from, filled}
use Rattle.line_rows.specs.declared.Entry.{Entry}
use Rattle.line_rows.specs.declared.Entry.TheVariants.{Number, Word, Text}
use Rattle.line_rows.specs.declared.Filling.{Filling}
use Rattle.order.specs.Automaton.{type_at, stepped, accepting}
use Rattle.order.specs.declared.State.{State}
use Rattle.order.specs.declared.State.TheVariants.{Between, Inside}
use Rattle.order.specs.declared.Reason.{Reason}
use Rattle.walk.specs.declared.Found.{Found}
use Rattle.walk.specs.declared.Found.TheVariants.{Row, Nothing, Refused}
use Rattle.walk.specs.declared.JudgedLine.{JudgedLine}
use Rattle.law.specs.declared.Reply.{Reply}
use Rattle.walk.specs.declared.Walk.{Walk}
use Rattle.walk.specs.declared.Turn.{Turn}
use Rattle.walk.specs.Judging.{free_by, moved_row, filled_by, judged}
use Rattle.law.specs.Answers.{limit, reply}
use Rattle.walk.specs.Walks.{begun, turn_of, line_in, Trace, done, trace_by, trace_in, trace_at}
use Rattle.names.specs.Names.{repeat_of}
use Rattle.read.specs.Replies.{ended_by, surveyed, survey, check_reply, rows_in, rows_of}
use Rattle.walk.proofs.EveryLine.{every_line}

-- every row has its width

put_long : (b : ℕ) (f : Filling) (e : Entry) → length f.row ≡ width → length (put_entry b f e).row ≡ width
put_long b f (Number z m) h = length-set f.row _ _ ∙ h
put_long b f (Word n m) h = length-set f.row _ _ ∙ h
put_long b f (Text a l m) h = length-set (set f.row f.column (pos (b + a))) (f.column + 1) (pos l) ∙ length-set f.row f.column (pos (b + a)) ∙ h

-- a row that was filled is as long
abbrev Filled : Result Filling Refusal → Type 0
Filled (Ok f) = length f.row ≡ width
Filled (Err e) = Unit {0}

fill_long : (c : Context) (b : ℕ) (s : List ℕ) (ts : List FieldType) (f : Filling) → length f.row ≡ width → Filled (fill_from c b s ts f)
unfolding fill_from
fill_long c b s [] f h = h
fill_long c b s (t ∷ ts) f h = go (entry_at c t f.at s) (fill_long c b s ts)
  where
    go : (x : Result Entry Refusal) → ((g : Filling) → length g.row ≡ width → Filled (fill_from c b s ts g)) → Filled (onward (put_next b f x) (fill_from c b s ts))
    go (Ok e) ih = ih (put_entry b f e) (put_long b f e h)
    go (Err e) ih = tt

Wide : JudgedLine → Type 0
Wide j = length j.row ≡ width

wide_free : (st : State) → Wide (free_by st)
unfolding Wide
wide_free (Between g) = refl
wide_free (Inside g s p) = refl

module _ (v : Rules) (st : State) where
  wide_moved : (r : List ℤ) (o : Result State Reason) → length r ≡ width → Wide (moved_row st r o)
  unfolding Wide
  wide_moved r (Next t) h = h
  wide_moved r (Stops e) h = refl

  wide_read : (k : ℕ) (x : Result Filling Refusal) → Filled x → Wide (filled_by v st k x)
  unfolding Wide filled_by
  wide_read k (Ok f) h = wide_moved f.row (stepped v st k (type_in_row f.row) (point_in f.row)) h
  wide_read k (Err e) h = refl

  wide_filled : (k b : ℕ) (s : List ℕ) (m : ℕ) → Wide (filled_by v st k (filled (under v (type_at st)) k b s m))
  unfolding filled
  wide_filled k b s m = wide_read k _ (fill_long (under v (type_at st)) b s (types_of v k) (firstly k m) refl)

  wide_judged : (b : ℕ) (s : List ℕ) → Wide (judged v st b s)
  unfolding Wide
  wide_judged = every_line v st Wide (λ e. refl) (wide_free st) wide_filled

pub turn_wide : (file : List ℕ) (w : Walk) → length (turn_of file w).row ≡ width
unfolding Wide turn_of line_in
turn_wide file w = wide_judged Idf3 w.state w.at _

-- and with its line the stride
pub lined_wide : (x : List ℤ) (n : ℤ) → length x ≡ width → length (with_line x n) ≡ stride
lined_wide x n h = omega (arith, length-append x (n ∷ []), h)

-- no refusal has the number 0
number_some : (e : Refusal) → number_of e ≡ 0 → ⊥
number_some TooLarge h = omega arith
number_some FewRows h = omega arith
number_some ForbiddenByte h = omega arith
number_some BrokenQuoting h = omega arith
number_some Misplaced h = omega arith
number_some FieldCount h = omega arith
number_some NoNumber h = omega arith
number_some TooFine h = omega arith
number_some WrongWord h = omega arith
number_some BeyondLimit h = omega arith
number_some LoopRule h = omega arith
number_some NameAgain h = omega arith
number_some TooEarly h = omega arith
number_some ShortText h = omega arith
number_some NoList h = omega arith
number_some NoEntry h = omega arith
number_some WrongKind h = omega arith

-- so as many numbers are written as rows are counted

counts_end : (r : Reply) (w : Walk) → (ended_by r w).number ≡ 0 → (ended_by r w).count ≡ r.count
unfolding ended_by
counts_end r w = go (accepting w.state)
  where
    go : (b : Bool) → (cond b r (reply 13 w.line 0)).number ≡ 0 → (cond b r (reply 13 w.line 0)).count ≡ r.count
    go true h = refl
    go false h = absurd (omega arith)

abbrev Long : Reply → Trace → Type 0
Long r x = (surveyed r x).number ≡ 0 → stride * r.count + length (rows_in x) ≡ stride * (surveyed r x).count

rows_long : (n : ℕ) (file : List ℕ) (r : Reply) (w : Walk) → Long r (trace_in n file w)
unfolding trace_in surveyed rows_in
rows_long zero file r w h = let k = counts_end r w h in omega arith
rows_long (suc n) file r w h = go (ltb w.at (length file)) (λ q. rows_long n file q (turn_of file w).walk) h
  where
    t : Turn
    t = turn_of file w

    found : (f : Found) → t.found ≡ f → ((q : Reply) → Long q (trace_in n file t.walk)) → Long r (trace_by f w.line t.row (trace_in n file t.walk))
    found Row e ih h = let k = ih (reply 0 0 (r.count + 1)) h in omega (arith, length-append (with_line t.row (pos w.line)) (rows_in (trace_in n file t.walk)), lined_wide t.row (pos w.line) (turn_wide file w))
    found Nothing e ih h = ih r h
    found (Refused m) e ih h = absurd (number_some m h)

    go : (b : Bool) → ((q : Reply) → Long q (trace_in n file t.walk)) → Long r (cond b (trace_by t.found w.line t.row (trace_in n file t.walk)) (done w))
    go true ih h = found t.found refl ih h
    go false ih h = let k = counts_end r w h in omega arith

pub check_counts : (file : List ℕ) (r : Reply) → r ≡ check_reply file → r.number ≡ 0 → length (rows_of file) ≡ stride * r.count
unfolding check_reply trace_at
check_counts file r e h = rw e (go (ltb limit (length file)) (eqb (repeat_of file) 0) (rw e at h))
  where
    go : (a b : Bool) → (cond a (reply 1 0 0) (cond b (survey file) (reply 12 (repeat_of file) 0))).number ≡ 0
        → length (rows_of file) ≡ stride * (cond a (reply 1 0 0) (cond b (survey file) (reply 12 (repeat_of file) 0))).count
    go true b i = absurd (omega arith)
    go false true i = let k = rows_long (length file - 0) file (reply 0 0 0) begun i in omega arith
    go false false i = absurd (omega arith)
