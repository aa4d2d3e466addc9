-- What `check` answers is what the lines of the file say.
use Prim.Native.Nat.{ℕ, suc, ◌+◌, ◌≤◌, ◌<◌}
use mathlib.Core.Path.{◌≡◌, refl, ap, ◌∙◌}
use mathlib.Core.List.{List, [], ◌∷◌}
use mathlib.Core.Bool.{Bool, true, false, cond, ◌&&◌}
use native.Mathlib.Omega.{arith}
use borrow.Author.Tests.{le-ltb, ne_eqb}
use lib.Dec.{eqb}
use lib.IntN.{ℤ}
use lib.ListN.{length}
use Rattle.rows.specs.RowKinds.{leads_component}
use Rattle.text.specs.Lines.{lines_of}
use Rattle.law.specs.Values.{Rec}
use Rattle.law.specs.Layouts.{types_of}
use Rattle.law.specs.declared.Rules.TheVariants.{Idf3}
use Rattle.law.specs.Rows.{Holds}
use Rattle.law.specs.Records.{Named, names_a_component, name_in}
use Rattle.order.specs.Automaton.{start, accepting, is_among, repeats, noted}
use Rattle.order.specs.declared.State.{State}
use Rattle.law.specs.Answers.{limit, reply}
use Rattle.walk.specs.Walks.{Trace}
use Rattle.read.specs.Replies.{ended_by, surveyed, check_reply}
use Rattle.law.specs.declared.Reply.{Reply}
use Rattle.shown_told.specs.Told.{says, wrong, Told, ended, broken, after_nothing, after_record, go_on, told_from}
use Rattle.shown_read.specs.Outcomes.{reply_of}
use Rattle.shown_read.proofs.RowColumns.{name_at, name_in_lem, names_is}
use Rattle.shown_read.proofs.LineUsed.{line_used}
use Rattle.shown_read.proofs.Traced.{Follows, done, stop, skip, row, trace_follows}
use Rattle.shown_read.proofs.NamesAgain.{again_in, repeat_again}

-- the answer where c rows were counted before, and the first of n lines has number k in the file
abbrev reply_from : ℕ → ℕ → Told → ℕ → Reply
reply_from c k (ended rs st) n = cond (accepting st) (reply 0 0 (c + length rs)) (reply 13 (k + n) 0)
reply_from c k (broken i m) n = reply m (k + i) 0

from_none : (c k : ℕ) (st : State) → cond (accepting st) (reply 0 0 c) (reply 13 k 0) ≡ reply_from c k (ended [] st) 0
from_none c k st =
    let e : c + 0 ≡ c = omega arith in
    let f : k + 0 ≡ k = omega arith in
    rw (e, f)

from_wrong : (c k m n : ℕ) → reply m k 0 ≡ reply_from c k (broken 0 m) n
from_wrong c k m n = let e : k + 0 ≡ k = omega arith in rw e

from_nothing : (c k : ℕ) (x : Told) (n : ℕ) → reply_from c (k + 1) x n ≡ reply_from c k (after_nothing x) (suc n)
from_nothing c k (ended rs st) n = let e : k + 1 + n ≡ k + suc n = omega arith in rw e
from_nothing c k (broken i m) n = let e : k + 1 + i ≡ k + suc i = omega arith in rw e

from_record : (c k : ℕ) (r : Rec) (x : Told) (n : ℕ) → reply_from (c + 1) (k + 1) x n ≡ reply_from c k (after_record r x) (suc n)
from_record c k r (ended rs st) n =
    let e : k + 1 + n ≡ k + suc n = omega arith in
    let f : c + 1 + length rs ≡ c + suc (length rs) = omega arith in
    rw (e, f)
from_record c k r (broken i m) n = let e : k + 1 + i ≡ k + suc i = omega arith in rw e

from_start : (x : Told) (n : ℕ) → reply_from 0 1 x n ≡ reply_of x n
from_start (ended rs st) n =
    let e : 1 + n ≡ n + 1 = omega arith in
    let f : 0 + length rs ≡ length rs = omega arith in
    rw (e, f)
from_start (broken i m) n = let e : 1 + i ≡ i + 1 = omega arith in rw e

-- A row and its record name the same component
module _ (file : List ℕ) (used : List Named) (r : Rec) (x : List ℤ) (h : Holds file r.kind (types_of Idf3 r.kind) x r.values) where
  row_repeats : (leads_component x && is_among (name_at file x) used) ≡ repeats Idf3 used r
  row_repeats = rw (names_is file Idf3 r.kind x r.values h) (go (names_a_component Idf3 r.kind) refl)
    where
      go : (b : Bool) → names_a_component Idf3 r.kind ≡ b → (b && is_among (name_at file x) used) ≡ (b && is_among (name_in r) used)
      go true e = ap (λ (a : Named). is_among a used) (name_in_lem file Idf3 r.kind x r.values h e)
      go false e = refl

  row_noted : cond (leads_component x) (name_at file x ∷ used) used ≡ noted Idf3 used r
  row_noted = rw (names_is file Idf3 r.kind x r.values h) (go (names_a_component Idf3 r.kind) refl)
    where
      go : (b : Bool) → names_a_component Idf3 r.kind ≡ b → cond b (name_at file x ∷ used) used ≡ cond b (name_in r ∷ used) used
      go true e = ap (λ (a : Named). a ∷ used) (name_in_lem file Idf3 r.kind x r.values h e)
      go false e = refl

module _ (file : List ℕ) where
  -- the first repeated name, if there is one, and otherwise the survey
  abbrev answer : List Named → ℕ → Trace → Reply
  answer used c t = cond (eqb (again_in file used t) 0) (surveyed (reply 0 0 c) t) (reply 12 (again_in file used t) 0)

  follows_told : {st : State} {ls : List (List ℕ)} {k : ℕ} {t : Trace} → Follows file st ls k t → 0 < k → (used : List Named) (c : ℕ)
      → answer used c t ≡ reply_from c k (told_from Idf3 used st ls) (length ls)
  unfolding told_from again_in surveyed ended_by
  follows_told (done {st = st} {k = k} a b) p used c = rw (a, b) (from_none c k st)
  follows_told (stop {st = st} {l = l} {ls = ls} {k = k} {n = n} e) p used c = rw (line_used Idf3 used st l, e) (from_wrong c k n (suc (length ls)))
  follows_told (skip {st = st} {l = l} {ls = ls} {k = k} e f) p used c =
      rw (line_used Idf3 used st l, e) (follows_told f (omega arith) used c ∙ from_nothing c k (told_from Idf3 used st ls) (length ls))
  follows_told (row {st = st} {u = u} {l = l} {ls = ls} {k = k} {r = r} {x = x} {t = t} e h f) p used c =
      rw (line_used Idf3 used st l, e, row_repeats file used r x h, row_noted file used r x h) (go (repeats Idf3 used r) (follows_told f (omega arith) (noted Idf3 used r) (c + 1)))
    where
      go : (b : Bool) → answer (noted Idf3 used r) (c + 1) t ≡ reply_from (c + 1) (k + 1) (told_from Idf3 (noted Idf3 used r) u ls) (length ls)
          → cond (eqb (cond b k (again_in file (noted Idf3 used r) t)) 0) (surveyed (reply 0 0 (c + 1)) t) (reply 12 (cond b k (again_in file (noted Idf3 used r) t)) 0)
          ≡ reply_from c k (go_on (cond b (wrong 12) (says r u)) (told_from Idf3 used st ls) (λ q w. told_from Idf3 (noted Idf3 used q) w ls)) (suc (length ls))
      go true ih = rw (ne_eqb k 0 (λ z. omega arith)) (from_wrong c k 12 (suc (length ls)))
      go false ih = ih ∙ from_record c k r (told_from Idf3 (noted Idf3 used r) u ls) (length ls)

  -- for every file that is not too large
  pub check_told : length file ≤ limit → check_reply file ≡ reply_of (told_from Idf3 [] start (lines_of file)) (length (lines_of file))
  unfolding check_reply
  check_told h =
      rw (le-ltb limit (length file) h, repeat_again file)
      (follows_told (trace_follows file) (omega arith) [] 0 ∙ from_start (told_from Idf3 [] start (lines_of file)) (length (lines_of file)))
