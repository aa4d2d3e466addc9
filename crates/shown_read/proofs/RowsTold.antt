-- The rows of a file hold the values of the records that its lines say, and say no other records.
use Prim.Native.Nat.{ℕ, ◌*◌}
use mathlib.Core.Path.{◌≡◌, refl, sym, ap, ◌∙◌, subst}
use mathlib.Core.List.{List, [], ◌∷◌, ◌++◌}
use mathlib.Core.Bool.{Bool, true, false, cond}
use native.Mathlib.Omega.{arith}
use lib.IntN.{ℤ, pos}
use lib.ListN.{length, take, drop, replicate, length-append, length-replicate}
use lib.Seq.{take_at, drop_at}
use Rattle.text.specs.Lines.{lines_of}
use Rattle.law.specs.Values.{Value, Rec}
use Rattle.law.specs.Layouts.{types_of}
use Rattle.law.specs.declared.Rules.TheVariants.{Idf3}
use Rattle.law.specs.declared.FieldType.{FieldType}
use Rattle.law.specs.Rows.{width, stride, with_line, Holds, RowsMean}
use Rattle.line_rows.proofs.MeaningLaws.{means_one, means_wide}
use Rattle.law.specs.Records.{Named}
use Rattle.order.specs.Automaton.{start, repeats, noted}
use Rattle.order.specs.declared.State.{State}
use Rattle.walk.specs.Walks.{Trace}
use Rattle.read.specs.Replies.{rows_in, rows_of}
use Rattle.read.proofs.RowWidths.{lined_wide}
use Rattle.shown_told.specs.Told.{says, wrong, Told, ended, broken, after_nothing, after_record, go_on, told_from}
use Rattle.law.specs.Rows as rows
use Rattle.shown_read.proofs.LineUsed.{line_used}
use Rattle.shown_read.proofs.Traced.{Follows, done, stop, skip, row, trace_follows}

module _ (file : List ℕ) where
  -- what an answer says of rows
  abbrev Told-in : List ℤ → Told → Type 0
  Told-in xs (ended rs st) = RowsMean file rs xs
  Told-in xs (broken k n) = Unit {0}

  in_nothing : (xs : List ℤ) (y : Told) → Told-in xs y → Told-in xs (after_nothing y)
  in_nothing xs (ended rs st) m = m
  in_nothing xs (broken k n) m = tt

  in_record : (r : Rec) (x xs : List ℤ) (l : ℤ) (y : Told) → Holds file r.kind (types_of Idf3 r.kind) x r.values → Told-in xs y → Told-in (with_line x l ++ xs) (after_record r y)
  in_record r x xs l (ended rs st) h m = rows.row l h m
  in_record r x xs l (broken k n) h m = tt

  follows_rows : {st : State} {ls : List (List ℕ)} {k : ℕ} {t : Trace} → Follows file st ls k t → (used : List Named) → Told-in (rows_in t) (told_from Idf3 used st ls)
  unfolding told_from rows_in
  follows_rows (done a b) used = rows.none
  follows_rows (stop {st = st} {l = l} e) used = rw (line_used Idf3 used st l, e) tt
  follows_rows (skip {st = st} {l = l} {ls = ls} {t = t} e f) used = rw (line_used Idf3 used st l, e) (in_nothing (rows_in t) (told_from Idf3 used st ls) (follows_rows f used))
  follows_rows (row {st = st} {u = u} {l = l} {ls = ls} {k = k} {r = r} {x = x} {t = t} e h f) used =
      rw (line_used Idf3 used st l, e) (go (repeats Idf3 used r) (follows_rows f (noted Idf3 used r)))
    where
      go : (b : Bool) → Told-in (rows_in t) (told_from Idf3 (noted Idf3 used r) u ls)
          → Told-in (with_line x (pos k) ++ rows_in t) (go_on (cond b (wrong 12) (says r u)) (told_from Idf3 used st ls) (λ q w. told_from Idf3 (noted Idf3 used q) w ls))
      go true m = tt
      go false m = in_record r x (rows_in t) (pos k) (told_from Idf3 (noted Idf3 used r) u ls) h m

  -- a file whose lines are told to the end has a row for each record
  pub rows_told : (rs : List Rec) (st : State) → told_from Idf3 [] start (lines_of file) ≡ ended rs st → RowsMean file rs (rows_of file)
  rows_told rs st e = subst (Told-in (rows_of file)) e (follows_rows (trace_follows file) [])

-- each row has its width
pub row_wide : {file : List ℕ} {k : ℕ} {ts : List FieldType} {x : List ℤ} {vs : List Value} → Holds file k ts x vs → length x ≡ width
row_wide h = rw h.is (omega (arith, h.ten, length-append h.columns (replicate h.left (pos 0)), length-replicate h.left (pos 0)))

pub rows_long : {file : List ℕ} {rs : List Rec} {xs : List ℤ} → RowsMean file rs xs → length xs ≡ stride * length rs
rows_long rows.none = refl
rows_long (rows.row {x = x} {xs = xs} n h m) = omega (arith, lined_wide x n (row_wide h), rows_long m, length-append (with_line x n) xs)

-- One list of rows holds one list of records

-- columns of one width in front of others
pub columns_one : (cs ds es gs : List ℤ) → length cs ≡ length ds → cs ++ es ≡ ds ++ gs → cs ≡ ds
columns_one cs ds es gs h e = sym (take_at cs es (length cs) refl) ∙ ap (take (length cs)) e ∙ take_at ds gs (length cs) (sym h)

pub rest_one : (cs ds es gs : List ℤ) → length cs ≡ length ds → cs ++ es ≡ ds ++ gs → es ≡ gs
rest_one cs ds es gs h e = sym (drop_at cs es (length cs) refl) ∙ ap (drop (length cs)) e ∙ drop_at ds gs (length cs) (sym h)

-- rows with their lines in front of others
module _ (x y : List ℤ) (m n : ℤ) (xs ys : List ℤ) (g : length x ≡ width) (h : length y ≡ width) (e : with_line x m ++ xs ≡ with_line y n ++ ys) where
  as_wide : length (with_line x m) ≡ length (with_line y n)
  as_wide = lined_wide x m g ∙ sym (lined_wide y n h)

  pub record_same : x ≡ y
  record_same = columns_one x y (m ∷ []) (n ∷ []) (g ∙ sym h) (columns_one (with_line x m) (with_line y n) xs ys as_wide e)

  pub behind_same : xs ≡ ys
  behind_same = rest_one (with_line x m) (with_line y n) xs ys as_wide e

kind_one : {file : List ℕ} {k j : ℕ} {ts us : List FieldType} {x : List ℤ} {vs ws : List Value} → Holds file k ts x vs → Holds file j us x ws → k ≡ j
kind_one {k = k} {j = j} g h = let a = g.is in let b = h.is in cc

values_one : {file : List ℕ} {k : ℕ} {ts : List FieldType} {x : List ℤ} {vs ws : List Value} → Holds file k ts x vs → Holds file k ts x ws → vs ≡ ws
values_one {ts = ts} {vs = vs} g h =
    let a = g.is in
    let b = h.is in
    let e : g.columns ++ replicate g.left (pos 0) ≡ h.columns ++ replicate h.left (pos 0) = cc in
    let c : g.columns ≡ h.columns = columns_one g.columns h.columns _ _ (means_wide g.means ∙ sym (means_wide h.means)) e in
    means_one (rw c at g.means) h.means

record_one : {file : List ℕ} (q r : Rec) {x : List ℤ} → Holds file q.kind (types_of Idf3 q.kind) x q.values → Holds file r.kind (types_of Idf3 r.kind) x r.values → q ≡ r
record_one {file} q r {x} g h =
    let k = kind_one g h in
    let v : q.values ≡ r.values = values_one (subst (λ (n : ℕ). Holds file n (types_of Idf3 n) x q.values) k g) h in
    λ i. record { kind = k i; values = v i }

rows_same : {file : List ℕ} {rs qs : List Rec} {xs ys : List ℤ} → RowsMean file rs xs → RowsMean file qs ys → xs ≡ ys → rs ≡ qs
rows_same rows.none rows.none e = refl
rows_same rows.none (rows.row {x = x} {xs = xs} k h m) e = absurd (omega (arith, lined_wide x k (row_wide h), ap length e, length-append (with_line x k) xs))
rows_same (rows.row {x = x} {xs = xs} k h m) rows.none e = absurd (omega (arith, lined_wide x k (row_wide h), ap length e, length-append (with_line x k) xs))
rows_same {file} (rows.row {r = r} {x = x} {xs = xs} j g m) (rows.row {r = q} {x = y} {xs = ys} k h n) e =
    let i : x ≡ y = record_same x y j k xs ys (row_wide g) (row_wide h) e in
    let a : r ≡ q = record_one r q g (rw (sym i) at h) in
    rw (a, rows_same m n (behind_same x y j k xs ys (row_wide g) (row_wide h) e))

pub rows_one : {file : List ℕ} {rs qs : List Rec} {xs : List ℤ} → RowsMean file rs xs → RowsMean file qs xs → rs ≡ qs
rows_one a b = rows_same a b refl
