-- The rows of a file are those of its lines: each start is the first byte of the line and the place of the field in it.
use Prim.Native.Nat.{ℕ, zero, suc, ◌+◌, ◌≤◌, ◌<◌}
use mathlib.Core.Path.{◌≡◌, refl, sym, subst}
use mathlib.Core.List.{List, [], ◌∷◌, ◌++◌}
use mathlib.Core.Bool.{Bool, true, false, cond}
use native.Mathlib.Omega.{arith}
use borrow.Author.Tests.{ltb-true, ltb-false}
use lib.Dec.{ltb}
use lib.IntN.{ℤ, pos}
use lib.ListN.{length, take, drop, length-drop}
use lib.Seq.{drop-drop}
use Rattle.text.specs.Lines.{line_end, lines_of}
use Rattle.law.specs.Lines.{File, place_behind, Free}
use Rattle.basics.proofs.Lists.{at_end}
use Rattle.text.proofs.LineLaws.{line_inside, lines_none, lines_first}
use Rattle.text.proofs.LineSpelling.{place_behind_lem, lines_complete, lines_unique}
use Rattle.law.specs.Values.{Rec}
use Rattle.law.specs.Fits.{under}
use Rattle.law.specs.declared.Context.{Context}
use Rattle.law.specs.declared.Rules.TheVariants.{Idf3}
use Rattle.line_rows.proofs.MeaningLaws.{part_cut}
use Rattle.law.specs.Records.{Named}
use Rattle.order.specs.Automaton.{repeats, noted}
use Rattle.order.specs.declared.State.{State}
use Rattle.law.specs.LineSpelling as spell
use Rattle.law.specs.LineSpelling.{Where, outside, SpellsLines}
use Rattle.shown_spelling.proofs.FileSpelling.{record_not_free}
use Rattle.walk.specs.Walks.{begun, line_in, turn_of, Trace, trace_by, trace_at}
use Rattle.walk.specs.declared.JudgedLine.{JudgedLine}
use Rattle.walk.specs.declared.Walk.{Walk}
use Rattle.walk.proofs.WalkLaws.{trace_end, trace_step}
use Rattle.read.specs.Replies.{rows_in, rows_of}
use Rattle.shown_told.specs.Told.{Said, nothing, says, wrong, line_says, Told, ended, broken, after_nothing, after_record, go_on, told_from}
use Rattle.law.specs.Files.{titled, FileSays}
use Rattle.shown_told.proofs.LineSound.{line_sound, line_nothing}
use Rattle.shown_read.proofs.LineJoined.{Joined, line_joined}
use Rattle.shown_read.proofs.LineUsed.{line_used}
use Rattle.shown_told.proofs.WholeFiles.{accepted_exactly}
use Rattle.law.specs.Rows.{with_line}
use Rattle.law.specs.RowPlaces as rows
use Rattle.law.specs.RowPlaces.{RowOf, RowsAt, RowsOf}
use Rattle.shown_places.proofs.LineRows.{Rowed, line_rowed}

-- as `RowsAt`, of lines of which it is known only that they are not free
data RowsIn (file : List ℕ) : ℕ → ℕ → List (List ℕ) → List Rec → List ℤ → Type 0 where
  end : {b n : ℕ} → RowsIn file b n [] [] []
  free : {b n : ℕ} {l : List ℕ} {ls : List (List ℕ)} {rs : List Rec} {xs : List ℤ} → Free l → RowsIn file (place_behind file b l) (n + 1) ls rs xs → RowsIn file b n (l ∷ ls) rs xs
  line : {b n : ℕ} {l : List ℕ} {ls : List (List ℕ)} {r : Rec} {rs : List Rec} {x xs : List ℤ}
      → (Free l → ⊥) → RowOf b l r x → RowsIn file (place_behind file b l) (n + 1) ls rs xs → RowsIn file b n (l ∷ ls) (r ∷ rs) (with_line x (pos n) ++ xs)

module _ (file : List ℕ) where
  -- with the records that they spell
  spelled_rows : {c : Context} {w : Where} {b n : ℕ} {ls : List (List ℕ)} {rs : List Rec} {xs : List ℤ} → SpellsLines c w rs ls → RowsIn file b n ls rs xs → RowsAt c file b n ls rs xs
  spelled_rows spell.end end = rows.end
  spelled_rows (spell.free f p) (free g q) = rows.free f (spelled_rows p q)
  spelled_rows (spell.free f p) (line h x q) = absurd (h f)
  spelled_rows (spell.line s p) (free g q) = absurd (record_not_free s g)
  spelled_rows (spell.line s p) (line h x q) = rows.line s x (spelled_rows p q)

  -- what an answer says of rows
  abbrev ToldAt : ℕ → ℕ → List (List ℕ) → List ℤ → Told → Type 0
  ToldAt b k ls xs (ended rs st) = RowsIn file b k ls rs xs
  ToldAt b k ls xs (broken i n) = Unit {0}

  -- one line in front of others
  one : (st : State) (l : List ℕ) (ls : List (List ℕ)) (used : List Named) (b k : ℕ) (j : JudgedLine) (t : Trace) (x : Said) → line_says Idf3 [] st l ≡ x → Joined Idf3 file st x j → Rowed b l x j
      → ((us : List Named) → ToldAt (place_behind file b l) (k + 1) ls (rows_in t) (told_from Idf3 us j.state ls))
      → ToldAt b k (l ∷ ls) (rows_in (trace_by j.found k j.row t)) (told_from Idf3 used st (l ∷ ls))
  unfolding told_from rows_in
  one st l ls used b k j t nothing e p q ih =
      rw (p.found, line_used Idf3 used st l, e) (go (told_from Idf3 used st ls) (subst (λ (u : State). ToldAt (place_behind file b l) (k + 1) ls (rows_in t) (told_from Idf3 used u ls)) p.state (ih used)))
    where
      go : (y : Told) → ToldAt (place_behind file b l) (k + 1) ls (rows_in t) y → ToldAt b k (l ∷ ls) (rows_in t) (after_nothing y)
      go (ended rs en) m = free (line_nothing Idf3 [] st l e).2 m
      go (broken i n) m = tt
  one st l ls used b k j t (says r u) e p q ih =
      rw (p.found, line_used Idf3 used st l, e) (by (repeats Idf3 used r))
    where
      go : (y : Told) → ToldAt (place_behind file b l) (k + 1) ls (rows_in t) y → ToldAt b k (l ∷ ls) (with_line j.row (pos k) ++ rows_in t) (after_record r y)
      go (ended rs en) m = line (record_not_free (line_sound Idf3 [] st l r u e).0) (q p.found) m
      go (broken i n) m = tt

      by : (c : Bool) → ToldAt b k (l ∷ ls) (with_line j.row (pos k) ++ rows_in t) (go_on (cond c (wrong 12) (says r u)) (told_from Idf3 used st ls) (λ q w. told_from Idf3 (noted Idf3 used q) w ls))
      by true = tt
      by false = go (told_from Idf3 (noted Idf3 used r) u ls) (subst (λ (w : State). ToldAt (place_behind file b l) (k + 1) ls (rows_in t) (told_from Idf3 (noted Idf3 used r) w ls)) p.state (ih (noted Idf3 used r)))
  one st l ls used b k j t (wrong n) e p q ih = rw (line_used Idf3 used st l, e) tt

  abbrev AtWalk : Walk → List Named → Type 0
  AtWalk w used = ToldAt w.at w.line (lines_of (drop w.at file)) (rows_in (trace_at file w)) (told_from Idf3 used w.state (lines_of (drop w.at file)))

  rows_end : (w : Walk) (used : List Named) → length file ≤ w.at → AtWalk w used
  unfolding told_from rows_in
  rows_end w used h = rw (at_end file w.at h, lines_none, trace_end file w h) end

  rows_step : (w : Walk) (used : List Named) → w.at < length file
      → (w.at < (turn_of file w).walk.at → (turn_of file w).walk.at ≤ length file → (us : List Named) → AtWalk (turn_of file w).walk us)
      → AtWalk w used
  unfolding turn_of line_in
  rows_step w used h ih =
      let s = drop w.at file in
      let l = take (line_end s).content s in
      let i = line_inside s in
      let d = length-drop w.at file in
      let a : 0 < (line_end s).next = i.past (omega arith) in
      let b : (line_end s).next ≤ length s = i.within in
      let g : drop (w.at + (line_end s).next) file ≡ drop (line_end s).next s = sym (drop-drop (line_end s).next w.at file) in
      let e : lines_of s ≡ l ∷ lines_of (drop (line_end s).next s) = lines_first s (omega arith) in
      let n = place_behind_lem file w.at in
      let k = ih (omega arith) (omega arith) in
      rw (e, trace_step file w h)
      (one w.state l _ used w.at w.line (line_in file w) _ (line_says Idf3 [] w.state l) refl
      (line_joined Idf3 w.state file l w.at (part_cut file w.at (line_end s).content (omega arith)))
      (line_rowed Idf3 w.state l w.at)
      (λ us. subst (λ (m : ℕ). ToldAt m (w.line + 1) (lines_of (drop (line_end s).next s)) (rows_in (trace_at file (turn_of file w).walk)) (told_from Idf3 us (line_in file w).state (lines_of (drop (line_end s).next s)))) n (rw g at (k us))))

  rows_in_lem : (fuel : ℕ) (w : Walk) (used : List Named) → length file ≤ w.at + fuel → w.at ≤ length file → AtWalk w used
  rows_in_lem zero w used h i = rows_end w used (omega arith)
  rows_in_lem (suc fuel) w used h i = go (ltb w.at (length file)) refl (λ a b us. rows_in_lem fuel (turn_of file w).walk us (omega arith) b)
    where
      go : (t : Bool) → ltb w.at (length file) ≡ t
          → (w.at < (turn_of file w).walk.at → (turn_of file w).walk.at ≤ length file → (us : List Named) → AtWalk (turn_of file w).walk us)
          → AtWalk w used
      go true e ih = rows_step w used (ltb-true w.at (length file) e) ih
      go false e ih = rows_end w used (ltb-false w.at (length file) e)

  -- the rows of a file that says a list are those of its lines
  pub rows_at : {rs : List Rec} {ls : List (List ℕ)} → FileSays Idf3 rs file → File ls file → RowsOf (under Idf3 (titled rs)) file ls rs (rows_of file)
  rows_at {rs} {ls} s m =
      let w = (accepted_exactly Idf3 file rs).1 s in
      let h : AtWalk begun [] = rows_in_lem (length file) begun [] (omega arith) (omega arith) in
      let p : RowsIn file 0 1 ls rs (rows_of file) = subst (λ (k : List (List ℕ)). RowsIn file 0 1 k rs (rows_of file)) (lines_complete m) (subst (ToldAt 0 1 (lines_of file) (rows_of file)) w.1 h) in
      spelled_rows (subst (SpellsLines (under Idf3 (titled rs)) outside rs) (lines_unique s.made m) s.say.spelled) p
