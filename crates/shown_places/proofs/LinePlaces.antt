-- The file from a line on, and the row of a line by its place among the lines.
use Prim.Native.Nat.{ℕ, ◌+◌}
use mathlib.Core.Path.{◌≡◌, refl, sym, ap, ◌∙◌}
use mathlib.Core.List.{List, [], ◌∷◌, ◌++◌, append_assoc}
use native.Mathlib.Nat.{add-zero}
use native.Mathlib.Omega.{arith}
use lib.Seq.{drop-append_seam, drop-drop}
use lib.IntN.{ℤ, pos}
use lib.ListN.{length, drop, length-append, length-drop}
use Rattle.basics.proofs.Lists.{at_end}
use Rattle.law.specs.Lines.{End, File, Free, none, last, next, end_bytes, place_behind}
use Rattle.text.proofs.LineSpelling.{end_bytes_lem, end_some}
use Rattle.law.specs.Values.{Rec}
use Rattle.law.specs.declared.Context.{Context}
use Rattle.law.specs.Rows.{with_line}
use Rattle.read.proofs.RowWidths.{lined_wide}
use Rattle.law.specs.RowPlaces.{RowsAt, free, line, start_after, LineRow}
use Rattle.shown_places.proofs.ReaderPlaces.{none_long}

-- behind a line stand the lines that follow it, or nothing
pub record Behind (file : List ℕ) (at : ℕ) (l : List ℕ) (more : List (List ℕ)) : Type 0 where
  pub rest : File more (drop (place_behind file at l) file)
  pub out : more ≡ [] → place_behind file at l ≡ length file

-- how far behind its first byte
pub end_place : (file : List ℕ) (at : ℕ) {l e : List ℕ} (t : List ℕ) → End l e → drop at file ≡ l ++ (e ++ t) → place_behind file at l ≡ at + length l + length e
end_place file at {l} {e} t k h =
    let d : drop (at + length l) file ≡ e ++ t = sym (drop-drop (length l) at file) ∙ ap (drop (length l)) h ∙ drop-append_seam l (e ++ t) in
    rw d (ap (λ (i : ℕ). at + length l + i) (end_bytes_lem k t))

pub behind : (file : List ℕ) (at : ℕ) {l s : List ℕ} {more : List (List ℕ)} → drop at file ≡ s → File (l ∷ more) s → Behind file at l more
unfolding end_bytes
behind file at h (last {b = b} {l = l} a) =
    let n : length file ≡ at + length (b ∷ l) = omega (arith, ap length h, length-drop at file) in
    let d : drop (at + length (b ∷ l)) file ≡ [] = at_end file (at + length (b ∷ l)) (omega (arith, n)) in
    let p : place_behind file at (b ∷ l) ≡ at + length (b ∷ l) = rw d (add-zero _) in
    record { rest = rw (p, d) none; out = λ c. p ∙ sym n }
behind file at h (next {l = l} {e = e} {s = t} a k f) =
    let n : length file ≡ at + (length l + (length e + length t)) = omega (arith, ap length h, length-drop at file, length-append l (e ++ t), length-append e t, end_some k) in
    let p : place_behind file at l ≡ at + length l + length e = end_place file at t k h in
    let d : drop (at + length l) file ≡ e ++ t = sym (drop-drop (length l) at file) ∙ ap (drop (length l)) h ∙ drop-append_seam l (e ++ t) in
    let q : drop (at + length l + length e) file ≡ t = sym (drop-drop (length e) (at + length l) file) ∙ ap (drop (length e)) d ∙ drop-append_seam e t in
    record { rest = rw (p, q) f; out = λ c. omega (arith, p, n, none_long c f) }

pub start_more : (file : List ℕ) (b : ℕ) (us : List (List ℕ)) (l : List ℕ) → start_after file b (us ++ (l ∷ [])) ≡ place_behind file (start_after file b us) l
unfolding start_after
start_more file b [] l = refl
start_more file b (u ∷ us) l = start_more file (place_behind file b u) us l

-- from the first byte of a line on, the file is made of it and the lines behind it
pub rest_made : (us : List (List ℕ)) (l : List ℕ) (ms : List (List ℕ)) (file : List ℕ) (b : ℕ) → File (us ++ (l ∷ ms)) (drop b file)
    → File (l ∷ ms) (drop (start_after file b us) file)
unfolding start_after
rest_made [] l ms file b f = f
rest_made (u ∷ us) l ms file b f = rest_made us l ms file (place_behind file b u) (behind file b refl f).rest

-- the row of a line, where the first line begins at b and is line n
pub line_row : (us : List (List ℕ)) (l : List ℕ) (ms : List (List ℕ)) {c : Context} {file : List ℕ} {b n : ℕ} {rs : List Rec} {xs : List ℤ} → (Free l → ⊥)
    → RowsAt c file b n (us ++ (l ∷ ms)) rs xs → LineRow c (start_after file b us) (n + length us) l rs xs
unfolding start_after
line_row [] l ms h (free f p) = absurd (h f)
line_row [] l ms h (line {n = n} {r = r} {rs = rs} {x = x} {xs = xs} f q p) = record {
  before = [];
  its = r;
  after = rs;
  above = [];
  row = x;
  below = xs;
  records = refl;
  rows = rw (add-zero n);
  as_many = refl;
  spells = f;
  is = q;
}
line_row (u ∷ us) l ms h (free {n = n} f p) = let e : n + 1 + length us ≡ n + length (u ∷ us) = omega arith in rw e at (line_row us l ms h p)
line_row (u ∷ us) l ms h (line {n = n} {r = q} {x = y} f o p) =
    let e : n + 1 + length us ≡ n + length (u ∷ us) = omega arith in
    let w = rw e at (line_row us l ms h p) in
    let v = with_line y (pos n) in
    record {
      before = q ∷ w.before;
      its = w.its;
      after = w.after;
      above = v ++ w.above;
      row = w.row;
      below = w.below;
      records = ap (λ (k : List Rec). q ∷ k) w.records;
      rows = ap (λ (k : List ℤ). v ++ k) w.rows ∙ sym (append_assoc v w.above (with_line w.row (pos (n + length (u ∷ us))) ++ w.below));
      as_many = omega (arith, w.as_many, length-append v w.above, lined_wide y (pos n) o.ten);
      spells = w.spells;
      is = w.is;
    }
