-- A reader that was opened and called stands behind the lines that it handed out, and has the number of the next.
use Prim.Native.Nat.{ℕ, suc, ◌+◌, ◌≤◌}
use mathlib.Core.Path.{◌≡◌, refl, sym, ap, ◌∙◌}
use mathlib.Core.List.{List, [], ◌∷◌, ◌++◌, append_assoc}
use mathlib.Core.Bool.{true, false≢true}
use native.Mathlib.Omega.{arith}
use borrow.Author.Tests.{lt-ltb}
use lib.ListN.{length, drop, length-append}
use Rattle.law.specs.Lines.{File, none, last, next, place_behind}
use Rattle.law.specs.Answers.{limit}
use Rattle.text.proofs.LineSpelling.{end_some, lines_unique}
use Rattle.viewer.specs.Views.{moves_on}
use Rattle.law.specs.RowPlaces.{start_after}
use Rattle.law.specs.Viewing.{number_behind, too_large, no_line, not_permitted, no_fields, too_short, whole, MovesOn, after_0, after_3, after_4, Called, opened, moved, stayed}
use Rattle.shown_places.proofs.ReaderPlaces.{none_long}
use Rattle.shown_places.proofs.LinePlaces.{behind, start_more}

-- no more lines than bytes
lines_fewer : {ls : List (List ℕ)} {s : List ℕ} → File ls s → length ls ≤ length s
lines_fewer none = omega arith
lines_fewer (last a) = omega arith
lines_fewer (next {l = l} {e = e} {s = s} a k f) = omega (arith, lines_fewer f, length-append l (e ++ s), length-append e s, end_some k)

moves_true : {k : ℕ} → MovesOn k → moves_on k ≡ true
moves_true after_0 = refl
moves_true after_3 = refl
moves_true after_4 = refl

module _ {file : List ℕ} {ls : List (List ℕ)} (made : File ls file) where
  -- k of the lines were handed out, and these are left
  record Stands (k at n : ℕ) : Type 0 where
    us : List (List ℕ)
    more : List (List ℕ)
    are : ls ≡ us ++ more
    many : length us ≡ k
    rest : File more (drop at file)
    place : at ≡ start_after file 0 us
    out : more ≡ [] → at ≡ length file
    number : n ≡ k + 1

  stands_first : Stands 0 0 1
  unfolding start_after
  stands_first = record { us = []; more = ls; are = refl; many = refl; rest = made; place = refl; out = λ e. sym (none_long e made); number = refl }

  stands_next : {k at n : ℕ} {line : List ℕ} {more : List (List ℕ)} → Stands k at n → length file ≤ limit → File (line ∷ more) (drop at file)
      → Stands (suc k) (place_behind file at line) (number_behind n)
  stands_next {k} {at} {n} {line} {more} s h f =
      let e : s.more ≡ line ∷ more = lines_unique s.rest f in
      let b = behind file at refl f in
      let a : ls ≡ s.us ++ (line ∷ more) = s.are ∙ ap (λ (x : List (List ℕ)). s.us ++ x) e in
      let c : length ls ≡ k + suc (length more) = omega (arith, ap length a, length-append s.us (line ∷ more), s.many) in
      let q = lt-ltb n 18_446_744_073_709_551_615 (omega (arith, c, s.number, lines_fewer made, h)) in
      record {
        us = s.us ++ (line ∷ []);
        more = more;
        are = a ∙ sym (append_assoc s.us (line ∷ []) more);
        many = omega (arith, length-append s.us (line ∷ []), s.many);
        rest = b.rest;
        place = ap (λ (i : ℕ). place_behind file i line) s.place ∙ sym (start_more file 0 s.us line);
        out = b.out;
        number = rw q (omega (arith, s.number));
      }

  stands : {k at n : ℕ} → Called file k at n → Stands k at n
  stands opened = stands_first
  stands (moved c (too_large h) q) = absurd (false≢true (moves_true q))
  stands (moved c (no_line h f) q) = absurd (false≢true (moves_true q))
  stands (moved c (not_permitted h f b p) q) = stands_next (stands c) h f
  stands (moved c (no_fields h f b a p) q) = stands_next (stands c) h f
  stands (moved c (too_short h f p i) q) = absurd (false≢true (moves_true q))
  stands (moved c (whole h f p i) q) = stands_next (stands c) h f
  stands (stayed c (too_large h) q) = stands c
  stands (stayed c (no_line h f) q) = stands c
  stands (stayed c (not_permitted h f b p) q) = absurd (q after_3)
  stands (stayed c (no_fields h f b a p) q) = absurd (q after_4)
  stands (stayed c (too_short h f p i) q) = stands c
  stands (stayed c (whole h f p i) q) = absurd (q after_0)

-- two fronts of one length of a list are the same
fronts_one : (us vs xs ys : List (List ℕ)) → length us ≡ length vs → us ++ xs ≡ vs ++ ys → (us ≡ vs) × (xs ≡ ys)
fronts_one [] [] xs ys h e = (refl, e)
fronts_one [] (v ∷ vs) xs ys h e = absurd (omega arith)
fronts_one (u ∷ us) [] xs ys h e = absurd (omega arith)
fronts_one (u ∷ us) (v ∷ vs) xs ys h e =
    let w = fronts_one us vs xs ys (omega arith) (cc) in
    let i : u ≡ v = cc in
    let j = w.0 in
    ((cc), w.1)

-- a reader that handed out the lines us stands at the first byte of the next
pub called_at : {file : List ℕ} {at n : ℕ} (us : List (List ℕ)) (line : List ℕ) (more : List (List ℕ)) → File (us ++ (line ∷ more)) file → Called file (length us) at n
    → (at ≡ start_after file 0 us) × (n ≡ length us + 1)
called_at {file} us line more m c =
    let s = stands m c in
    let w = fronts_one us s.us (line ∷ more) s.more (sym s.many) s.are in
    (s.place ∙ ap (start_after file 0) (sym w.0), s.number)

-- one that handed out all lines, at the end of the file
pub called_out : {file : List ℕ} {at n : ℕ} {ls : List (List ℕ)} → File ls file → Called file (length ls) at n → (at ≡ length file) × (n ≡ length ls + 1)
called_out {ls = ls} m c =
    let s = stands m c in
    (go s.more (omega (arith, ap length s.are, length-append s.us s.more, s.many)) s.out, s.number)
  where
    go : (ms : List (List ℕ)) {a k : ℕ} → length ms ≡ 0 → (ms ≡ [] → a ≡ k) → a ≡ k
    go [] h f = f refl
    go (l ∷ ms) h f = absurd (omega arith)

-- it hands out no more lines than there are
pub called_most : {file : List ℕ} {k at n : ℕ} {ls : List (List ℕ)} → File ls file → Called file k at n → k ≤ length ls
called_most m c = let s = stands m c in omega (arith, ap length s.are, length-append s.us s.more, s.many)
