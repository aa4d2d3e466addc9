-- Laws of a line's end, of a file's lines and of a line's look. Only the first speaks of what `end_len` says.
use Prim.Native.Nat.{ℕ, zero, suc, ◌+◌, ◌≤◌, ◌<◌}
use mathlib.Core.Path.{◌≡◌, refl, ap}
use mathlib.Core.List.{List, [], ◌∷◌}
use mathlib.Core.Bool.{Bool, true, false, cond, ◌&&◌}
use native.Mathlib.Nat.{not-suc-le-zero}
use native.Mathlib.Omega.{arith}
use borrow.Author.Tests.{ltb-true}
use lib.Dec.{eqb, ltb}
use lib.ListN.{length, take, drop, length-drop}
use Rattle.law.specs.Bytes.{begins}
use Rattle.text.specs.Lines.{end_len, content_len, line_end, lines_in, lines_of}
use Rattle.text.specs.declared.LineEnd.{LineEnd}

-- a line's end is no longer than what is left
pub end_le : (s : List ℕ) → end_len s ≤ length s
unfolding end_len begins
end_le [] = omega arith
end_le (b ∷ s) = go (eqb b 10) (eqb b 13) s
  where
    go : (t q : Bool) (u : List ℕ) → cond t 1 (cond (q && begins 10 u) 2 0) ≤ suc (length u)
    go true q u = omega arith
    go false false u = omega arith
    go false true [] = omega arith
    go false true (c ∷ u) = at_most (eqb c 10)
      where
        at_most : (t : Bool) → cond t 2 0 ≤ suc (suc (length u))
        at_most true = omega arith
        at_most false = omega arith

-- a line's content lies in the part, and the next line begins behind it
pub content_le : (s : List ℕ) → content_len s ≤ length s
unfolding content_len
content_le [] = omega arith
content_le (b ∷ s) = go (ltb 0 (end_len (b ∷ s))) (content_le s)
  where
    go : (t : Bool) → content_len s ≤ length s → cond t 0 (suc (content_len s)) ≤ suc (length s)
    go true h = omega arith
    go false h = omega arith

pub record Inside (s : List ℕ) (r : LineEnd) : Type 0 where
  pub inside : r.content ≤ r.next
  pub within : r.next ≤ length s
  pub past : 0 < length s → 0 < r.next

content_zero : (s : List ℕ) → 0 < length s → content_len s ≡ 0 → 0 < end_len (drop (content_len s) s)
unfolding content_len
content_zero [] h e = absurd (not-suc-le-zero h)
content_zero (b ∷ s) h e = go (ltb 0 (end_len (b ∷ s))) refl e
  where
    go : (t : Bool) → ltb 0 (end_len (b ∷ s)) ≡ t → cond t 0 (suc (content_len s)) ≡ 0 → 0 < end_len (drop (cond t 0 (suc (content_len s))) (b ∷ s))
    go true f e = ltb-true 0 _ f
    go false f e = absurd (omega arith)

pub line_inside : (s : List ℕ) → Inside s (line_end s)
unfolding line_end
line_inside s =
    record {
      inside = omega arith;
      within = omega (arith, end_le (drop (content_len s) s), length-drop (content_len s) s, content_le s);
      past = λ h. go (content_len s) refl h;
    }
  where
    go : (n : ℕ) → content_len s ≡ n → 0 < length s → 0 < n + end_len (drop n s)
    go zero e h = let f = content_zero s h e in let g : 0 < end_len (drop 0 s) = rw e at f in omega arith
    go (suc n) e h = omega arith

-- the same of an answer of `line_end`
module _ (s : List ℕ) (r : LineEnd) (e : r ≡ line_end s) where
  here : Inside s r
  here = rw e (line_inside s)

  pub end_within : r.next ≤ length s
  end_within = here.within

-- fuel of at least a file's length gives all its lines
enough : (f g : ℕ) (s : List ℕ) → length s ≤ f → length s ≤ g → lines_in f s ≡ lines_in g s
unfolding lines_in
enough zero zero s h k = refl
enough zero (suc g) [] h k = refl
enough zero (suc g) (b ∷ s) h k = absurd (omega arith)
enough (suc f) zero [] h k = refl
enough (suc f) zero (b ∷ s) h k = absurd (omega arith)
enough (suc f) (suc g) [] h k = refl
enough (suc f) (suc g) (b ∷ s) h k =
    let i = line_inside (b ∷ s) in
    let p = i.past (omega arith) in
    let d = length-drop (line_end (b ∷ s)).next (b ∷ s) in
    ap (λ (ls : List (List ℕ)). take (line_end (b ∷ s)).content (b ∷ s) ∷ ls)
    (enough f g (drop (line_end (b ∷ s)).next (b ∷ s)) (omega arith) (omega arith))

pub lines_none : lines_of [] ≡ []
unfolding lines_of lines_in
lines_none = refl

-- the first line, and the lines after it
pub lines_first : (s : List ℕ) → 0 < length s → lines_of s ≡ take (line_end s).content s ∷ lines_of (drop (line_end s).next s)
unfolding lines_of lines_in
lines_first [] h = absurd (not-suc-le-zero h)
lines_first (b ∷ s) h =
    let i = line_inside (b ∷ s) in
    let p = i.past h in
    let d = length-drop (line_end (b ∷ s)).next (b ∷ s) in
    ap (λ (ls : List (List ℕ)). take (line_end (b ∷ s)).content (b ∷ s) ∷ ls)
    (enough (length s) (length (drop (line_end (b ∷ s)).next (b ∷ s))) (drop (line_end (b ∷ s)).next (b ∷ s)) (omega arith) (omega arith))
