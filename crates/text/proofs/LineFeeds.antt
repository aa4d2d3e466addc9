-- The first byte 10, and the byte before it, tell where the first line ends.
use Prim.Native.Nat.{ℕ, suc, ◌+◌, ◌-◌, ◌≤◌, ◌<◌}
use mathlib.Core.Path.{◌≡◌, refl, sym, ap, subst, ◌∙◌}
use mathlib.Core.Logic.{◌≢◌}
use mathlib.Core.List.{List, [], ◌∷◌, ◌++◌, append-nil}
use mathlib.Core.Bool.{cond, false, false≢true}
use native.Mathlib.Nat.{add-zero}
use native.Mathlib.Omega.{arith}
use borrow.Author.Tests.{eq-eqb, ne_eqb, not-true}
use lib.Dec.{eqb}
use lib.ListN.{length, take, drop, get_or, length-drop, length-append, take-append-drop}
use lib.Seq.{take_all, length-take-le}
use Rattle.basics.proofs.Lists.{at_cons, at_end}
use Rattle.law.specs.Bytes as by
use Rattle.law.specs.Bytes.{in_line, ends_in, All}
use Rattle.law.specs.Lines.{End, by_10, by_13_10}
use Rattle.text.specs.Lines.{end_len, content_len, line_end, line_feed}
use Rattle.text.proofs.LineLaws.{content_le}
use Rattle.text.proofs.LineSpelling.{end_long, content_all, Ended, content_ends}

-- a loop that looks for byte 10: none stands before `i`
pub record Seeking (s : List ℕ) (i : ℕ) : Type 0 where
  pub within : i ≤ length s
  pub left : line_feed s ≡ i + line_feed (drop i s)

pub seek_start : (s : List ℕ) → Seeking s 0
seek_start s = record { within = omega arith; left = omega arith }

module _ {s : List ℕ} {i : ℕ} (k : Seeking s i) where
  feed_here : i < length s → line_feed (drop i s) ≡ cond (eqb (get_or s i 0) 10) 0 (suc (line_feed (drop (i + 1) s)))
  unfolding line_feed
  feed_here h = rw (at_cons s i h)

  pub seek_more : i < length s → (get_or s i 0 ≡ 10 → ⊥) → Seeking s (i + 1)
  seek_more h d = let f = feed_here h in record { within = omega arith; left = omega (arith, k.left, rw (ne_eqb (get_or s i 0) 10 d) at f) }

  pub seek_stop : i < length s → get_or s i 0 ≡ 10 → i ≡ line_feed s
  seek_stop h e = let f = feed_here h in omega (arith, k.left, rw (eq-eqb (get_or s i 0) 10 e) at f)

  pub seek_over : length s ≤ i → i ≡ line_feed s
  unfolding line_feed
  seek_over h = let f = k.left in omega (arith, rw (at_end s i h) at f)

-- byte 10 stands behind a line
feed_in : {l : List ℕ} (u : List ℕ) → All in_line l → line_feed (l ++ u) ≡ length l + line_feed u
unfolding line_feed
feed_in u by.none = omega arith
feed_in u (by.one {b} h a) = rw (not-true (eqb b 10) h) (omega (arith, feed_in u a))

feed_all : {l : List ℕ} → All in_line l → line_feed l ≡ length l
unfolding line_feed
feed_all {l} a = ap line_feed (sym (append-nil l)) ∙ omega (arith, feed_in [] a)

-- the byte behind a line, and its last
behind_line : (l : List ℕ) (c : ℕ) (u : List ℕ) → get_or (l ++ (c ∷ u)) (length l) 0 ≡ c
behind_line [] c u = refl
behind_line (b ∷ l) c u = behind_line l c u

last_byte : (b : ℕ) (l u : List ℕ) → ends_in 13 (b ∷ l) ≡ false → get_or (b ∷ (l ++ u)) (length l) 0 ≢ 13
unfolding ends_in
last_byte b [] u h e = false≢true (sym h ∙ eq-eqb b 13 e)
last_byte b (c ∷ l) u h e = last_byte c l u h e

end_feed : {l e : List ℕ} (t : List ℕ) → All in_line l → End l e → line_feed (l ++ (e ++ t)) + 1 ≡ length l + length e
unfolding line_feed
end_feed t a (by_10 h) = omega (arith, feed_in (10 ∷ t) a)
end_feed t a by_13_10 = omega (arith, feed_in (13 ∷ 10 ∷ t) a)

-- a first line that has its end, where byte 10 stands at i
data Cut (s : List ℕ) (i : ℕ) : Type 0 where
  plain : (0 < i → get_or s (i - 1) 0 ≢ 13) → line_end s ≡ record { content = i; next = i + 1 } → Cut s i
  windows : 0 < i → get_or s (i - 1) 0 ≡ 13 → line_end s ≡ record { content = i - 1; next = i + 1 } → Cut s i

cut_by : (l : List ℕ) {e : List ℕ} (t : List ℕ) → All in_line l → End l e → (i : ℕ) → i ≡ line_feed (l ++ (e ++ t))
    → line_end (l ++ (e ++ t)) ≡ record { content = length l; next = length l + length e } → Cut (l ++ (e ++ t)) i
cut_by [] t a (by_10 h) i f g = let n : i ≡ 0 = omega (arith, f, end_feed t a (by_10 h)) in rw n (plain (λ p. absurd (omega arith)) g)
cut_by (b ∷ l) t a (by_10 h) i f g =
    let n : i ≡ suc (length l) = omega (arith, f, end_feed t a (by_10 h)) in
    let m : suc (length l) - 1 ≡ length l = omega arith in
    rw n (plain (λ p. rw m (last_byte b l (10 ∷ t) h)) g)
cut_by l t a by_13_10 i f g =
    let n : i ≡ length l + 1 = omega (arith, f, end_feed {l = l} t a by_13_10) in
    let m : length l + 1 - 1 ≡ length l = omega arith in
    let o : length l + 2 ≡ length l + 1 + 1 = omega arith in
    rw n (windows (omega arith) (rw m (behind_line l 13 (10 ∷ t))) (rw m (g ∙ ap (λ (k : ℕ). record { content = length l; next = k }) o)))

-- the first line has no end, or it has one
data First (s : List ℕ) : Type 0 where
  over : All in_line s → line_end s ≡ record { content = length s; next = length s } → First s
  ends : (l e t : List ℕ) → s ≡ l ++ (e ++ t) → All in_line l → End l e → line_end s ≡ record { content = length l; next = length l + length e } → First s

first : (s : List ℕ) → First s
unfolding line_end end_len
first s = go (drop (content_len s) s) refl (content_ends s)
  where
    go : (u : List ℕ) → drop (content_len s) s ≡ u → (0 < length u → Ended (take (content_len s) s) u) → First s
    go [] d w =
        let n : content_len s ≡ length s = omega (arith, length-drop (content_len s) s, ap length d, content_le s) in
        over (subst (All in_line) (take_all (content_len s) s (omega arith)) (content_all s)) (rw (d, add-zero (content_len s), n) refl)
    go (c ∷ u) d w =
        let k = w (omega arith) in
        let l = take (content_len s) s in
        let n : length l ≡ content_len s = length-take-le (content_len s) s (content_le s) in
        let f : drop (content_len s) s ≡ k.by ++ k.rest = d ∙ k.is in
        ends l k.by k.rest (sym (take-append-drop (content_len s) s) ∙ ap (λ (r : List ℕ). l ++ r) f) (content_all s) k.ends (rw (f, end_long k.ends k.rest, n) refl)

module _ (s : List ℕ) (i : ℕ) (e : i ≡ line_feed s) where
  cut : i < length s → Cut s i
  cut h = go (first s)
    where
      go : First s → Cut s i
      go (over a f) = absurd (omega (arith, e, h, feed_all a))
      go (ends l d t g a k f) = subst (λ (r : List ℕ). Cut r i) (sym g) (cut_by l t a k i (e ∙ ap line_feed g) (sym (ap line_end g) ∙ f))

  pub line_two : i < length s → (i ≡ 0 → ⊥) → get_or s (i - 1) 0 ≡ 13 → record { content = i - 1; next = i + 1 } ≡ line_end s
  line_two h p q = go (cut h)
    where
      go : Cut s i → record { content = i - 1; next = i + 1 } ≡ line_end s
      go (plain d f) = absurd (d (omega arith) q)
      go (windows a b f) = sym f

  pub line_one : i < length s → (get_or s (i - 1) 0 ≡ 13 → ⊥) → record { content = i; next = i + 1 } ≡ line_end s
  line_one h d = go (cut h)
    where
      go : Cut s i → record { content = i; next = i + 1 } ≡ line_end s
      go (plain a f) = sym f
      go (windows a b f) = absurd (d b)

  pub line_empty : i < length s → i ≡ 0 → record { content = i; next = i + 1 } ≡ line_end s
  line_empty h z = go (cut h)
    where
      go : Cut s i → record { content = i; next = i + 1 } ≡ line_end s
      go (plain a f) = sym f
      go (windows a b f) = absurd (omega arith)

  -- the last line of a file, which has no end
  pub line_over : length s ≤ i → record { content = i; next = i } ≡ line_end s
  line_over h = go (first s)
    where
      go : First s → record { content = i; next = i } ≡ line_end s
      go (over a f) = rw (e ∙ feed_all a) (sym f)
      go (ends l d t g a k f) =
          absurd (omega (arith, h, e ∙ ap line_feed g, end_feed t a k, ap length g, length-append l (d ++ t), length-append d t))
