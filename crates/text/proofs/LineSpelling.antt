-- The lines of a file are the one list of lines that makes it.
use Prim.Native.Nat.{ℕ, zero, suc, ◌+◌, ◌≤◌, ◌<◌}
use mathlib.Core.Path.{◌≡◌, refl, sym, ap, subst, ◌∙◌}
use mathlib.Core.List.{List, [], ◌∷◌, ◌++◌}
use mathlib.Core.Bool.{Bool, true, false, cond, not, ◌&&◌, and-false, false≢true}
use native.Mathlib.Nat.{add-zero}
use native.Mathlib.Omega.{arith}
use borrow.Author.Tests.{eqb-true, not-true}
use lib.Dec.{eqb, ltb}
use lib.ListN.{length, take, drop, length-drop, length-append, take-append-drop}
use lib.Seq.{drop-append_seam, take-append_seam, take_all, drop-drop, length-take-le}
use Rattle.basics.proofs.Lists.{at_end}
use Rattle.law.specs.Bytes as by
use Rattle.law.specs.Bytes.{in_line, begins, ends_in, All}
use Rattle.text.specs.Lines.{end_len, content_len, line_end, lines_of}
use Rattle.law.specs.Lines.{End, by_10, by_13_10, File, none, last, next, end_bytes, place_behind}
use Rattle.text.proofs.LineLaws.{content_le, lines_none, lines_first}

-- bytes of which none is a certain one do not end in it
pub last_not : {p : ℕ → Bool} {l : List ℕ} (a : ℕ) → ((b : ℕ) → p b ≡ true → eqb b a ≡ false) → All p l → ends_in a l ≡ false
unfolding ends_in
last_not a f by.none = refl
last_not a f (by.one {b = b} h by.none) = f b h
last_not a f (by.one h (by.one i r)) = last_not a f (by.one i r)

-- a line's end is some bytes, and ends a line without its first byte too
pub end_some : {l e : List ℕ} → End l e → 0 < length e
end_some (by_10 h) = omega arith
end_some by_13_10 = omega arith

fewer : {b : ℕ} {l e : List ℕ} → End (b ∷ l) e → End l e
unfolding ends_in
fewer {l = []} (by_10 h) = by_10 refl
fewer {l = c ∷ l} (by_10 h) = by_10 h
fewer by_13_10 = by_13_10

-- how long it is
pub end_long : {l e : List ℕ} → End l e → (s : List ℕ) → end_len (e ++ s) ≡ length e
unfolding end_len begins
end_long (by_10 h) s = refl
end_long by_13_10 s = refl

pub end_bytes_lem : {l e : List ℕ} → End l e → (s : List ℕ) → end_bytes (e ++ s) ≡ length e
unfolding end_bytes
end_bytes_lem (by_10 h) s = refl
end_bytes_lem by_13_10 s = refl

-- no line ends at a byte of a line, unless it is 13 before 10
pub no_end : (b : ℕ) (s : List ℕ) → in_line b ≡ true → (eqb b 13 && begins 10 s) ≡ false → end_len (b ∷ s) ≡ 0
unfolding end_len
no_end b s h e = rw (not-true (eqb b 10) h, e)

-- a line's content holds no byte that ends a line
passed : (b : ℕ) (s : List ℕ) → ltb 0 (end_len (b ∷ s)) ≡ false → in_line b ≡ true
unfolding end_len
passed b s h = go (eqb b 10) h
  where
    go : (t : Bool) → ltb 0 (cond t 1 (cond (eqb b 13 && begins 10 s) 2 0)) ≡ false → not t ≡ true
    go true h = sym h
    go false h = refl

pub content_all : (s : List ℕ) → All in_line (take (content_len s) s)
unfolding content_len
content_all [] = by.none
content_all (b ∷ s) = go (ltb 0 (end_len (b ∷ s))) refl (content_all s)
  where
    go : (t : Bool) → ltb 0 (end_len (b ∷ s)) ≡ t → All in_line (take (content_len s) s) → All in_line (take (cond t 0 (suc (content_len s))) (b ∷ s))
    go true h a = by.none
    go false h a = by.one (passed b s h) a

-- what ends the line l, and what stands behind its end, where u stands behind l
pub record Ended (l u : List ℕ) : Type 0 where
  pub by : List ℕ
  pub rest : List ℕ
  pub ends : End l by
  pub is : u ≡ by ++ rest

ends_here : (b : ℕ) (s : List ℕ) → ltb 0 (end_len (b ∷ s)) ≡ true → Ended [] (b ∷ s)
unfolding end_len begins ends_in
ends_here b s h = go (eqb b 10) refl (eqb b 13) refl s h
  where
    go : (t : Bool) → eqb b 10 ≡ t → (q : Bool) → eqb b 13 ≡ q → (u : List ℕ) → ltb 0 (cond t 1 (cond (q && begins 10 u) 2 0)) ≡ true → Ended [] (b ∷ u)
    go true e q f u h = record { by = 10 ∷ []; rest = u; ends = by_10 refl; is = rw (eqb-true b 10 e) }
    go false e false f u h = absurd (false≢true h)
    go false e true f [] h = absurd (false≢true h)
    go false e true f (c ∷ u) h = feed (eqb c 10) refl h
      where
        feed : (r : Bool) → eqb c 10 ≡ r → ltb 0 (cond r 2 0) ≡ true → Ended [] (b ∷ c ∷ u)
        feed true g h = record { by = 13 ∷ 10 ∷ []; rest = u; ends = by_13_10; is = rw (eqb-true b 13 f, eqb-true c 10 g) }
        feed false g h = absurd (false≢true h)

-- what ends a line ends it with a byte before it at which no line ends
further : {l e : List ℕ} (b : ℕ) (u : List ℕ) → ltb 0 (end_len (b ∷ (l ++ (e ++ u)))) ≡ false → End l e → End (b ∷ l) e
unfolding end_len begins ends_in
further {l = []} b u h (by_10 k) = go (eqb b 10) (eqb b 13) refl h
  where
    go : (t q : Bool) → eqb b 13 ≡ q → ltb 0 (cond t 1 (cond (q && true) 2 0)) ≡ false → End (b ∷ []) (10 ∷ [])
    go true q f h = absurd (false≢true (sym h))
    go false true f h = absurd (false≢true (sym h))
    go false false f h = by_10 f
further {l = c ∷ l} b u h (by_10 k) = by_10 k
further b u h by_13_10 = by_13_10

-- what stands behind a line's content, if anything does, ends it
pub content_ends : (s : List ℕ) → 0 < length (drop (content_len s) s) → Ended (take (content_len s) s) (drop (content_len s) s)
unfolding content_len
content_ends [] h = absurd (omega arith)
content_ends (b ∷ s) h = go (ltb 0 (end_len (b ∷ s))) refl h (content_ends s)
  where
    up_to : Bool → ℕ
    up_to q = cond q 0 (suc (content_len s))

    go : (q : Bool) → ltb 0 (end_len (b ∷ s)) ≡ q → 0 < length (drop (up_to q) (b ∷ s)) → (0 < length (drop (content_len s) s) → Ended (take (content_len s) s) (drop (content_len s) s))
        → Ended (take (up_to q) (b ∷ s)) (drop (up_to q) (b ∷ s))
    go true e h ih = ends_here b s e
    go false e h ih =
        let w = ih h in
        let f : s ≡ take (content_len s) s ++ (w.by ++ w.rest) = sym (take-append-drop (content_len s) s) ∙ ap (λ (u : List ℕ). take (content_len s) s ++ u) w.is in
        let g : ltb 0 (end_len (b ∷ (take (content_len s) s ++ (w.by ++ w.rest)))) ≡ false = ap (λ (u : List ℕ). ltb 0 (end_len (b ∷ u))) (sym f) ∙ e in
        record { by = w.by; rest = w.rest; ends = further b w.rest g w.ends; is = w.is }

-- no line ends inside of a line
inside_10 : {l : List ℕ} → All in_line l → begins 10 l ≡ false
unfolding begins
inside_10 by.none = refl
inside_10 (by.one {b} h a) = not-true (eqb b 10) h

inside_13 : {b : ℕ} {l e : List ℕ} (s : List ℕ) → All in_line l → End (b ∷ l) e → (eqb b 13 && begins 10 (l ++ (e ++ s))) ≡ false
unfolding begins ends_in
inside_13 s by.none (by_10 h) = rw h
inside_13 {b} s by.none by_13_10 = and-false (eqb b 13)
inside_13 {b} s (by.one {b = c} h a) k = rw (not-true (eqb c 10) h) (and-false (eqb b 13))

-- the content of a line that is made
content_last : {l : List ℕ} → All in_line l → content_len l ≡ length l
unfolding content_len
content_last by.none = refl
content_last (by.one {b} {s} h a) = rw (no_end b s h (rw (inside_10 a) (and-false (eqb b 13)))) (ap suc (content_last a))

content_next : {l e : List ℕ} (s : List ℕ) → All in_line l → End l e → content_len (l ++ (e ++ s)) ≡ length l
unfolding content_len end_len begins
content_next s by.none (by_10 h) = refl
content_next s by.none by_13_10 = refl
content_next {e = e} s (by.one {b = b} {s = l} h a) k = rw (no_end b (l ++ (e ++ s)) h (inside_13 s a k)) (ap suc (content_next s a (fewer k)))

-- the first line of a file, by what stands behind its content
lines_over : (s : List ℕ) → 0 < length s → drop (content_len s) s ≡ [] → lines_of s ≡ s ∷ []
unfolding line_end end_len
lines_over s h e =
    let n : length s ≤ content_len s = omega (arith, length-drop (content_len s) s, ap length e) in
    lines_first s h ∙ rw (e, take_all (content_len s) s n, add-zero (content_len s), e, lines_none)

lines_cut : {l : List ℕ} (s e t : List ℕ) → End l e → drop (content_len s) s ≡ e ++ t → lines_of s ≡ take (content_len s) s ∷ lines_of t
unfolding line_end
lines_cut s e t k f =
    let h : 0 < length s = omega (arith, length-drop (content_len s) s, ap length f, length-append e t, end_some k) in
    let d : drop (content_len s + length e) s ≡ t = sym (drop-drop (length e) (content_len s) s) ∙ rw f (drop-append_seam e t) in
    lines_first s h ∙ rw (f, end_long k t, d)

-- Sound: a file's lines make it
makes : (n : ℕ) (s : List ℕ) → length s ≤ n → File (lines_of s) s
makes zero [] h = rw lines_none none
makes zero (b ∷ s) h = absurd (omega arith)
makes (suc n) [] h = rw lines_none none
makes (suc n) (b ∷ s) h = go (drop (content_len (b ∷ s)) (b ∷ s)) refl (content_ends (b ∷ s)) (λ t k. makes n t k)
  where
    go : (u : List ℕ) → drop (content_len (b ∷ s)) (b ∷ s) ≡ u → (0 < length u → Ended (take (content_len (b ∷ s)) (b ∷ s)) u)
        → ((t : List ℕ) → length t ≤ n → File (lines_of t) t) → File (lines_of (b ∷ s)) (b ∷ s)
    go [] e w ih =
        let m : length (b ∷ s) ≤ content_len (b ∷ s) = omega (arith, length-drop (content_len (b ∷ s)) (b ∷ s), ap length e) in
        let a : All in_line (b ∷ s) = subst (All in_line) (take_all (content_len (b ∷ s)) (b ∷ s) m) (content_all (b ∷ s)) in
        rw (lines_over (b ∷ s) (omega arith) e) (last a)
    go (c ∷ u) e w ih =
        let k = w (omega arith) in
        let t = k.rest in
        let f : drop (content_len (b ∷ s)) (b ∷ s) ≡ k.by ++ t = e ∙ k.is in
        let g : take (content_len (b ∷ s)) (b ∷ s) ++ (k.by ++ t) ≡ b ∷ s = ap (λ (r : List ℕ). take (content_len (b ∷ s)) (b ∷ s) ++ r) (sym f) ∙ take-append-drop (content_len (b ∷ s)) (b ∷ s) in
        let m : length t ≤ n = omega (arith, length-drop (content_len (b ∷ s)) (b ∷ s), ap length f, length-append k.by t, end_some k.ends) in
        rw (lines_cut (b ∷ s) k.by t k.ends f) (subst (File (take (content_len (b ∷ s)) (b ∷ s) ∷ lines_of t)) g (next (content_all (b ∷ s)) k.ends (ih t m)))

pub lines_sound : (s : List ℕ) → File (lines_of s) s
lines_sound s = makes (length s) s (omega arith)

-- Complete: whatever lines make a file are its lines
pub lines_complete : {ls : List (List ℕ)} {s : List ℕ} → File ls s → lines_of s ≡ ls
lines_complete none = lines_none
lines_complete (last {b} {l} a) = lines_over (b ∷ l) (omega arith) (at_end (b ∷ l) (content_len (b ∷ l)) (omega (arith, content_last a)))
lines_complete (next {l} {e} {ls} {s} a k r) =
    let n = content_next s a k in
    let f : drop (content_len (l ++ (e ++ s))) (l ++ (e ++ s)) ≡ e ++ s = rw n (drop-append_seam l (e ++ s)) in
    lines_cut (l ++ (e ++ s)) e s k f ∙ rw (n, take-append_seam l (e ++ s), lines_complete r)

-- So one list of lines makes a file
pub lines_unique : {ls ms : List (List ℕ)} {s : List ℕ} → File ls s → File ms s → ls ≡ ms
lines_unique p q = sym (lines_complete p) ∙ lines_complete q

-- The next line begins behind the end of the first, or at the end of the file

behind_content : (s : List ℕ) → end_len (drop (content_len s) s) ≡ end_bytes (drop (content_len s) s)
unfolding end_len end_bytes
behind_content s = go (drop (content_len s) s) (content_ends s)
  where
    go : (u : List ℕ) → (0 < length u → Ended (take (content_len s) s) u) → end_len u ≡ end_bytes u
    go [] w = refl
    go (c ∷ u) w = let k = w (omega arith) in subst (λ (x : List ℕ). end_len x ≡ end_bytes x) (sym k.is) (end_long k.ends k.rest ∙ sym (end_bytes_lem k.ends k.rest))

pub place_behind_lem : (file : List ℕ) (at : ℕ) → at + (line_end (drop at file)).next ≡ place_behind file at (take (line_end (drop at file)).content (drop at file))
unfolding line_end
place_behind_lem file at =
    let s = drop at file in
    let n : length (take (content_len s) s) ≡ content_len s = length-take-le (content_len s) s (content_le s) in
    let d : drop (at + content_len s) file ≡ drop (content_len s) s = sym (drop-drop (content_len s) at file) in
    rw (n, d) (omega (arith, behind_content s))
