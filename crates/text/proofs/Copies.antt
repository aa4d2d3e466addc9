-- A file and its Windows copy are made of the same lines.
use Prim.Native.Nat.{ℕ, suc, ◌≤◌}
use mathlib.Core.Path.{◌≡◌, refl, sym, ap, subst, ◌∙◌}
use mathlib.Core.List.{List, [], ◌∷◌, ◌++◌, append-nil}
use mathlib.Core.Bool.{Bool, true, false, cond, not, ◌&&◌}
use native.Mathlib.Omega.{arith}
use borrow.Author.Tests.{not-true}
use lib.Dec.{eqb}
use lib.ListN.{length}
use Rattle.law.specs.Bytes as by
use Rattle.law.specs.Bytes.{in_line, ends_in, All}
use Rattle.law.specs.Lines.{End, by_10, by_13_10, File, none, last, next, copied, windows}

-- whether 13 is the last byte of what was copied, behind a line
after : Bool → List ℕ → Bool
after q [] = q
after q (b ∷ l) = after (eqb b 13) l

after_ends : (l : List ℕ) → after false l ≡ ends_in 13 l
unfolding after ends_in
after_ends [] = refl
after_ends (b ∷ []) = refl
after_ends (b ∷ c ∷ l) = after_ends (c ∷ l)

-- a line is copied as it is
line_copied : {l : List ℕ} (q : Bool) (s : List ℕ) → All in_line l → copied q (l ++ s) ≡ l ++ copied (after q l) s
unfolding after copied
line_copied q s by.none = refl
line_copied q s (by.one {b} h a) = rw (not-true (eqb b 10) h) (ap (λ (u : List ℕ). b ∷ u) (line_copied (eqb b 13) s a))

last_copied : {l : List ℕ} (q : Bool) → All in_line l → copied q l ≡ l
unfolding copied
last_copied {l} q a = ap (copied q) (sym (append-nil l)) ∙ line_copied q [] a ∙ append-nil l

-- and its end becomes 13 and 10
end_copied : {l e : List ℕ} (q : Bool) (s : List ℕ) → q ≡ ends_in 13 l → End l e → copied q (e ++ s) ≡ 13 ∷ 10 ∷ windows s
unfolding copied
end_copied q s f (by_10 h) = rw (f ∙ h)
end_copied q s f by_13_10 = refl

pub file_copied : {ls : List (List ℕ)} {s : List ℕ} → File ls s → File ls (windows s)
unfolding copied
file_copied none = none
file_copied (last {b} {l} a) = subst (File ((b ∷ l) ∷ [])) (sym (last_copied false a)) (last a)
file_copied (next {l} {e} {ls} {s} a k f) =
    let c : windows (l ++ (e ++ s)) ≡ l ++ (13 ∷ 10 ∷ windows s) = line_copied false (e ++ s) a ∙ ap (λ (u : List ℕ). l ++ u) (end_copied (after false l) s (after_ends l) k) in
    subst (File (l ∷ ls)) (sym c) (next a by_13_10 (file_copied f))

-- it is no shorter
pub copy_longer : (q : Bool) (s : List ℕ) → length s ≤ length (copied q s)
unfolding copied
copy_longer q [] = omega arith
copy_longer q (b ∷ s) = go (eqb b 10 && not q) (copy_longer (eqb b 13) s)
  where
    go : (t : Bool) → length s ≤ length (copied (eqb b 13) s) → suc (length s) ≤ length (cond t (13 ∷ []) [] ++ (b ∷ copied (eqb b 13) s))
    go true h = omega (arith, h)
    go false h = omega (arith, h)
