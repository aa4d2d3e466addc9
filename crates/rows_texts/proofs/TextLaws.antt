-- Laws of texts of files.
use Prim.Native.Nat.{ℕ, ◌-◌, ◌≤◌, min}
use mathlib.Core.Path.{◌≡◌, refl, sym, ap, ◌∙◌}
use mathlib.Core.List.{List}
use mathlib.Core.Bool.{Bool, true, false}
use native.Mathlib.Nat.{min_comm, min-eq_left}
use native.Mathlib.Omega.{arith}
use borrow.Author.Tests.{ltb-true, ltb-false}
use lib.Dec.{ltb}
use lib.IntN.{ℤ, nat_abs}
use lib.ListN.{length, take, drop, length-drop}
use lib.Seq.{take_all}
use Rattle.basics.proofs.Lists.{at_end}
use Rattle.rows_texts.specs.Texts.{text_at}

-- what lies past a list's end is left off
take_least : (q : ℕ) (s : List ℕ) → take (min q (length s)) s ≡ take q s
take_least q s = go (ltb q (length s)) refl
  where
    go : (b : Bool) → ltb q (length s) ≡ b → take (min q (length s)) s ≡ take q s
    go true h = let l = ltb-true q (length s) h in ap (λ (n : ℕ). take n s) (min-eq_left (omega arith))
    go false h = let l = ltb-false q (length s) h in ap (λ (n : ℕ). take n s) (min_comm q (length s) ∙ min-eq_left l) ∙ take_all (length s) s (omega arith) ∙ sym (take_all q s l)

drop_least : (p : ℕ) (s : List ℕ) → drop (min p (length s)) s ≡ drop p s
drop_least p s = go (ltb p (length s)) refl
  where
    go : (b : Bool) → ltb p (length s) ≡ b → drop (min p (length s)) s ≡ drop p s
    go true h = let l = ltb-true p (length s) h in ap (λ (n : ℕ). drop n s) (min-eq_left (omega arith))
    go false h = let l = ltb-false p (length s) h in ap (λ (n : ℕ). drop n s) (min_comm p (length s) ∙ min-eq_left l) ∙ at_end s (length s) (omega arith) ∙ sym (at_end s p l)

-- the part of a file that a start and a length name
pub text_part : (file : List ℕ) (i j : ℤ) (p q a n : ℕ) → p ≡ nat_abs i → q ≡ nat_abs j → a ≡ min p (length file) → n ≡ min q (length (take (length file - a) (drop a file)))
    → take n (take (length file - a) (drop a file)) ≡ text_at file i j
text_part file i j p q a n d e f g =
    let w : take (length file - a) (drop a file) ≡ drop a file = take_all (length file - a) (drop a file) (omega (arith, length-drop a file)) in
    ap (take n) w ∙ ap (λ (k : ℕ). take k (drop a file)) (g ∙ ap (λ (r : List ℕ). min q (length r)) w) ∙ take_least q (drop a file)
    ∙ ap (λ (k : ℕ). take q (drop k file)) f ∙ ap (take q) (drop_least p file) ∙ rw (d, e)
