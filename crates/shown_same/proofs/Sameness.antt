-- Two files are called the same exactly if they say equal lists; and so sameness is an equivalence of the accepted files.
use Prim.Native.Nat.{ℕ, ◌≤◌}
use mathlib.Core.Path.{◌≡◌, refl, sym, ap, ◌∙◌}
use mathlib.Core.Logic.{◌↔◌}
use mathlib.Core.List.{List}
use mathlib.Core.Bool.{Bool, true, false, cond}
use native.Mathlib.Omega.{arith}
use borrow.Author.Tests.{eqb-true}
use lib.Dec.{eqb}
use lib.ListN.{length}
use Rattle.read.proofs.ReplyLaws.{accepted_small}
use Rattle.law.specs.Values.{Rec}
use Rattle.law.specs.declared.Rules.TheVariants.{Idf3}
use Rattle.law.specs.Answers.{limit}
use Rattle.read.specs.Replies.{check_reply}
use Rattle.law.specs.Files.{FileSays}
use Rattle.shown_read.proofs.Checked.{check_count, check_accepts}
use Rattle.same.specs.Ignoring.{nothing}
use Rattle.same.specs.SameLists.{same_files}
use Rattle.same.specs.Verdicts.{refused_as, found_same, same_reply}
use Rattle.law.specs.declared.Verdict.{Verdict}
use Rattle.shown_same.proofs.Values.{same_recs, recs_true, recs_self}
use Rattle.shown_same.proofs.Lists.{files_are}

-- a count of 1 is a test that passed
count_one : (b : Bool) → (found_same b).count ≡ 1 → b ≡ true
count_one true h = refl
count_one false h = absurd (omega arith)

found_number : (b : Bool) → (found_same b).number ≡ 0
found_number true = refl
found_number false = refl

found_line : (b : Bool) → (found_same b).line ≡ 0
found_line true = refl
found_line false = refl

-- files within the limit that say lists
module _ (f h : List ℕ) (a : length f ≤ limit) (b : length h ≤ limit) {rs qs : List Rec} (s : FileSays Idf3 rs f) (t : FileSays Idf3 qs h) where
  same_is : same_reply f h ≡ found_same (same_recs rs qs)
  unfolding same_reply
  same_is = rw (check_count f a s, check_count h b t, files_are f h s t)

  -- they are the same exactly if their lists are equal
  pub same_iff : ((same_reply f h).count ≡ 1) ↔ (rs ≡ qs)
  same_iff = (
    λ e. recs_true rs qs (count_one (same_recs rs qs) (ap (λ (v : Verdict). v.count) (sym same_is) ∙ e)),
    λ e. ap (λ (v : Verdict). v.count) same_is ∙ ap (λ (l : List Rec). (found_same (same_recs l qs)).count) e ∙ ap (λ (x : Bool). (found_same x).count) (recs_self qs),
  )

  -- and neither is refused
  pub same_number : (same_reply f h).number ≡ 0
  same_number = ap (λ (v : Verdict). v.number) same_is ∙ found_number (same_recs rs qs)

  pub same_line : (same_reply f h).line ≡ 0
  same_line = ap (λ (v : Verdict). v.line) same_is ∙ found_line (same_recs rs qs)

-- Sameness: the count is 1

abbrev pub Same : List ℕ → List ℕ → Type 0
Same f h = (same_reply f h).count ≡ 1

-- an accepted file says a list, and is not too large
accepted_says : (f : List ℕ) → (check_reply f).number ≡ 0 → (rs : List Rec) × FileSays Idf3 rs f
accepted_says f e = (check_accepts f (accepted_small f (check_reply f) refl e)).0 e

-- only accepted files are the same as any
module _ (f h : List ℕ) (e : Same f h) where
  accepted_both : ((check_reply f).number ≡ 0) × ((check_reply h).number ≡ 0)
  unfolding same_reply
  accepted_both = go (eqb (check_reply f).number 0) (eqb (check_reply h).number 0) refl refl e
    where
      go : (x y : Bool) → eqb (check_reply f).number 0 ≡ x → eqb (check_reply h).number 0 ≡ y
          → (cond x (cond y (found_same (same_files nothing f h)) (refused_as (check_reply h) 2)) (refused_as (check_reply f) 1)).count ≡ 1
          → ((check_reply f).number ≡ 0) × ((check_reply h).number ≡ 0)
      go true true p q i = (eqb-true (check_reply f).number 0 p, eqb-true (check_reply h).number 0 q)
      go true false p q i = absurd (omega arith)
      go false y p q i = absurd (omega arith)

  pub same_accepted : (check_reply f).number ≡ 0
  same_accepted = accepted_both.0

  pub same_accepts : (check_reply h).number ≡ 0
  same_accepts = accepted_both.1

-- accepted files are the same where the lists that they say are equal, and only there
module _ (f h : List ℕ) (a : (check_reply f).number ≡ 0) (b : (check_reply h).number ≡ 0) where
  same_lists : {rs qs : List Rec} → FileSays Idf3 rs f → FileSays Idf3 qs h → Same f h ↔ (rs ≡ qs)
  same_lists s t = same_iff f h (accepted_small f (check_reply f) refl a) (accepted_small h (check_reply h) refl b) s t

-- sameness is an equivalence of accepted files; for W-213
pub same_reflexive : (f : List ℕ) → (check_reply f).number ≡ 0 → Same f f
same_reflexive f a = let w = accepted_says f a in (same_lists f f a a w.1 w.1).1 refl

pub same_symmetric : (f h : List ℕ) → Same f h → Same h f
same_symmetric f h e =
    let a = same_accepted f h e in
    let b = same_accepts f h e in
    let v = accepted_says f a in
    let w = accepted_says h b in
    (same_lists h f b a w.1 v.1).1 (sym ((same_lists f h a b v.1 w.1).0 e))

pub same_transitive : (f g h : List ℕ) → Same f g → Same g h → Same f h
same_transitive f g h d e =
    let a = same_accepted f g d in
    let b = same_accepts f g d in
    let c = same_accepts g h e in
    let u = accepted_says f a in
    let v = accepted_says g b in
    let w = accepted_says h c in
    (same_lists f h a c u.1 w.1).1 ((same_lists f g a b u.1 v.1).0 d ∙ (same_lists g h b c v.1 w.1).0 e)
