-- The function on lists gives the verdict of the rules, and they give no other.
use Prim.Native.Nat.{ℕ, suc, ◌+◌}
use mathlib.Core.Path.{◌≡◌, refl, sym, ap, ◌∙◌, subst}
use mathlib.Core.Logic.{◌≢◌}
use mathlib.Core.List.{List, [], ◌∷◌, ◌++◌}
use mathlib.Core.Bool.{Bool, true, false, cond, not, ◌&&◌, ◌||◌, true≢false, false≢true, or-true}
use native.Mathlib.Omega.{arith}
use borrow.Author.Tests.{eqb-true, eq-eqb}
use lib.Dec.{eqb}
use lib.ListN.{length}
use Rattle.shown_lists.proofs.Names.{name_true, name_same}
use Rattle.law.specs.Kinds.{electrical_kind, mechanical_kind}
use Rattle.basics.proofs.Bytes.{bytes_true, bytes_same, bytes_differ, bytes_false}
use Rattle.basics.proofs.Bools.{both, not_both}
use Rattle.law.specs.Values.{Rec}
use Rattle.law.specs.Words.{board_word, no_reference, same_bytes}
use Rattle.law.specs.declared.FileType.{FileType}
use Rattle.law.specs.declared.FileType.TheVariants.{Board, Panel, Library}
use Rattle.law.specs.Records.{is_library, Named, name_in}
use Rattle.order.specs.Automaton.{same_name}
use Rattle.law.specs.Files.{titled}
use Rattle.law.specs.declared.Verdict.{Verdict}
use Rattle.law.specs.Answers.{verdict}
use Rattle.law.specs.Judging.{Placement, placements_of, Entry, this, later, Served, board, mechanical, electrical, AllServed, none, one, Judged, first_wrong, second_wrong, lacking, served}
use Rattle.shown_judge.specs.JudgeLists.{has_entry_of, lacks_in, placed_behind, judge_lists}

-- tests and what they say
is_library_lem : (t : FileType) → is_library t ≡ true → t ≡ Library
is_library_lem Board h = absurd (false≢true h)
is_library_lem Panel h = absurd (false≢true h)
is_library_lem Library h = refl

no_library : (t : FileType) → is_library t ≡ false → t ≢ Library
no_library t h e = not_both {a = is_library Library} refl (ap is_library (sym e) ∙ h)

not_library : (t : FileType) → t ≢ Library → is_library t ≡ false
not_library t n = go (is_library t) refl
  where
    go : (b : Bool) → is_library t ≡ b → b ≡ false
    go true e = absurd (n (is_library_lem t e))
    go false e = refl

-- an entry is among the records exactly if the test says so
entry_sound : (k : ℕ) (a : Named) (qs : List Rec) → has_entry_of k a qs ≡ true → Entry k a qs
entry_sound k a [] h = absurd (false≢true h)
entry_sound k a (q ∷ qs) h = go (eqb q.kind k && same_name (name_in q) a) refl h (entry_sound k a qs)
  where
    go : (b : Bool) → (eqb q.kind k && same_name (name_in q) a) ≡ b → (b || has_entry_of k a qs) ≡ true → (has_entry_of k a qs ≡ true → Entry k a qs) → Entry k a (q ∷ qs)
    go true e i rest = let w = both (eqb q.kind k) (same_name (name_in q) a) e in this (eqb-true q.kind k w.0) (name_true (name_in q) a w.1)
    go false e i rest = later (rest i)

entry_complete : (k : ℕ) (a : Named) (qs : List Rec) → Entry k a qs → has_entry_of k a qs ≡ true
entry_complete k a (q ∷ qs) (this e n) = rw (eq-eqb q.kind k e, name_same (name_in q) a n)
entry_complete k a (q ∷ qs) (later r) = rw (entry_complete k a qs r) (or-true (eqb q.kind k && same_name (name_in q) a))
entry_complete k a [] x' = elim x' [ ]

-- no placement has both references
two_words : {s : List ℕ} → s ≡ board_word → s ≡ no_reference → ⊥
unfolding same_bytes
two_words {s} a b = not_both (bytes_same board_word no_reference (sym a ∙ b)) refl

module _ (qs : List Rec) (p : Placement) where
  served_complete : Served qs p → lacks_in qs p ≡ false
  served_complete (board e) = rw (bytes_same p.reference board_word e)
  served_complete (mechanical e n) = rw (bytes_differ p.reference board_word (λ f. two_words f e), bytes_same p.reference no_reference e, entry_complete mechanical_kind p.name qs n)
  served_complete (electrical d e n) = rw (bytes_differ p.reference board_word d, bytes_differ p.reference no_reference e, entry_complete electrical_kind p.name qs n)

  served_sound : lacks_in qs p ≡ false → Served qs p
  served_sound h = go (same_bytes p.reference board_word) (same_bytes p.reference no_reference) (has_entry_of mechanical_kind p.name qs) (has_entry_of electrical_kind p.name qs) refl refl refl refl h
    where
      go : (x y m e : Bool) → same_bytes p.reference board_word ≡ x → same_bytes p.reference no_reference ≡ y → has_entry_of mechanical_kind p.name qs ≡ m → has_entry_of electrical_kind p.name qs ≡ e
          → cond x false (cond y (not m) (not e)) ≡ false → Served qs p
      go true y m e a b c d i = board (bytes_true p.reference board_word a)
      go false true true e a b c d i = mechanical (bytes_true p.reference no_reference b) (entry_sound mechanical_kind p.name qs c)
      go false true false e a b c d i = absurd (true≢false i)
      go false false m true a b c d i = electrical (bytes_false p.reference board_word a) (bytes_false p.reference no_reference b) (entry_sound electrical_kind p.name qs d)
      go false false m false a b c d i = absurd (true≢false i)

  lacks_sound : lacks_in qs p ≡ true → Served qs p → ⊥
  lacks_sound h s = not_both h (served_complete s)

  lacks_complete : (Served qs p → ⊥) → lacks_in qs p ≡ true
  lacks_complete n = go (lacks_in qs p) refl
    where
      go : (b : Bool) → lacks_in qs p ≡ b → b ≡ true
      go true e = refl
      go false e = absurd (n (served_sound e))

-- what placements behind n others give
data Placed (qs : List Rec) (n : ℕ) (ls : List Placement) : Verdict → Type 0 where
  lack : (ps ss : List Placement) (p : Placement) → ls ≡ ps ++ (p ∷ ss) → AllServed qs ps → (Served qs p → ⊥) → Placed qs n ls (verdict 16 0 (n + (length ps + 1)) 1)
  all : AllServed qs ls → Placed qs n ls (verdict 0 0 (n + length ls) 0)

module _ (qs : List Rec) where
  placed_behind_lem : (n : ℕ) (p : Placement) (ls : List Placement) (v : Verdict) → Served qs p → Placed qs (n + 1) ls v → Placed qs n (p ∷ ls) v
  placed_behind_lem n p ls v s (lack ps ss q e a d) =
      let z : n + 1 + (length ps + 1) ≡ n + (length (p ∷ ps) + 1) = omega arith in
      rw z (lack (p ∷ ps) ss q (ap (λ (l : List Placement). p ∷ l) e) (one s a) d)
  placed_behind_lem n p ls v s (all a) = let z : n + 1 + length ls ≡ n + length (p ∷ ls) = omega arith in rw z (all (one s a))

  placed_sound : (n : ℕ) (ls : List Placement) → Placed qs n ls (placed_behind qs n ls)
  placed_sound n [] = let z : n + 0 ≡ n = omega arith in subst (λ (m : ℕ). Placed qs n [] (verdict 0 0 m 0)) z (all none)
  placed_sound n (p ∷ ls) = go (lacks_in qs p) refl (placed_sound (n + 1) ls)
    where
      go : (b : Bool) → lacks_in qs p ≡ b → Placed qs (n + 1) ls (placed_behind qs (n + 1) ls) → Placed qs n (p ∷ ls) (cond b (verdict 16 0 (n + 1) 1) (placed_behind qs (n + 1) ls))
      go true e r = lack [] ls p refl none (lacks_sound qs p e)
      go false e r = placed_behind_lem n p ls (placed_behind qs (n + 1) ls) (served_sound qs p e) r

  all_served : (n : ℕ) (ls : List Placement) → AllServed qs ls → placed_behind qs n ls ≡ verdict 0 0 (n + length ls) 0
  all_served n [] none = let z : n ≡ n + 0 = omega arith in ap (λ (m : ℕ). verdict 0 0 m 0) z
  all_served n (p ∷ ls) (one s a) =
      let z : n + 1 + length ls ≡ n + suc (length ls) = omega arith in
      rw (served_complete qs p s) (all_served (n + 1) ls a ∙ ap (λ (m : ℕ). verdict 0 0 m 0) z)

  first_lacking : (n : ℕ) (ps ss : List Placement) (p : Placement) → AllServed qs ps → (Served qs p → ⊥) → placed_behind qs n (ps ++ (p ∷ ss)) ≡ verdict 16 0 (n + (length ps + 1)) 1
  first_lacking n [] ss p none d = rw (lacks_complete qs p d)
  first_lacking n (q ∷ ps) ss p (one s a) d =
      let z : n + 1 + (length ps + 1) ≡ n + (suc (length ps) + 1) = omega arith in
      rw (served_complete qs q s) (first_lacking (n + 1) ps ss p a d ∙ ap (λ (m : ℕ). verdict 16 0 m 1) z)

none_before : (n : ℕ) → 0 + n ≡ n
none_before n = omega arith

module _ (rs qs : List Rec) where
  -- the function's verdict is that of the rules
  pub judged_sound : Judged rs qs (judge_lists rs qs)
  judged_sound = go (is_library (titled rs)) (is_library (titled qs)) refl refl
    where
      among : titled rs ≢ Library → titled qs ≡ Library → {v : Verdict} → Placed qs 0 (placements_of rs) v → Judged rs qs v
      among a b (lack ps ss p e s d) = rw (none_before (length ps + 1)) (lacking ps ss p a b e s d)
      among a b (all s) = rw (none_before (length (placements_of rs))) (served a b s)

      go : (x y : Bool) → is_library (titled rs) ≡ x → is_library (titled qs) ≡ y
          → Judged rs qs (cond x (verdict 17 0 0 1) (cond y (placed_behind qs 0 (placements_of rs)) (verdict 17 0 0 2)))
      go true y a b = first_wrong (is_library_lem (titled rs) a)
      go false true a b = among (no_library (titled rs) a) (is_library_lem (titled qs) b) (placed_sound qs 0 (placements_of rs))
      go false false a b = second_wrong (no_library (titled rs) a) (no_library (titled qs) b)

  -- and the rules give no other
  pub judged_one : (v : Verdict) → Judged rs qs v → judge_lists rs qs ≡ v
  judged_one v (first_wrong a) = rw a
  judged_one v (second_wrong a b) = rw (not_library (titled rs) a, not_library (titled qs) b)
  judged_one v (lacking ps ss p a b e s d) = rw (not_library (titled rs) a, b, e) (first_lacking qs 0 ps ss p s d ∙ ap (λ (m : ℕ). verdict 16 0 m 1) (none_before (length ps + 1)))
  judged_one v (served a b s) = rw (not_library (titled rs) a, b) (all_served qs 0 (placements_of rs) s ∙ ap (λ (m : ℕ). verdict 0 0 m 0) (none_before (length (placements_of rs))))
