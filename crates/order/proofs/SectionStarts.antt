-- What a section begins with, by its number.
use Prim.Native.Nat.{ℕ, zero, suc, ◌≤◌}
use mathlib.Core.Path.{◌≡◌, refl, sym, ◌∙◌}
use mathlib.Core.List.{List, [], ◌∷◌}
use mathlib.Core.Option.{none}
use mathlib.Core.Bool.{Bool, true, false, ◌||◌, false≢true}
use native.Mathlib.Omega.{arith}
use borrow.Author.Tests.{ne_eqb, leb-true, leb-false}
use lib.Dec.{leb, eqb}
use lib.ListN.{length}
use Rattle.basics.proofs.Tables.{all_below, below_all}
use Rattle.law.specs.Sections.{outline, sections, nth}
use Rattle.law.specs.declared.Rules.{Rules}
use Rattle.law.specs.declared.Rules.TheVariants.{Idf3}
use Rattle.law.specs.Records.{shape_of}
use Rattle.order.specs.Automaton.{start_of}
use Rattle.order_loops.specs.declared.LoopState.TheVariants.{NoPoint}
use Rattle.order.specs.declared.Phase.{Phase}
use Rattle.order.specs.declared.Phase.TheVariants.{AwaitTitle, AwaitName, HeaderFull, AwaitLead, InPoints, InProps, InList, AwaitPart, AwaitPosition}

nth_none : {A : Type 0} (l : List A) (n : ℕ) → length l ≤ n → nth l n ≡ none
nth_none [] n h = refl
nth_none (x ∷ l) zero h = absurd (omega arith)
nth_none (x ∷ l) (suc n) h = nth_none l n (omega arith)

abbrev pub begins_lead : Phase → Bool
begins_lead AwaitTitle = false
begins_lead (AwaitName t) = false
begins_lead (HeaderFull t) = false
begins_lead AwaitLead = true
begins_lead (InPoints l) = false
begins_lead InProps = false
begins_lead InList = false
begins_lead AwaitPart = false
begins_lead AwaitPosition = false

lead_is : (p : Phase) → begins_lead p ≡ true → AwaitLead ≡ p
lead_is AwaitTitle h = absurd (false≢true h)
lead_is (AwaitName t) h = absurd (false≢true h)
lead_is (HeaderFull t) h = absurd (false≢true h)
lead_is AwaitLead h = refl
lead_is (InPoints l) h = absurd (false≢true h)
lead_is InProps h = absurd (false≢true h)
lead_is InList h = absurd (false≢true h)
lead_is AwaitPart h = absurd (false≢true h)
lead_is AwaitPosition h = absurd (false≢true h)

pub start_title : (v : Rules) (s : ℕ) → s ≡ 1 → AwaitTitle ≡ start_of (shape_of v s)
unfolding shape_of sections
start_title Idf3 s h = rw h

pub start_points : (v : Rules) (s : ℕ) → s ≡ 8 → InPoints NoPoint ≡ start_of (shape_of v s)
unfolding shape_of sections
start_points Idf3 s h = rw h

pub start_holes : (v : Rules) (s : ℕ) → s ≡ 11 → InList ≡ start_of (shape_of v s)
unfolding shape_of sections
start_holes Idf3 s h = rw h

pub start_notes : (v : Rules) (s : ℕ) → s ≡ 12 → InList ≡ start_of (shape_of v s)
unfolding shape_of sections
start_notes Idf3 s h = rw h

pub start_parts : (v : Rules) (s : ℕ) → s ≡ 13 → AwaitPart ≡ start_of (shape_of v s)
unfolding shape_of sections
start_parts Idf3 s h = rw h

abbrev starts_right : Rules → ℕ → Bool
starts_right v s = eqb s 1 || (eqb s 8 || (eqb s 11 || (eqb s 12 || (eqb s 13 || begins_lead (start_of (shape_of v s))))))

starts_below : (v : Rules) → all_below 16 (starts_right v) ≡ true
unfolding shape_of sections
starts_below Idf3 = refl

none_beyond : (v : Rules) (n : ℕ) → 15 ≤ n → nth (sections v) n ≡ none
unfolding sections
none_beyond Idf3 n h = nth_none (sections Idf3) n (omega arith)

pub shape_beyond : (v : Rules) (s : ℕ) → 16 ≤ s → shape_of v s ≡ outline
unfolding shape_of
shape_beyond v zero h = absurd (omega arith)
shape_beyond v (suc n) h = rw (none_beyond v n (omega arith))

pub start_lead : (v : Rules) (s : ℕ) → (s ≡ 1 → ⊥) → (s ≡ 8 → ⊥) → (s ≡ 11 → ⊥) → (s ≡ 12 → ⊥) → (s ≡ 13 → ⊥) → AwaitLead ≡ start_of (shape_of v s)
start_lead v s a b c d e = go (leb s 15) refl
  where
    test : starts_right v s ≡ true → AwaitLead ≡ start_of (shape_of v s)
    test h =
        let z : starts_right v s ≡ begins_lead (start_of (shape_of v s)) = rw (ne_eqb s 1 a, ne_eqb s 8 b, ne_eqb s 11 c, ne_eqb s 12 d, ne_eqb s 13 e) in
        lead_is (start_of (shape_of v s)) (sym z ∙ h)

    go : (t : Bool) → leb s 15 ≡ t → AwaitLead ≡ start_of (shape_of v s)
    go true h = test (below_all 16 (starts_right v) (starts_below v) s (omega (arith, leb-true s 15 h)))
    go false h = rw (shape_beyond v s (omega (arith, leb-false s 15 h)))
