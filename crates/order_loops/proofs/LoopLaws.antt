-- Laws of the loop rule's leaves: two numbers compared by their bits, and labels one after the other.
use mathlib.Core.Path.{◌≡◌, refl, sym, ap, subst, ◌∙◌}
use mathlib.Core.Bool.{Bool, true, false, not, ◌&&◌, ◌||◌, or-false}
use native.Mathlib.Omega.{arith}
use mir.Syntax.{w64}
use mir.Val.{SFits, of_z}
use mir.ValLaws.{to_z-of_z}
use lib.Dec.{eqb}
use lib.IntN.{ℤ, pos, suc_ℤ, ◌+ℤ◌, +ℤ-suc_ℤ, +ℤ_idr}
use Rattle.rows.specs.declared.Point.{Point}
use Rattle.basics.specs.Integers.{eq_z}
use Rattle.std.specs.Prelude.{Option, Some, None, SomeIff}
use Rattle.std.specs.Option.{option_eq}
use Rattle.std.specs.Ordering.{int_eq}
use Rattle.std.proofs.lemmas.Bool.Decides.{same_from_decides, Decides-int_eq}
use Rattle.basics.proofs.Integers.{back, bits_same, eq_z_true, eq_z_same, eq_z_differ}
use Rattle.law.specs.Limits.{whole_turn}
use Rattle.order_loops.specs.Loops.{first_label, place_at, same_place, begins, goes_on, closes, reached, loop_after}
use Rattle.order_loops.specs.Answers.{turns_by, next_loop, after_back}
use Rattle.order_loops.specs.declared.Place.{Place}
use Rattle.order_loops.specs.declared.LoopState.{LoopState}
use Rattle.order_loops.specs.declared.LoopState.TheVariants.{Back, Away}

-- places by their counts
int_is : (a b : ℤ) → int_eq a b ≡ eq_z a b
int_is a b = same_from_decides (int_eq a b) (eq_z a b) (Decides-int_eq a b) (eq_z_true a b, eq_z_same a b)

place_is : (p q : Place) → (int_eq p.x.0 q.x.0 && int_eq p.y.0 q.y.0) ≡ same_place p q
place_is p q = rw (int_is p.x.0 q.x.0, int_is p.y.0 q.y.0)

pub reached_back : (l : ℤ) (f p : Place) (x : Bool) → SFits w64 l → x ≡ (int_eq p.x.0 f.x.0 && int_eq p.y.0 f.y.0) → x ≡ true → Back (back l) f ≡ reached l f p
reached_back l f p x fl e h = let z : same_place p f ≡ true = sym (place_is p f) ∙ sym e ∙ h in rw (z, to_z-of_z w64 l fl)

pub reached_away : (l : ℤ) (f p : Place) (x : Bool) → SFits w64 l → x ≡ (int_eq p.x.0 f.x.0 && int_eq p.y.0 f.y.0) → x ≡ false → Away (back l) f p ≡ reached l f p
reached_away l f p x fl e h = let z : same_place p f ≡ false = sym (place_is p f) ∙ sym e ∙ h in rw (z, to_z-of_z w64 l fl)

-- angles by their counts
pub turns_is : (d : Point) (a : ℤ) → a ≡ d.angle.0 → SFits w64 a → eqb (of_z w64 a) 36_000_000 ≡ turns_by d
turns_is d a e f = bits_same a whole_turn f (record { sfits = omega arith }) ∙ rw e

pub goes_is : (l : ℤ) (q p : Place) (d : Point) (y z : Bool) → SFits w64 d.label → SFits w64 l → p ≡ place_at d → y ≡ not (int_eq p.x.0 q.x.0 && int_eq p.y.0 q.y.0) → z ≡ turns_by d
    → (eqb (of_z w64 d.label) (of_z w64 l) && y && not z) ≡ goes_on l q d
goes_is l q p d y z fd fl f g h = rw (bits_same d.label l fd fl, g, f, int_is d.x.0 q.x.0, int_is d.y.0 q.y.0, h)

pub closes_is : (l : ℤ) (q p : Place) (d : Point) (y z : Bool) → SFits w64 d.label → SFits w64 l → p ≡ place_at d → y ≡ not (int_eq p.x.0 q.x.0 && int_eq p.y.0 q.y.0) → z ≡ turns_by d
    → (eqb (of_z w64 d.label) (of_z w64 l) && y && z) ≡ closes l q d
closes_is l q p d y z fd fl f g h = rw (bits_same d.label l fd fl, g, f, int_is d.x.0 q.x.0, int_is d.y.0 q.y.0, h)

-- 0 where there are many loops, elsewhere 0 or 1
pub first_is : (many : Bool) (l : ℤ) → SFits w64 l → (eqb (of_z w64 l) 0 || (not many && eqb (of_z w64 l) 1)) ≡ first_label many l
first_is true l f = or-false (eqb (of_z w64 l) 0) ∙ bits_same l (pos 0) f (record { sfits = omega arith })
first_is false l f = rw (bits_same l (pos 0) f (record { sfits = omega arith }), bits_same l (pos 1) f (record { sfits = omega arith }))

-- an angle of 0
pub starts_is : (may : Bool) (d : Point) (a : ℤ) → a ≡ d.angle.0 → SFits w64 a → (may && eqb (of_z w64 a) 0) ≡ (may && eq_z d.angle.0 (pos 0))
starts_is may d a e f = ap (λ (b : Bool). may && b) (bits_same a (pos 0) f (record { sfits = omega arith }) ∙ rw e)

-- the next label
one_more : (a : ℤ) → SFits w64 a → back a +ℤ pos 1 ≡ suc_ℤ a
one_more a f = ap (λ (n : ℤ). n +ℤ pos 1) (to_z-of_z w64 a f) ∙ +ℤ-suc_ℤ a (pos 0) ∙ ap suc_ℤ (+ℤ_idr a)

pub follows_is : (a b : ℤ) (o : Option ℤ) (r : Bool) → SFits w64 a → SFits w64 b → r ≡ option_eq int_eq o (Some (back b)) → SomeIff o (SFits w64 (back a +ℤ pos 1)) (back a +ℤ pos 1)
    → r ≡ eq_z b (suc_ℤ a)
follows_is a b None r fa fb e h = e ∙ sym (eq_z_differ b (suc_ℤ a) (λ i. h (subst (λ (n : ℤ). SFits w64 n) (i ∙ sym (one_more a fa)) fb)))
follows_is a b (Some n) r fa fb e h =
    e ∙ ap (λ (x : ℤ). int_eq n x) (to_z-of_z w64 b fb)
    ∙ same_from_decides (int_eq n b) (eq_z b (suc_ℤ a)) (Decides-int_eq n b)
    ((λ i. let z : n ≡ suc_ℤ a = h.1 ∙ one_more a fa in z ∙ sym (eq_z_true b (suc_ℤ a) i)), (λ i. eq_z_same b (suc_ℤ a) (sym i ∙ h.1 ∙ one_more a fa)))

-- where the next loop may begin its label is the point's
pub next_is : (many : Bool) (l : ℤ) (d : Point) → begins (many && eq_z d.label (suc_ℤ l)) d.label d ≡ next_loop many l d
next_is false l d = refl
next_is true l d = go (eq_z d.label (suc_ℤ l)) refl
  where
    go : (t : Bool) → eq_z d.label (suc_ℤ l) ≡ t → begins t d.label d ≡ begins t (suc_ℤ l) d
    go true e = ap (λ (n : ℤ). begins true n d) (eq_z_true d.label (suc_ℤ l) e)
    go false e = refl

-- a point by tests that were answered one by one, and one after a path that is back at its first
pub goes_by : (l : ℤ) (q p : Place) (d : Point) (x y z : Bool) → SFits w64 d.label → SFits w64 l → x ≡ eq_z (back d.label) (back l) → p ≡ place_at d → y ≡ same_place p q → z ≡ turns_by d
    → (x && not y && not z) ≡ goes_on l q d
goes_by l q p d x y z fd fl e f g h = rw (e, to_z-of_z w64 d.label fd, to_z-of_z w64 l fl, g, f, h)

pub closes_by : (l : ℤ) (q p : Place) (d : Point) (x y z : Bool) → SFits w64 d.label → SFits w64 l → x ≡ eq_z (back d.label) (back l) → p ≡ place_at d → y ≡ same_place p q → z ≡ turns_by d
    → (x && not y && z) ≡ closes l q d
closes_by l q p d x y z fd fl e f g h = rw (e, to_z-of_z w64 d.label fd, to_z-of_z w64 l fl, g, f, h)

pub after_return : (many : Bool) (l : LoopState) (d : Point) (r : Option LoopState) (n : ℤ) (f : Place) → l ≡ Back n f → SFits w64 n → r ≡ after_back many (back n) f d → r ≡ loop_after many l d
unfolding loop_after
after_return many l d r n f h fn e = rw (h, e, to_z-of_z w64 n fn)
