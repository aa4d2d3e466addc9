-- The points that are accepted, the rules produce: each loop state has a type of what may still come (`Tail`), and a point goes in front of it.
use Prim.Native.Nat.{ℕ}
use mathlib.Core.Path.{◌≡◌, refl, sym, subst}
use mathlib.Core.Logic.{◌≢◌, ◌⊎◌, inl, inr, ⊎_elim}
use mathlib.Core.List.{List, [], ◌∷◌, ◌++◌, append-nil}
use Rattle.std.specs.Prelude.{Option, Some as some, None as none}
use mathlib.Core.Bool.{Bool, true, false, cond, ◌&&◌, false≢true}
use lib.IntN.{ℤ, pos, suc_ℤ}
use borrow.Author.Tests.{not-true}
use Rattle.basics.proofs.Integers.{eq_z_true, eq_z_false}
use Rattle.basics.proofs.Bools.{both, either, other, not_both}
use Rattle.basics.specs.Integers.{eq_z}
use Rattle.law.specs.Values.{Rec}
use Rattle.law.specs.declared.Role.TheVariants.{Point as point}
use Rattle.law.specs.declared.Rules.{Rules}
use Rattle.law.specs.declared.FileType.{FileType}
use Rattle.law.specs.Records.{many_loops, Place, label_of, place_of, angle_of}
use Rattle.order.specs.Marks.{point_of}
use Rattle.law.specs.Limits.{whole_turn}
use Rattle.order_loops.specs.Loops.{same_place, begins, first_label, goes_on, closes, reached, loop_after, complete}
use Rattle.order_loops.specs.declared.Place.{Place as Spot}
use Rattle.order_loops.specs.declared.LoopState.{LoopState}
use Rattle.order_loops.specs.declared.LoopState.TheVariants.{NoPoint as no_point, OnePoint as one_point, Away as away, Back as back, Round as round}
use Rattle.law.specs.Lists.{Line, PointLine, Step, Return, last, further, Loop, circle, path, Loops, final, another, Points, numbered, single}
use Rattle.shown_lists.proofs.Spots.{same_spot, same_false, spot, spot_of}

module _ (v : Rules) (t : FileType) (s : ℕ) where
  -- after a complete loop: nothing, or loops with the labels after it
  pub data More (label : ℤ) : List Rec → Type 0 where
    no_more : More label []
    again : {rs : List Rec} → many_loops s ≡ true → Loops v t s (suc_ℤ label) rs → More label rs

  -- after a loop's first point, at f
  pub data Second (label : ℤ) (f : Spot) : List Rec → Type 0 where
    is_circle : {b : Rec} → PointLine v t s label b → place_of b ≢ spot f → angle_of b ≡ whole_turn → Second label f (b ∷ [])
    is_path : {b : Rec} {rs : List Rec} → Step v t s label (spot f) b → Return v t s label (spot f) (place_of b) rs → Second label f (b ∷ rs)

  pub data Tail : LoopState → List Rec → Type 0 where
    at_none : {rs : List Rec} → Points v t s rs → Tail no_point rs
    at_one : {l : ℤ} {f : Spot} {rs ms : List Rec} → Second l f rs → More l ms → Tail (one_point l f) (rs ++ ms)
    at_away : {l : ℤ} {f q : Spot} {rs ms : List Rec} → Return v t s l (spot f) (spot q) rs → More l ms → Tail (away l f q) (rs ++ ms)
    at_back : {l : ℤ} {f : Spot} {ms : List Rec} → More l ms → Tail (back l f) ms
    at_back_on : {l : ℤ} {f : Spot} {rs ms : List Rec} → Return v t s l (spot f) (spot f) rs → More l ms → Tail (back l f) (rs ++ ms)
    at_round : {l : ℤ} {ms : List Rec} → More l ms → Tail (round l) ms

  pub tail_complete : (l : LoopState) → complete l ≡ true → Tail l []
  tail_complete no_point h = absurd (false≢true h)
  tail_complete (one_point l f) h = absurd (false≢true h)
  tail_complete (away l f q) h = absurd (false≢true h)
  tail_complete (back l f) h = at_back no_more
  tail_complete (round l) h = at_round no_more

  abbrev pub TailOf : Option LoopState → List Rec → Type 0
  TailOf none rs = ⊥
  TailOf (some l) rs = Tail l rs

  -- a whole loop, and what follows it
  data New (label : ℤ) : List Rec → Type 0 where
    new : {rs ms : List Rec} → Loop v t s label rs → More label ms → New label (rs ++ ms)

  new_loop : {label : ℤ} {r : Rec} {ms : List Rec} → PointLine v t s label r → angle_of r ≡ pos 0 → Tail (one_point label (spot_of r)) ms
      → New label (r ∷ ms)
  new_loop p z (at_one (is_circle q e w) m) = new (circle p z q e w) m
  new_loop p z (at_one (is_path q ret) m) = new (path p z q ret) m

  new_loops : {label : ℤ} {rs : List Rec} → New label rs → Loops v t s label rs
  new_loops (new {rs} k no_more) = rw append-nil (final k)
  new_loops (new k (again m rest)) = another k rest

  new_single : {label : ℤ} {rs : List Rec} → many_loops s ≡ false → New label rs → Loop v t s label rs
  new_single e (new k no_more) = rw append-nil k
  new_single e (new k (again m rest)) = absurd (not_both m e)

  -- more of a path, and what follows it
  data Onward (label : ℤ) (f q : Spot) : List Rec → Type 0 where
    on : {rs ms : List Rec} → Return v t s label (spot f) (spot q) rs → More label ms → Onward label f q (rs ++ ms)

  second_of : {label : ℤ} {f : Spot} {rs : List Rec} → Return v t s label (spot f) (spot f) rs → Second label f rs
  second_of (last k e) = absurd (k.elsewhere e)
  second_of (further k rest) = is_path k rest

  module _ {r : Rec} (k : Line v t s point r) where
    begins_before : {ms : List Rec} (may : Bool) (label : ℤ) → (may ≡ true → label_of r ≡ label) → TailOf (begins may label (point_of r)) ms
        → (may ≡ true) × New label (r ∷ ms)
    begins_before {ms} may label e = go may (eq_z (angle_of r) (pos 0)) refl e
      where
        go : (a b : Bool) → eq_z (angle_of r) (pos 0) ≡ b → (a ≡ true → label_of r ≡ label)
            → TailOf (cond (a && b) (some (one_point label (spot_of r))) none) ms → (a ≡ true) × New label (r ∷ ms)
        go true true h e tail = (refl, new_loop (record { line = k; labelled = e refl }) (eq_z_true _ _ h) tail)
        go true false h e tail = absurd tail
        go false b h e tail = absurd tail

    goes_step : (label : ℤ) (q : Spot) → goes_on label q (point_of r) ≡ true → Step v t s label (spot q) r
    goes_step label q h =
        let u = both _ _ h in
        let y = both _ _ u.0 in
        record {
          has_point_role = record { line = k; labelled = eq_z_true _ _ y.0 };
          elsewhere = same_false (spot_of r) q (not-true _ y.1);
          not_360 = eq_z_false _ _ (not-true _ u.1);
        }

    goes_before : {ms : List Rec} (label : ℤ) (f q : Spot) → goes_on label q (point_of r) ≡ true → Tail (reached label f (spot_of r)) ms
        → Onward label f q (r ∷ ms)
    goes_before label f q h tail = go (same_place (spot_of r) f) refl tail
      where
        go : {ms : List Rec} (b : Bool) → same_place (spot_of r) f ≡ b → Tail (cond b (back label f) (away label f (spot_of r))) ms
            → Onward label f q (r ∷ ms)
        go true e (at_back m) = on (last (goes_step label q h) (same_spot (spot_of r) f e)) m
        go true e (at_back_on {rs = xs} ret m) =
            on (further (goes_step label q h) (subst (λ (p : Place). Return v t s label (spot f) p xs) (sym (same_spot (spot_of r) f e)) ret)) m
        go false e (at_away ret m) = on (further (goes_step label q h) ret) m

    -- from a loop state where a path may go on
    goes_or : {ms : List Rec} (label : ℤ) (f q : Spot) (other : Option LoopState)
        → TailOf (cond (goes_on label q (point_of r)) (some (reached label f (spot_of r))) other) ms → Onward label f q (r ∷ ms) ⊎ TailOf other ms
    goes_or {ms} label f q other = go (goes_on label q (point_of r)) refl
      where
        go : (b : Bool) → goes_on label q (point_of r) ≡ b → TailOf (cond b (some (reached label f (spot_of r))) other) ms
            → Onward label f q (r ∷ ms) ⊎ TailOf other ms
        go true h tail = inl (goes_before label f q h tail)
        go false h tail = inr tail

    next_label : (label : ℤ) → (many_loops s && eq_z (label_of r) (suc_ℤ label)) ≡ true → label_of r ≡ suc_ℤ label
    next_label label h = eq_z_true _ _ (both (many_loops s) _ h).1

    next_before : {ms : List Rec} (label : ℤ) → TailOf (begins (many_loops s && eq_z (label_of r) (suc_ℤ label)) (suc_ℤ label) (point_of r)) ms
        → More label (r ∷ ms)
    next_before label tail =
        let w = begins_before _ (suc_ℤ label) (next_label label) tail in
        again (both (many_loops s) _ w.0).0 (new_loops w.1)

    first_before : {ms : List Rec} → (many : Bool) → many_loops s ≡ many → first_label many (label_of r) ≡ true → New (label_of r) (r ∷ ms)
        → Points v t s (r ∷ ms)
    first_before {ms} true e h n = numbered e (subst (λ (l : ℤ). Loops v t s l (r ∷ ms)) (eq_z_true _ _ h) (new_loops n))
    first_before false e h n = single e (⊎_elim (λ x. inl (eq_z_true _ _ x)) (λ x. inr (eq_z_true _ _ x)) (either _ _ h)) (new_single e n)

    away_from : {label : ℤ} {f q : Spot} {ms : List Rec} → Onward label f q ms ⊎ ⊥ → Tail (away label f q) ms
    away_from (inl (on ret m)) = at_away ret m
    away_from (inr e) = absurd e

    back_from : {label : ℤ} {f : Spot} {ms : List Rec} → Onward label f f ms → Tail (back label f) ms
    back_from (on ret m) = at_back_on ret m

    one_from : {label : ℤ} {f : Spot} {ms : List Rec} → Onward label f f ms ⊎ ⊥ → Tail (one_point label f) ms
    one_from (inl (on ret m)) = at_one (second_of ret) m
    one_from (inr e) = absurd e

    round_before : {label : ℤ} {f : Spot} {ms : List Rec} → closes label f (point_of r) ≡ true → Tail (round label) ms
        → Tail (one_point label f) (r ∷ ms)
    round_before {f = f} h (at_round m) =
        let u = both _ _ h in
        let y = both _ _ u.0 in
        at_one (is_circle (record { line = k; labelled = eq_z_true _ _ y.0 }) (same_false (spot_of r) f (not-true _ y.1)) (eq_z_true _ _ u.1)) m

    pub point_before : {ms : List Rec} (l : LoopState) → TailOf (loop_after (many_loops s) l (point_of r)) ms → Tail l (r ∷ ms)
    unfolding loop_after
    point_before no_point tail =
        let w = begins_before _ (label_of r) (λ e. refl) tail in
        at_none (first_before (many_loops s) refl w.0 w.1)
    point_before {ms} (one_point l f) tail = go (closes l f (point_of r)) refl tail
      where
        go : (b : Bool) → closes l f (point_of r) ≡ b
            → TailOf (cond b (some (round l)) (cond (goes_on l f (point_of r)) (some (reached l f (spot_of r))) none)) ms → Tail (one_point l f) (r ∷ ms)
        go true h tail = round_before h tail
        go false h tail = one_from (goes_or l f f none tail)
    point_before (away l f q) tail = away_from (goes_or l f q none tail)
    point_before {ms} (back l f) tail = go (goes_or l f f (begins (many_loops s && eq_z (label_of r) (suc_ℤ l)) (suc_ℤ l) (point_of r)) tail)
      where
        go : Onward l f f (r ∷ ms) ⊎ TailOf (begins (many_loops s && eq_z (label_of r) (suc_ℤ l)) (suc_ℤ l) (point_of r)) ms → Tail (back l f) (r ∷ ms)
        go (inl x) = back_from x
        go (inr tail) = at_back (next_before l tail)
    point_before (round l) tail = at_round (next_before l tail)
