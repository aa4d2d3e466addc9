-- Laws of looks through slots: one turn of a loop, and what a number that was put does to every look.
use Prim.Native.Nat.{ℕ, zero, suc, ◌+◌, ◌-◌, ◌%◌, ◌≤◌, ◌<◌}
use mathlib.Core.Path.{◌≡◌, refl, sym, ap, subst, ◌∙◌}
use mathlib.Core.List.{List}
use mathlib.Core.Bool.{Bool, true, false, cond, false≢true}
use native.Mathlib.Omega.{arith}
use native.Mathlib.Nat.{mod-lt}
use borrow.Author.Tests.{eqb-true, eqb-false, eq-eqb, ne_eqb}
use lib.Dec.{eqb}
use lib.ListN.{length, get_or, set, length-set}
use lib.Seq.{get_or-set_same, get_or-set_other}
use Rattle.names_slots.specs.Looks.{looks}
use Rattle.names_slots.specs.Hashes.{slot_of}
use Rattle.names_slots.specs.Slots.{look_from, put_from, placed, holds}

-- a look begins where all its slots are
pub slot_room : (h n : ℕ) → looks < n → slot_of h n + looks ≤ n
unfolding slot_of
slot_room h n k = let l : h % (n - looks) < n - looks = mod-lt h (omega arith) in omega arith

-- one more slot of a look that has gone through i

module _ (hit : ℕ → Bool) (xs : List ℕ) (from i : ℕ) (h : i < looks) where
  look_one : look_from (looks - i) hit xs (from + i)
      ≡ cond (eqb (get_or xs (from + i) 0) 0) false (cond (hit (get_or xs (from + i) 0)) true (look_from (looks - (i + 1)) hit xs (from + (i + 1))))
  unfolding look_from
  look_one =
      let e : looks - i ≡ suc (looks - (i + 1)) = omega arith in
      let d : from + i + 1 ≡ from + (i + 1) = omega arith in
      ap (λ (f : ℕ). look_from f hit xs (from + i)) e
      ∙ ap (λ (at : ℕ). cond (eqb (get_or xs (from + i) 0) 0) false (cond (hit (get_or xs (from + i) 0)) true (look_from (looks - (i + 1)) hit xs at))) d

  pub look_empty : get_or xs (from + i) 0 ≡ 0 → look_from (looks - i) hit xs (from + i) ≡ false
  look_empty e = look_one ∙ rw (eq-eqb (get_or xs (from + i) 0) 0 e)

  module _ (n : get_or xs (from + i) 0 ≡ 0 → ⊥) where
    pub look_hit : hit (get_or xs (from + i) 0) ≡ true → look_from (looks - i) hit xs (from + i) ≡ true
    look_hit e = look_one ∙ rw (ne_eqb (get_or xs (from + i) 0) 0 n, e)

    pub look_more : hit (get_or xs (from + i) 0) ≡ false → look_from (looks - i) hit xs (from + i) ≡ look_from (looks - (i + 1)) hit xs (from + (i + 1))
    look_more e = look_one ∙ rw (ne_eqb (get_or xs (from + i) 0) 0 n, e)

pub look_over : (hit : ℕ → Bool) (xs : List ℕ) (from i : ℕ) → looks ≤ i → look_from (looks - i) hit xs (from + i) ≡ false
unfolding look_from
look_over hit xs from i h = let e : looks - i ≡ 0 = omega arith in ap (λ (f : ℕ). look_from f hit xs (from + i)) e

module _ (xs : List ℕ) (from i m : ℕ) (h : i < looks) where
  put_one_lem : put_from (looks - i) xs (from + i) m
      ≡ cond (eqb (get_or xs (from + i) 0) 0) (set xs (from + i) m) (cond (eqb (get_or xs (from + i) 0) m) xs (put_from (looks - (i + 1)) xs (from + (i + 1)) m))
  unfolding put_from
  put_one_lem =
      let e : looks - i ≡ suc (looks - (i + 1)) = omega arith in
      let d : from + i + 1 ≡ from + (i + 1) = omega arith in
      ap (λ (f : ℕ). put_from f xs (from + i) m) e
      ∙ ap (λ (at : ℕ). cond (eqb (get_or xs (from + i) 0) 0) (set xs (from + i) m) (cond (eqb (get_or xs (from + i) 0) m) xs (put_from (looks - (i + 1)) xs at m))) d

-- a loop that puts m: the slots are as they were, and what is left of its look is all of it
pub record Putting (xs₀ xs : List ℕ) (from m i : ℕ) : Type 0 where
  pub kept : xs ≡ xs₀
  pub put : put_from (looks - i) xs₀ (from + i) m ≡ put_from looks xs₀ from m
  pub far : i ≤ looks
  pub room : from + looks ≤ length xs

pub putting_start : (xs : List ℕ) (from m : ℕ) → from + looks ≤ length xs → Putting xs xs from m 0
putting_start xs from m h =
    let e : from + 0 ≡ from = omega arith in
    record {
      kept = refl;
      put = ap (λ (at : ℕ). put_from looks xs at m) e;
      far = omega arith;
      room = h;
    }

module _ (xs₀ xs : List ℕ) (from m i : ℕ) (p : Putting xs₀ xs from m i) where
  pub putting_length : length xs ≡ length xs₀
  putting_length = ap length p.kept

  pub putting_over : looks ≤ i → xs ≡ put_from looks xs₀ from m
  unfolding put_from
  putting_over h = let e : looks - i ≡ 0 = omega arith in p.kept ∙ sym (ap (λ (f : ℕ). put_from f xs₀ (from + i) m) e) ∙ p.put

  module _ (h : i < looks) where
    pub putting_within : from + i < length xs
    putting_within = let r = p.room in omega arith

    here : get_or xs (from + i) 0 ≡ get_or xs₀ (from + i) 0
    here = ap (λ (ys : List ℕ). get_or ys (from + i) 0) p.kept

    pub putting_empty : get_or xs (from + i) 0 ≡ 0 → set xs (from + i) m ≡ put_from looks xs₀ from m
    putting_empty e =
        ap (λ (ys : List ℕ). set ys (from + i) m) p.kept
        ∙ sym (put_one_lem xs₀ from i m h ∙ rw (eq-eqb (get_or xs₀ (from + i) 0) 0 (sym here ∙ e)))
        ∙ p.put

    pub putting_empty_length : (x : ℕ) → length (set xs (from + i) x) ≡ length xs₀
    putting_empty_length x = length-set xs (from + i) x ∙ putting_length

    module _ (n : get_or xs (from + i) 0 ≡ 0 → ⊥) where
      some : get_or xs₀ (from + i) 0 ≡ 0 → ⊥
      some e = n (here ∙ e)

      pub putting_here : get_or xs (from + i) 0 ≡ m → xs ≡ put_from looks xs₀ from m
      putting_here e =
          p.kept
          ∙ sym (put_one_lem xs₀ from i m h ∙ rw (ne_eqb (get_or xs₀ (from + i) 0) 0 some, eq-eqb (get_or xs₀ (from + i) 0) m (sym here ∙ e)))
          ∙ p.put

      pub putting_more : (get_or xs (from + i) 0 ≡ m → ⊥) → Putting xs₀ xs from m (i + 1)
      putting_more d =
          let q : eqb (get_or xs₀ (from + i) 0) m ≡ false = ne_eqb (get_or xs₀ (from + i) 0) m (λ e. d (here ∙ e)) in
          record {
            kept = p.kept;
            put = sym (put_one_lem xs₀ from i m h ∙ rw (ne_eqb (get_or xs₀ (from + i) 0) 0 some, q)) ∙ p.put;
            far = omega arith;
            room = p.room;
          }

-- what a number that was put does to looks

put_length : (f : ℕ) (xs : List ℕ) (at m : ℕ) → length (put_from f xs at m) ≡ length xs
unfolding put_from
put_length zero xs at m = refl
put_length (suc f) xs at m = go (eqb (get_or xs at 0) 0) (eqb (get_or xs at 0) m) (put_length f xs (at + 1) m)
  where
    go : (a b : Bool) → length (put_from f xs (at + 1) m) ≡ length xs → length (cond a (set xs at m) (cond b xs (put_from f xs (at + 1) m))) ≡ length xs
    go true b e = length-set xs at m
    go false true e = refl
    go false false e = e

-- every slot holds what it held or what was put
pub put_holds : (T : ℕ → Type 0) (f : ℕ) (xs : List ℕ) (at m : ℕ) → at + f ≤ length xs → ((i : ℕ) → T (get_or xs i 0)) → T m → (i : ℕ) → T (get_or (put_from f xs at m) i 0)
unfolding put_from
put_holds T zero xs at m r all t i = all i
put_holds T (suc f) xs at m r all t i = go (eqb (get_or xs at 0) 0) (eqb (get_or xs at 0) m) (put_holds T f xs (at + 1) m (omega arith) all t i)
  where
    set_at : (c : Bool) → eqb i at ≡ c → T (get_or (set xs at m) i 0)
    set_at true e = subst (λ (j : ℕ). T (get_or (set xs at m) j 0)) (sym (eqb-true i at e)) (subst T (sym (get_or-set_same xs at m 0 (omega arith))) t)
    set_at false e = subst T (sym (get_or-set_other xs at i m 0 (eqb-false i at e))) (all i)

    go : (a b : Bool) → T (get_or (put_from f xs (at + 1) m) i 0) → T (get_or (cond a (set xs at m) (cond b xs (put_from f xs (at + 1) m))) i 0)
    go true b h = set_at (eqb i at) refl
    go false true h = all i
    go false false h = h

-- what is found for sure stands in some slot
pub look_sound : (A : Type 0) (f : ℕ) (hit : ℕ → Bool) (xs : List ℕ) (at : ℕ) → ((i : ℕ) → hit (get_or xs i 0) ≡ true → A) → look_from f hit xs at ≡ true → A
unfolding look_from
look_sound A zero hit xs at good h = absurd (false≢true h)
look_sound A (suc f) hit xs at good h = go (eqb (get_or xs at 0) 0) (hit (get_or xs at 0)) refl (look_sound A f hit xs (at + 1) good) h
  where
    go : (a b : Bool) → hit (get_or xs at 0) ≡ b → (look_from f hit xs (at + 1) ≡ true → A) → cond a false (cond b true (look_from f hit xs (at + 1))) ≡ true → A
    go true b e ih k = absurd (false≢true k)
    go false true e ih k = good at e
    go false false e ih k = ih k

-- numbers, as the code puts them

module _ (xs : List ℕ) (h from : ℕ) (e : from ≡ slot_of h (length xs)) where
  pub begun_room : looks < length xs → from + looks ≤ length xs
  begun_room k = rw e (slot_room h (length xs) k)

  module _ (m : ℕ) where
    module _ (ys : List ℕ) (q : ys ≡ put_from looks xs from m) where
      pub put_same_length : length ys ≡ length xs
      put_same_length = ap length q ∙ put_length looks xs from m

      pub place_put : ys ≡ placed xs h m
      unfolding placed
      place_put = q ∙ rw e

-- numbers by their hashes

pub placed_length : (xs : List ℕ) (h m : ℕ) → length (placed xs h m) ≡ length xs
unfolding placed
placed_length xs h m = put_length looks xs (slot_of h (length xs)) m

pub placed_all : (T : ℕ → Type 0) (xs : List ℕ) (h m : ℕ) → looks < length xs → ((i : ℕ) → T (get_or xs i 0)) → T m → (i : ℕ) → T (get_or (placed xs h m) i 0)
unfolding placed
placed_all T xs h m k = put_holds T looks xs (slot_of h (length xs)) m (slot_room h (length xs) k)

pub held_sound : (A : Type 0) (hit : ℕ → Bool) (xs : List ℕ) (h : ℕ) → ((i : ℕ) → hit (get_or xs i 0) ≡ true → A) → holds hit xs h ≡ true → A
unfolding holds
held_sound A hit xs h = look_sound A looks hit xs (slot_of h (length xs))
