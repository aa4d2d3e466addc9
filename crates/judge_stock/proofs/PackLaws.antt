-- Laws of two names in one number, as the code leaves them.
use Prim.Native.Nat.{ℕ, ◌+◌, ◌*◌, ◌-◌, ◌/◌, ◌%◌, ◌^◌, ◌≤◌, ◌<◌}
use mathlib.Core.Path.{◌≡◌, refl, sym, ◌∙◌}
use mathlib.Core.List.{List}
use mathlib.Core.Bool.{Bool, true, false, cond}
use native.Mathlib.Omega.{arith}
use mir.Syntax.{w64}
use mir.Val.{Fits, SFits, to_z}
use mir.ValLaws.{to_z-of_z, to_z_pos}
use borrow.Author.Tests.{lt-ltb, le-ltb, ltb-false, eq-eqb, ne_eqb}
use lib.Dec.{ltb}
use lib.IntN.{ℤ, pos, nat_abs}
use Rattle.basics.proofs.Integers.{back}
use Rattle.rows.specs.Columns.{geometry_length, geometry_start, part_length, part_start}
use Rattle.rows_texts.specs.Texts.{same_texts}
use Rattle.judge_stock.specs.Stock.{code_for, pack_of, packed_row, is_named, holds_name, tag_of, tagged, shows_by}

-- names in one number
module _ (k : Bool) (a l b m : ℕ) where
  pub pack_far : 16_777_216 < a → 0 ≡ pack_of k a l b m
  unfolding pack_of
  pack_far h = rw (lt-ltb 16_777_216 a h)

  module _ (h1 : a ≤ 16_777_216) where
    pub pack_first_long : 1_023 < l → 0 ≡ pack_of k a l b m
    unfolding pack_of
    pack_first_long h = rw (le-ltb 16_777_216 a h1, lt-ltb 1_023 l h)

    module _ (h2 : l ≤ 1_023) where
      pub pack_second_long : 1_023 < m → 0 ≡ pack_of k a l b m
      unfolding pack_of
      pack_second_long h = rw (le-ltb 16_777_216 a h1, le-ltb 1_023 l h2, lt-ltb 1_023 m h)

      module _ (h3 : m ≤ 1_023) where
        pub pack_before : b < a + l → 0 ≡ pack_of k a l b m
        unfolding pack_of
        pack_before h = rw (le-ltb 16_777_216 a h1, le-ltb 1_023 l h2, le-ltb 1_023 m h3, lt-ltb b (a + l) h)

        module _ (h4 : a + l ≤ b) where
          pub pack_apart : 1_023 < b - (a + l) → 0 ≡ pack_of k a l b m
          unfolding pack_of
          pack_apart h = rw (le-ltb 16_777_216 a h1, le-ltb 1_023 l h2, le-ltb 1_023 m h3, le-ltb b (a + l) h4, lt-ltb 1_023 (b - (a + l)) h)

          pub pack_is : (c : ℕ) → b - (a + l) ≤ 1_023 → c ≡ code_for k → (((a * 1_024 + l) * 1_024 + (b - (a + l))) * 1_024 + m) * 4 + c ≡ pack_of k a l b m
          unfolding pack_of
          pack_is c h e = rw (le-ltb 16_777_216 a h1, le-ltb 1_023 l h2, le-ltb 1_023 m h3, le-ltb b (a + l) h4, le-ltb 1_023 (b - (a + l)) h, e)

pub code_small : (k : Bool) (c : ℕ) → c ≡ code_for k → c ≤ 2
code_small true c e = rw e (omega arith)
code_small false c e = rw e (omega arith)

pub pack_fits : (k : Bool) (a l g m c : ℕ) → a ≤ 16_777_216 → l ≤ 1_023 → m ≤ 1_023 → g ≤ 1_023 → c ≡ code_for k → Fits w64 ((((a * 1_024 + l) * 1_024 + g) * 1_024 + m) * 4 + c)
pack_fits k a l g m c h1 h2 h3 h4 e = omega (arith, code_small k c e)

pub pack_row : (k : Bool) (y : List ℤ) (p q s t r : ℕ) → r ≡ pack_of k p q s t → p ≡ nat_abs (back (geometry_start y)) → q ≡ nat_abs (back (geometry_length y)) → s ≡ nat_abs (back (part_start y)) → t ≡ nat_abs (back (part_length y))
    → SFits w64 (geometry_start y) → SFits w64 (geometry_length y) → SFits w64 (part_start y) → SFits w64 (part_length y) → r ≡ packed_row k y
unfolding packed_row
pack_row k y p q s t r i e1 e2 e3 e4 f1 f2 f3 f4 =
    i ∙ rw (e1, e2, e3, e4, to_z-of_z w64 (geometry_start y) f1, to_z-of_z w64 (geometry_length y) f2, to_z-of_z w64 (part_start y) f3, to_z-of_z w64 (part_length y) f4)

-- and out of it
module _ (board library : List ℕ) (e : ℕ) (x : List ℤ) (fits : Fits w64 e) (p : Bool) (f1 : SFits w64 (geometry_start x)) (f2 : SFits w64 (geometry_length x))
    (i : p ≡ same_texts library (to_z w64 (e / 4_294_967_296)) (to_z w64 (e / 4_194_304 % 1_024)) board (back (geometry_start x)) (back (geometry_length x))) where
  first_text : p ≡ same_texts library (pos (e / 4_294_967_296)) (pos (e / 4_194_304 % 1_024)) board (geometry_start x) (geometry_length x)
  first_text =
      i ∙ rw (to_z_pos w64 (e / 4_294_967_296) (omega arith), to_z_pos w64 (e / 4_194_304 % 1_024) (omega arith), to_z-of_z w64 (geometry_start x) f1, to_z-of_z w64 (geometry_length x) f2)

  pub named_not : p ≡ false → false ≡ is_named board library e x
  unfolding is_named
  named_not h = rw (sym first_text ∙ h)

  pub named_by : (q : Bool) → p ≡ true → SFits w64 (part_start x) → SFits w64 (part_length x)
      → q ≡ same_texts library (to_z w64 (e / 4_294_967_296 + e / 4_194_304 % 1_024 + e / 4_096 % 1_024)) (to_z w64 (e / 4 % 1_024)) board (back (part_start x)) (back (part_length x)) → q ≡ is_named board library e x
  unfolding is_named
  named_by q h f3 f4 j =
      rw (sym first_text ∙ h)
      (j
      ∙ rw (to_z_pos w64 (e / 4_294_967_296 + e / 4_194_304 % 1_024 + e / 4_096 % 1_024) (omega arith), to_z_pos w64 (e / 4 % 1_024) (omega arith), to_z-of_z w64 (part_start x) f3, to_z-of_z w64 (part_length x) f4))

module _ (board library : List ℕ) (k : Bool) (x : List ℤ) (e c : ℕ) (i : c ≡ code_for k) where
  pub other_kind : (e % 4 ≡ c → ⊥) → false ≡ holds_name board library k x e
  unfolding holds_name
  other_kind h = rw (sym i, ne_eqb (e % 4) c h)

  pub same_kind : (r : Bool) → e % 4 ≡ c → r ≡ is_named board library e x → r ≡ holds_name board library k x e
  unfolding holds_name
  same_kind r h j = rw (sym i, eq-eqb (e % 4) c h) j

-- a packed number leaves room for a tag
pub pack_small : (k : Bool) (y : List ℤ) (r : ℕ) → r ≡ packed_row k y → r < 2 ^ 57
unfolding packed_row pack_of
pack_small k y r e =
    rw e
    (go (nat_abs (geometry_start y)) (nat_abs (geometry_length y)) (nat_abs (part_start y)) (nat_abs (part_length y)) (ltb 16_777_216 (nat_abs (geometry_start y))) (ltb 1_023 (nat_abs (geometry_length y)))
    (ltb 1_023 (nat_abs (part_length y))) (ltb (nat_abs (part_start y)) (nat_abs (geometry_start y) + nat_abs (geometry_length y))) (ltb 1_023 (nat_abs (part_start y) - (nat_abs (geometry_start y) + nat_abs (geometry_length y))))
    refl refl refl refl)
  where
    go : (a l b m : ℕ) (c1 c2 c3 c4 c5 : Bool) → ltb 16_777_216 a ≡ c1 → ltb 1_023 l ≡ c2 → ltb 1_023 m ≡ c3 → ltb 1_023 (b - (a + l)) ≡ c5
        → cond c1 0 (cond c2 0 (cond c3 0 (cond c4 0 (cond c5 0 ((((a * 1_024 + l) * 1_024 + (b - (a + l))) * 1_024 + m) * 4 + code_for k))))) < 2 ^ 57
    go a l b m true c2 c3 c4 c5 e1 e2 e3 e5 = omega arith
    go a l b m false true c3 c4 c5 e1 e2 e3 e5 = omega arith
    go a l b m false false true c4 c5 e1 e2 e3 e5 = omega arith
    go a l b m false false false true c5 e1 e2 e3 e5 = omega arith
    go a l b m false false false false true e1 e2 e3 e5 = omega arith
    go a l b m false false false false false e1 e2 e3 e5 =
        omega (arith, code_small k (code_for k) refl, ltb-false 16_777_216 a e1, ltb-false 1_023 l e2, ltb-false 1_023 m e3, ltb-false 1_023 (b - (a + l)) e5)

module _ (h e t : ℕ) (g : t ≡ tag_of h) where
  tag_small : t < 128
  tag_small = rw g (omega arith)

  pub tag_fits : e < 2 ^ 57 → Fits w64 (e * 128 + t)
  tag_fits l = omega (arith, tag_small)

  pub tag_is : e * 128 + t ≡ tagged h e
  unfolding tagged
  tag_is = rw g

pub tag_room : (e : ℕ) → e < 2 ^ 57 → Fits w64 (e * 128)
tag_room e l = omega arith

-- a tag that differs, or agrees
module _ (board library : List ℕ) (h e : ℕ) (k : Bool) (x : List ℤ) (t : ℕ) (g : t ≡ tag_of h) where
  pub other_tag : (e % 128 ≡ t → ⊥) → false ≡ shows_by board library h k x e
  unfolding shows_by
  other_tag n = rw (sym g, ne_eqb (e % 128) t n)

  pub same_tag : (r : Bool) → e % 128 ≡ t → r ≡ holds_name board library k x (e / 128) → r ≡ shows_by board library h k x e
  unfolding shows_by
  same_tag r n i = rw (sym g, eq-eqb (e % 128) t n) i
