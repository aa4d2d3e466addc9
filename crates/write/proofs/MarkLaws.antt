-- Laws of names used twice among rows, found by marks from the last row back.
use Prim.Native.Nat.{ℕ, zero, suc, ◌+◌, ◌-◌, ◌≤◌, ◌<◌}
use mathlib.Core.Path.{◌≡◌, refl, sym, ap, ap₂, ◌∙◌}
use mathlib.Core.List.{List, [], ◌∷◌}
use mathlib.Core.Bool.{Bool, true, false, not, ◌&&◌, ◌||◌}
use native.Mathlib.Omega.{arith}
use borrow.Author.Tests.{not-true}
use lib.IntN.{ℤ}
use lib.ListN.{length, drop}
use Rattle.rows_texts.proofs.NameLaws.{same_key}
use Rattle.rows_texts.specs.Names.{same_names, key_of}
use Rattle.rows.specs.RowKinds.{leads_component}
use Rattle.basics.proofs.Bools.{or_left, or_right}
use Rattle.names_slots.specs.Marks.{may_hold}
use Rattle.names.specs.Marks.{held_if, marked_if}
use Rattle.names.proofs.KeyLaws.{marked_if_length, marked_keeps, marked_here, marked_not, not_used, among_all, asked_used, asked_not}
use Rattle.law.specs.Rows.{capacity}
use Rattle.write.specs.WholeRows.{whole_rows, row_in}
use Rattle.write.specs.Writable.{names_it, named_in, twice}
use Rattle.write.specs.Marks.{again_among, twice_among, Told, Doubted}
use Rattle.write.proofs.RowLaws.{row_here, row_none}

-- a row and those behind it, as the code decides on it
module _ (bytes : List ℕ) (ys : List (List ℤ)) (ds marks : List ℕ) (x : List ℤ) (b : Bool) (e : b ≡ leads_component x)
    (a : Bool) (i : a ≡ held_if (held_if b ds (key_of bytes x)) marks (key_of bytes x)) where
  pub again_used : (u : Bool) → a ≡ true → u ≡ named_in bytes x ys → u ≡ again_among bytes ds x ys
  unfolding again_among
  again_used u k j = j ∙ asked_used ds marks (key_of bytes x) (leads_component x) a (rw e at i) (named_in bytes x ys) k

  pub again_not : a ≡ false → Told bytes ys ds marks → false ≡ again_among bytes ds x ys
  unfolding again_among
  again_not k l = asked_not ds marks (key_of bytes x) (leads_component x) a (rw e at i) (named_in bytes x ys) k (l.clear x)

pub again_marked : (bytes ds marks : List ℕ) (x : List ℤ) (b : Bool) (zs : List ℕ) → b ≡ leads_component x → zs ≡ marked_if (held_if b ds (key_of bytes x)) marks (key_of bytes x)
    → zs ≡ marked_if (held_if (leads_component x) ds (key_of bytes x)) marks (key_of bytes x)
again_marked bytes ds marks x b zs e j = rw e at j

module _ (bytes : List ℕ) (ys : List (List ℤ)) (ds marks : List ℕ) (t : Told bytes ys ds marks) where
  pub told_few : 0 < length ds
  told_few = t.few

  pub told_room : 0 < length marks
  told_room = t.room

-- a name that is asked for and has no mark is named by none of the rows
record Clear (bytes : List ℕ) (p : ℕ → Bool) (rows : List (List ℤ)) (marks : List ℕ) : Type 0 where
  room : 0 < length marks
  clear : (x : List ℤ) → p (key_of bytes x) ≡ true → may_hold marks (key_of bytes x) ≡ false → named_in bytes x rows ≡ false

-- one row more takes no mark away, and marks the name that it has, if it is asked for
module _ (bytes : List ℕ) (p : ℕ → Bool) (ys : List (List ℤ)) (marks : List ℕ) (s : Clear bytes p ys marks) (y : List ℤ) (b : Bool) (f : leads_component y ≡ true → p (key_of bytes y) ≡ true → b ≡ true) where
  module _ (zs : List ℕ) (m : zs ≡ marked_if b marks (key_of bytes y)) where
    clear_here : (x : List ℤ) → p (key_of bytes x) ≡ true → may_hold zs (key_of bytes x) ≡ false → names_it bytes x y ≡ false
    unfolding names_it
    clear_here x a h =
        marked_not b marks zs (key_of bytes y) s.room m (leads_component y) (same_names bytes x bytes y) (key_of bytes x)
        (λ e. sym (same_key bytes x bytes y e)) (λ i j. f i (ap p (sym (same_key bytes x bytes y j)) ∙ a)) h

    clear_more : Clear bytes p (y ∷ ys) zs
    unfolding named_in
    clear_more = record {
      room = rw (marked_if_length b marks zs (key_of bytes y) m) s.room;
      clear = λ x a h. rw (clear_here x a h) (s.clear x a (marked_keeps b marks zs (key_of bytes y) s.room m (key_of bytes x) h));
    }

-- the rows from a number on, with the one before it
module _ (rows : List ℤ) (i : ℕ) (h : 0 < i) (w : i ≤ capacity (length rows)) (row : List ℤ) (a : row ≡ row_in rows (i - 1)) where
  behind : drop (i - 1) (whole_rows rows) ≡ row ∷ drop i (whole_rows rows)
  behind =
      let z : i - 1 + 1 ≡ i = omega arith in
      let k : i - 1 < capacity (length rows) = omega arith in
      row_here rows (i - 1) k ∙ rw (a, z)

all_behind : (rows : List ℤ) → drop (capacity (length rows)) (whole_rows rows) ≡ []
all_behind rows = row_none rows (capacity (length rows)) (omega arith)

-- a walk back that marks every name, and among the doubtful those that may have come behind; d tells whether there were any
pub record Doubting (rows : List ℤ) (bytes marks₀ marks ds₀ ds : List ℕ) (i : ℕ) (d : Bool) : Type 0 where
  within : i ≤ capacity (length rows)
  told : Clear bytes (λ (q : ℕ). true) (drop i (whole_rows rows)) marks
  room : 0 < length ds
  among : (es : List ℕ) → ((q : ℕ) → may_hold es q ≡ false → may_hold ds q ≡ false) → twice_among bytes es (drop i (whole_rows rows)) ≡ twice bytes (drop i (whole_rows rows))
  none : d ≡ false → twice bytes (drop i (whole_rows rows)) ≡ false
  long : length marks ≡ length marks₀
  wide : length ds ≡ length ds₀

pub doubt_start : (rows : List ℤ) (bytes marks ds : List ℕ) (n : ℕ) → 0 < length marks → 0 < length ds → n ≡ capacity (length rows) → Doubting rows bytes marks marks ds ds n false
unfolding twice twice_among named_in
doubt_start rows bytes marks ds n k l e = record {
  within = omega (arith, e);
  told = record { room = k; clear = λ x a h. rw (e, all_behind rows) };
  room = l;
  among = λ es c. rw (e, all_behind rows);
  none = λ q. rw (e, all_behind rows);
  long = refl;
  wide = refl;
}

-- among doubtful names that hold all that are used here, a row is what it is among all
agree_on : (bytes es : List ℕ) (x : List ℤ) (xs : List (List ℤ)) → twice_among bytes es xs ≡ twice bytes xs
    → (may_hold es (key_of bytes x) ≡ false → (leads_component x && named_in bytes x xs) ≡ false) → twice_among bytes es (x ∷ xs) ≡ twice bytes (x ∷ xs)
unfolding twice twice_among again_among
agree_on bytes es x xs i k = ap₂ ◌||◌ (among_all (leads_component x) (may_hold es (key_of bytes x)) (named_in bytes x xs) k) i

module _ (rows : List ℤ) (bytes marks₀ marks ds₀ ds : List ℕ) (i : ℕ) (d : Bool) (s : Doubting rows bytes marks₀ marks ds₀ ds i d) where
  pub doubt_length : length marks ≡ length marks₀
  doubt_length = s.long

  pub doubt_width : length ds ≡ length ds₀
  doubt_width = s.wide

  pub doubt_marks : 0 < length marks
  doubt_marks = s.told.room

  pub doubt_room : 0 < length ds
  doubt_room = s.room

  pub doubt_over : i ≤ 0 → Doubted bytes ds (whole_rows rows) d
  doubt_over h =
      let e : i ≡ 0 = omega arith in
      record { among = rw e at (s.among ds (λ q c. c)); none = λ k. rw e at (s.none k) }

  module _ (h : 0 < i) where
    pub doubt_within : i - 1 < capacity (length rows)
    doubt_within = let w = s.within in omega arith

    module _ (row : List ℤ) (a : row ≡ row_in rows (i - 1)) where
      -- a name that is not doubtful was not used
      unused : held_if (leads_component row) marks (key_of bytes row) ≡ false → (leads_component row && named_in bytes row (drop i (whole_rows rows))) ≡ false
      unfolding held_if
      unused c = not_used (leads_component row) (may_hold marks (key_of bytes row)) (named_in bytes row (drop i (whole_rows rows))) c (s.told.clear row refl)

      none_on : twice bytes (drop i (whole_rows rows)) ≡ false → held_if (leads_component row) marks (key_of bytes row) ≡ false → twice bytes (drop (i - 1) (whole_rows rows)) ≡ false
      unfolding twice
      none_on c k = rw (behind rows i h s.within row a, unused k) c

      pub doubt_more : (b z : Bool) (ys es : List ℕ) → b ≡ leads_component row → z ≡ held_if b marks (key_of bytes row) → ys ≡ marked_if b marks (key_of bytes row)
          → es ≡ marked_if (held_if b marks (key_of bytes row)) ds (key_of bytes row) → Doubting rows bytes marks₀ ys ds₀ es (i - 1) (d || z)
      doubt_more b z ys es n c m f =
          let key : ℕ = key_of bytes row in
          let doubt : Bool = held_if (leads_component row) marks key in
          let o : es ≡ marked_if doubt ds key = rw n at f in
          record {
            within = let w = doubt_within in omega arith;
            told = rw (behind rows i h s.within row a) (clear_more bytes (λ (q : ℕ). true) (drop i (whole_rows rows)) marks s.told row (leads_component row) (λ j k. j) ys (rw n at m));
            room = rw (marked_if_length doubt ds es key o) s.room;
            among = λ gs k. rw (behind rows i h s.within row a)
                (agree_on bytes gs row (drop i (whole_rows rows)) (s.among gs (λ q j. marked_keeps doubt ds es key s.room o q (k q j))) (λ j. unused (marked_here doubt ds es key s.room o (k key j))));
            none = λ k. none_on (s.none (or_left d z k)) (sym (rw n at c) ∙ or_right d z k);
            long = marked_if_length b marks ys key m ∙ s.long;
            wide = marked_if_length doubt ds es key o ∙ s.wide;
          }

-- what becomes of the names: none is doubtful; or they are gone through again
module _ (bytes ds : List ℕ) (rows : List (List ℤ)) (d : Bool) (s : Doubted bytes ds rows d) where
  pub sure_once : not d ≡ true → false ≡ twice bytes rows
  sure_once h = sym (s.none (not-true d h))

  pub decided : (r : Bool) → r ≡ twice_among bytes ds rows → r ≡ twice bytes rows
  decided r e = e ∙ s.among

-- rows from a number on
twice_behind : (bytes ds : List ℕ) (i : ℕ) (xs : List (List ℤ)) → twice_among bytes ds (drop i xs) ≡ true → twice_among bytes ds xs ≡ true
unfolding twice_among
twice_behind bytes ds zero xs h = h
twice_behind bytes ds (suc i) [] h = h
twice_behind bytes ds (suc i) (x ∷ xs) h = go (again_among bytes ds x xs) (twice_behind bytes ds i xs h)
  where
    go : (b : Bool) → twice_among bytes ds xs ≡ true → (b || twice_among bytes ds xs) ≡ true
    go true k = refl
    go false k = k

-- a walk back that decides on doubtful names
pub record Pairing (rows : List ℤ) (bytes ds marks₀ marks : List ℕ) (i : ℕ) : Type 0 where
  within : i ≤ capacity (length rows)
  few : 0 < length ds
  none : twice_among bytes ds (drop i (whole_rows rows)) ≡ false
  told : Clear bytes (may_hold ds) (drop i (whole_rows rows)) marks
  long : length marks ≡ length marks₀

pub pair_start : (rows : List ℤ) (bytes ds marks : List ℕ) (n : ℕ) → 0 < length ds → 0 < length marks → n ≡ capacity (length rows) → Pairing rows bytes ds marks marks n
unfolding twice_among named_in
pair_start rows bytes ds marks n k l e = record {
  within = omega (arith, e);
  few = k;
  none = rw (e, all_behind rows);
  told = record { room = l; clear = λ x a h. rw (e, all_behind rows) };
  long = refl;
}

module _ (rows : List ℤ) (bytes ds marks₀ marks : List ℕ) (i : ℕ) (s : Pairing rows bytes ds marks₀ marks i) where
  pub pair_told : Told bytes (drop i (whole_rows rows)) ds marks
  pair_told = record { few = s.few; room = s.told.room; clear = s.told.clear }

  pub pair_length : length marks ≡ length marks₀
  pair_length = s.long

  pub pair_marked : (b : Bool) (g : ℕ) (zs : List ℕ) → zs ≡ marked_if b marks g → length zs ≡ length marks₀
  pair_marked b g zs e = marked_if_length b marks zs g e ∙ s.long

  pub pair_over : i ≤ 0 → false ≡ twice_among bytes ds (whole_rows rows)
  pair_over h = let e : i ≡ 0 = omega arith in sym (rw e at s.none)

  module _ (h : 0 < i) where
    pub pair_within : i - 1 < capacity (length rows)
    pair_within = let w = s.within in omega arith

    module _ (row : List ℤ) (a : row ≡ row_in rows (i - 1)) (b : Bool) (e : b ≡ again_among bytes ds row (drop i (whole_rows rows))) where
      pair_here : twice_among bytes ds (drop (i - 1) (whole_rows rows)) ≡ (b || twice_among bytes ds (drop i (whole_rows rows)))
      unfolding twice_among
      pair_here = rw (behind rows i h s.within row a, e)

      pub pair_found : b ≡ true → true ≡ twice_among bytes ds (whole_rows rows)
      pair_found k = sym (twice_behind bytes ds (i - 1) (whole_rows rows) (rw k at pair_here))

      asked : leads_component row ≡ true → may_hold ds (key_of bytes row) ≡ true → held_if (leads_component row) ds (key_of bytes row) ≡ true
      unfolding held_if
      asked j k = rw (j, k)

      pub pair_more : (zs : List ℕ) → zs ≡ marked_if (held_if (leads_component row) ds (key_of bytes row)) marks (key_of bytes row) → b ≡ false → Pairing rows bytes ds marks₀ zs (i - 1)
      pair_more zs m k = record {
        within = let w = pair_within in omega arith;
        few = s.few;
        none = rw k at pair_here ∙ s.none;
        told = rw (behind rows i h s.within row a) (clear_more bytes (may_hold ds) (drop i (whole_rows rows)) marks s.told row (held_if (leads_component row) ds (key_of bytes row)) asked zs m);
        long = pair_marked (held_if (leads_component row) ds (key_of bytes row)) (key_of bytes row) zs m;
      }
