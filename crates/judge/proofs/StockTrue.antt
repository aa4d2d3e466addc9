-- What the slots hold, the library has.
use Prim.Native.Nat.{ℕ, zero, suc, ◌+◌, ◌*◌, ◌-◌, ◌/◌, ◌%◌, ◌≤◌, ◌<◌}
use mathlib.Core.Path.{◌≡◌, refl, sym, ap, subst, ◌∙◌}
use mathlib.Core.List.{List, [], ◌∷◌}
use mathlib.Core.Bool.{Bool, true, false, cond, ◌&&◌, false≢true}
use native.Mathlib.Omega.{arith}
use borrow.Author.Tests.{ltb-true, ltb-false}
use lib.Dec.{ltb, eqb}
use lib.IntN.{ℤ, pos, nat_abs}
use lib.ListN.{length, get_or, replicate, length-replicate, get_or-replicate}
use Rattle.law.specs.Kinds.{electrical_kind, mechanical_kind}
use Rattle.rows.specs.RowKinds.{component_kind, is_of_kind}
use Rattle.rows_texts.specs.Names.{key_of, same_names}
use Rattle.rows.specs.Columns.{geometry_length, geometry_start, kind_column, part_length, part_start}
use Rattle.basics.specs.Integers.{eq_z}
use Rattle.basics.proofs.Bools.{and_left, and_right, or_first, or_second, and_none}
use Rattle.names_slots.specs.Looks.{looks}
use Rattle.names_slots.specs.Slots as slot
use Rattle.names_slots.specs.Slots.{holds}
use Rattle.names_slots.proofs.SlotLaws.{placed_length, placed_all, held_sound}
use Rattle.walk.specs.Walks.{Trace, done, stop, skip, row, trace_of}
use Rattle.rows_texts.specs.Texts.{text_is, same_texts}
use Rattle.judge.specs.Entries.{entry_in, has_entry}
use Rattle.judge.specs.Stocked.{Stocked}
use Rattle.judge_stock.specs.Stock.{code_for, pack_of, packed_row, is_named, holds_name, tag_of, tagged, shows_by, shows_name, is_in, put_name, stocked_row, stock_in, stock_of}

-- an empty slot holds no name
empty_none : (board library : List ℕ) (k : Bool) (x : List ℤ) → holds_name board library k x 0 ≡ false
unfolding holds_name
empty_none board library true x = refl
empty_none board library false x = refl

none_shown : (board library : List ℕ) (k : Bool) (x : List ℤ) → shows_name board library k x 0 ≡ false
unfolding shows_by
none_shown board library k x = and_none (eqb 0 (tag_of (key_of board x))) (holds_name board library k x 0) (empty_none board library k x)

abbrev names_of : List ℕ → List ℕ → ℕ → ℕ → ℕ → ℕ → List ℤ → Bool
names_of board library a l b m x = same_texts library (pos a) (pos l) board (geometry_start x) (geometry_length x) && same_texts library (pos b) (pos m) board (part_start x) (part_length x)

-- a number tells what was put into it
module _ (board library : List ℕ) (a l b m : ℕ) (x : List ℤ) (h1 : a ≤ 16_777_216) (h2 : l ≤ 1_023) (h3 : m ≤ 1_023) (h4 : a + l ≤ b) (h5 : b - (a + l) ≤ 1_023) (c : ℕ) (hc : c ≤ 2) where
  abbrev number : ℕ
  number = (((a * 1_024 + l) * 1_024 + (b - (a + l))) * 1_024 + m) * 4 + c

  code_out : number % 4 ≡ c
  code_out = omega arith

  names_out : is_named board library number x ≡ names_of board library a l b m x
  unfolding is_named
  names_out =
      let e1 : number / 4_294_967_296 ≡ a = omega arith in
      let e2 : number / 4_194_304 % 1_024 ≡ l = omega arith in
      let e3 : number / 4_096 % 1_024 ≡ b - (a + l) = omega arith in
      let e4 : number / 4 % 1_024 ≡ m = omega arith in
      let e5 : a + l + (b - (a + l)) ≡ b = omega arith in
      rw (e1, e2, e3, e4, e5)

code_is : (j k : Bool) → eqb (code_for k) (code_for j) ≡ true → j ≡ k
code_is true true h = refl
code_is true false h = absurd (false≢true h)
code_is false true h = absurd (false≢true h)
code_is false false h = refl

code_low : (k : Bool) → code_for k ≤ 2
code_low true = omega arith
code_low false = omega arith

-- the kind and the names that it was packed from
pub record Packed (board library : List ℕ) (j k : Bool) (a l b m : ℕ) (x : List ℤ) : Type 0 where
  pub kind : j ≡ k
  pub names : names_of board library a l b m x ≡ true

whole_true : (board library : List ℕ) (j k : Bool) (a l b m : ℕ) (x : List ℤ) → a ≤ 16_777_216 → l ≤ 1_023 → m ≤ 1_023 → a + l ≤ b → b - (a + l) ≤ 1_023
    → holds_name board library j x ((((a * 1_024 + l) * 1_024 + (b - (a + l))) * 1_024 + m) * 4 + code_for k) ≡ true → Packed board library j k a l b m x
unfolding holds_name
whole_true board library j k a l b m x h1 h2 h3 h4 h5 h =
    let n : ℕ = (((a * 1_024 + l) * 1_024 + (b - (a + l))) * 1_024 + m) * 4 + code_for k in
    let o : n % 4 ≡ code_for k = code_out board library a l b m x h1 h2 h3 h4 h5 (code_for k) (code_low k) in
    record {
      kind = code_is j k (ap (λ (c : ℕ). eqb c (code_for j)) (sym o) ∙ and_left (eqb (n % 4) (code_for j)) (is_named board library n x) h);
      names = sym (names_out board library a l b m x h1 h2 h3 h4 h5 (code_for k) (code_low k)) ∙ and_right (eqb (n % 4) (code_for j)) (is_named board library n x) h;
    }

pack_true : (board library : List ℕ) (j k : Bool) (a l b m : ℕ) (x : List ℤ) → holds_name board library j x (pack_of k a l b m) ≡ true → Packed board library j k a l b m x
unfolding pack_of
pack_true board library j k a l b m x =
    go (ltb 16_777_216 a) (ltb 1_023 l) (ltb 1_023 m) (ltb b (a + l)) (ltb 1_023 (b - (a + l))) refl refl refl refl refl
  where
    no : holds_name board library j x 0 ≡ true → Packed board library j k a l b m x
    no h = absurd (false≢true (sym (empty_none board library j x) ∙ h))

    go : (c1 c2 c3 c4 c5 : Bool) → ltb 16_777_216 a ≡ c1 → ltb 1_023 l ≡ c2 → ltb 1_023 m ≡ c3 → ltb b (a + l) ≡ c4 → ltb 1_023 (b - (a + l)) ≡ c5
        → holds_name board library j x (cond c1 0 (cond c2 0 (cond c3 0 (cond c4 0 (cond c5 0 ((((a * 1_024 + l) * 1_024 + (b - (a + l))) * 1_024 + m) * 4 + code_for k)))))) ≡ true → Packed board library j k a l b m x
    go true c2 c3 c4 c5 e1 e2 e3 e4 e5 h = no h
    go false true c3 c4 c5 e1 e2 e3 e4 e5 h = no h
    go false false true c4 c5 e1 e2 e3 e4 e5 h = no h
    go false false false true c5 e1 e2 e3 e4 e5 h = no h
    go false false false false true e1 e2 e3 e4 e5 h = no h
    go false false false false false e1 e2 e3 e4 e5 h =
        whole_true board library j k a l b m x (ltb-false 16_777_216 a e1) (ltb-false 1_023 l e2) (ltb-false 1_023 m e3) (ltb-false b (a + l) e4) (ltb-false 1_023 (b - (a + l)) e5) h

-- two texts by their starts and lengths without sign
row_true : (board library : List ℕ) (j k : Bool) (y : List ℤ) (x : List ℤ) → holds_name board library j x (packed_row k y) ≡ true → (j ≡ k) × (same_names library y board x ≡ true)
unfolding packed_row same_names same_texts text_is
row_true board library j k y x h =
    let p = pack_true board library j k (nat_abs (geometry_start y)) (nat_abs (geometry_length y)) (nat_abs (part_start y)) (nat_abs (part_length y)) x h in
    (p.kind, p.names)

shown_true : (board library : List ℕ) (j k : Bool) (h : ℕ) (y : List ℤ) (x : List ℤ) → shows_name board library j x (tagged h (packed_row k y)) ≡ true
    → (j ≡ k) × (same_names library y board x ≡ true)
unfolding shows_by tagged
shown_true board library j k h y x e =
    let p : ℕ = packed_row k y in
    let z : (p * 128 + tag_of h) / 128 ≡ p = omega arith in
    row_true board library j k y x
    (sym (ap (holds_name board library j x) z) ∙ and_right (eqb ((p * 128 + tag_of h) % 128) (tag_of (key_of board x))) (holds_name board library j x ((p * 128 + tag_of h) / 128)) e)

-- a row of the library, in the slots
module _ (parts part : ℕ) (library places : List ℕ) (y : List ℤ) (s : Stocked library places) where
  abbrev Has : ℕ → Type 0
  Has e = (j : Bool) (board : List ℕ) (x : List ℤ) → shows_name board library j x e ≡ true → has_entry board library (component_kind j) x ≡ true

  placed_true : (k : Bool) → ((board : List ℕ) (x : List ℤ) → same_names library y board x ≡ true → has_entry board library (component_kind k) x ≡ true)
      → Stocked library (slot.placed places (key_of library y) (tagged (key_of library y) (packed_row k y)))
  placed_true k g = record {
    room = rw (placed_length places (key_of library y) (tagged (key_of library y) (packed_row k y))) s.room;
    has = placed_all Has places (key_of library y) (tagged (key_of library y) (packed_row k y)) s.room s.has (λ j board x h.
        let r = shown_true board library j k (key_of library y) y x h in
        ap (λ (i : Bool). has_entry board library (component_kind i) x) r.0 ∙ g board x r.1);
  }

  put_true : (k : Bool) → ((board : List ℕ) (x : List ℤ) → same_names library y board x ≡ true → has_entry board library (component_kind k) x ≡ true)
      → Stocked library (put_name parts part library places k y)
  unfolding put_name
  put_true k g = go (is_in (key_of library y) parts part)
    where
      go : (b : Bool) → Stocked library (cond b (slot.placed places (key_of library y) (tagged (key_of library y) (packed_row k y))) places)
      go true = placed_true k g
      go false = s

  stocked_true : ((k : ℤ) (board : List ℕ) (x : List ℤ) → (eq_z (kind_column y) k && same_names library y board x) ≡ true → has_entry board library k x ≡ true)
      → Stocked library (stocked_row parts part library places y)
  unfolding stocked_row
  stocked_true g = go (is_of_kind y electrical_kind) (is_of_kind y mechanical_kind) refl refl
    where
      go : (a b : Bool) → is_of_kind y electrical_kind ≡ a → is_of_kind y mechanical_kind ≡ b
          → Stocked library (cond a (put_name parts part library places false y) (cond b (put_name parts part library places true y) places))
      go true b e i = put_true false (λ board x h. g (pos electrical_kind) board x (rw (e, h)))
      go false true e i = put_true true (λ board x h. g (pos mechanical_kind) board x (rw (i, h)))
      go false false e i = s

-- all lines of the library
abbrev Shown : List ℕ → Trace → Type 0
Shown library t = (k : ℤ) (board : List ℕ) (x : List ℤ) → entry_in board library k x t ≡ true → has_entry board library k x ≡ true

module _ (parts part : ℕ) (library : List ℕ) where
  stock_in_lem : (places : List ℕ) (t : Trace) → Shown library t → Stocked library places → Stocked library (stock_in parts part library places t)
  unfolding stock_in entry_in
  stock_in_lem places (done w) g s = s
  stock_in_lem places (stop n l) g s = s
  stock_in_lem places (skip l t) g s = stock_in_lem places t g s
  stock_in_lem places (row l y t) g s =
      stock_in_lem (stocked_row parts part library places y) t
      (λ k board x h. g k board x (or_second (eq_z (kind_column y) k && same_names library y board x) (entry_in board library k x t) h))
      (stocked_true parts part library places y s (λ k board x h. g k board x (or_first (eq_z (kind_column y) k && same_names library y board x) (entry_in board library k x t) h)))

  stock_true : (places : List ℕ) → Stocked library places → Stocked library (stock_of parts part library places)
  unfolding stock_of has_entry
  stock_true places = stock_in_lem places (trace_of library) (λ k board x h. h)

-- slots before anything is put into them
get_d_past : (xs : List ℕ) (i : ℕ) → length xs ≤ i → get_or xs i 0 ≡ 0
get_d_past [] i h = refl
get_d_past (x ∷ xs) zero h = absurd (omega arith)
get_d_past (x ∷ xs) (suc i) h = get_d_past xs i (omega arith)

abbrev empty : ℕ → List ℕ
empty n = replicate n 0

empty_length : (n : ℕ) → length (empty n) ≡ n
empty_length n = let z : ℕ = 0 in length-replicate n z

none_held : (n i : ℕ) → get_or (empty n) i 0 ≡ 0
none_held n i = go (ltb i n) refl
  where
    go : (b : Bool) → ltb i n ≡ b → get_or (empty n) i 0 ≡ 0
    go true e = get_or-replicate n i 0 0 (ltb-true i n e)
    go false e = get_d_past (empty n) i (rw (empty_length n) (ltb-false i n e))

pub empty_stocked : (library : List ℕ) (n : ℕ) → looks < n → Stocked library (empty n)
empty_stocked library n h = record {
  room = rw (empty_length n) h;
  has = λ i k board x e. absurd (false≢true (sym (none_shown board library k x) ∙ sym (ap (shows_name board library k x) (none_held n i)) ∙ e));
}

-- more of the library in them
pub filled_stocked : (parts part : ℕ) (library places ys : List ℕ) → Stocked library places → ys ≡ stock_of parts part library places → Stocked library ys
filled_stocked parts part library places ys s e = subst (Stocked library) (sym e) (stock_true parts part library places s)

-- as the code asks them
module _ (library places : List ℕ) (s : Stocked library places) where
  pub stocked_room : looks < length places
  stocked_room = s.room

  module _ (k : Bool) (board : List ℕ) (x : List ℤ) (p : Bool) (e : p ≡ holds (shows_name board library k x) places (key_of board x)) where
    pub stocked_found : p ≡ true → true ≡ has_entry board library (component_kind k) x
    stocked_found h = sym (held_sound (has_entry board library (component_kind k) x ≡ true) (shows_name board library k x) places (key_of board x) (λ i. s.has i k board x) (sym e ∙ h))

pub stocked_slow : (board library : List ℕ) (k : Bool) (z : ℤ) (x : List ℤ) (r : Bool) → z ≡ component_kind k → r ≡ has_entry board library z x → r ≡ has_entry board library (component_kind k) x
stocked_slow board library k z x r e i = i ∙ rw e
