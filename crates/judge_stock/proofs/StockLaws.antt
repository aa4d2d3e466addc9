-- Laws of a library's components in slots, as the code leaves them.
use Prim.Native.Nat.{ℕ, ◌+◌, ◌-◌, ◌/◌, ◌%◌, ◌^◌, ◌≤◌, ◌<◌}
use mathlib.Core.Path.{◌≡◌, refl, sym, ap, ◌∙◌}
use mathlib.Core.List.{List}
use mathlib.Core.Bool.{Bool, true, false, cond, ◌&&◌, true≢false, false≢true}
use native.Mathlib.Omega.{arith}
use borrow.Author.Tests.{lt-ltb, le-ltb}
use lib.Dec.{eqb}
use lib.IntN.{ℤ}
use lib.ListN.{length, get_or}
use Rattle.law.specs.Kinds.{electrical_kind, mechanical_kind}
use Rattle.rows.specs.RowKinds.{leads_component, is_of_kind}
use Rattle.rows_texts.specs.Names.{key_of}
use Rattle.names_slots.specs.Looks.{looks}
use Rattle.names_slots.specs.Hashes.{slot_of}
use Rattle.names_slots.specs.Slots as slot
use Rattle.names_slots.specs.Slots.{look_from, holds}
use Rattle.names_slots.proofs.SlotLaws.{slot_room, placed_length, look_empty, look_hit, look_more, look_over}
use Rattle.walk.specs.declared.Found.{Found}
use Rattle.walk.specs.declared.Found.TheVariants.{Row, Nothing, Refused}
use Rattle.walk.specs.declared.Turn.{Turn}
use Rattle.walk.specs.declared.steps.Turns.{Turns}
use Rattle.walk.specs.Turns.{Took, Over}
use Rattle.walk.specs.Walks.{begun, stops_by, is_row, Trace, done, stop, skip, row, trace_by, trace_at, trace_of}
use Rattle.walk.proofs.TurnsLaws.{Left, left_small, over_trace, took_left, took_past, took_trace}
use Rattle.judge_stock.specs.Stock.{packed_row, tagged, shows_by, shows_name, is_in, put_name, stocked_row, stocked_by, stock_in, stock_of, counted, components_in, components_of}

-- a hash in a part
module _ (h parts part : ℕ) where
  pub in_whole : parts < 2 → true ≡ is_in h parts part
  unfolding is_in
  in_whole l = rw (lt-ltb parts 2 l)

  pub in_part : 2 ≤ parts → eqb (h / 17_592_186_044_416 % parts) part ≡ is_in h parts part
  unfolding is_in
  in_part l = rw (le-ltb parts 2 l)

-- names into their slot
module _ (parts part : ℕ) (library places : List ℕ) (k : Bool) (y : List ℤ) (h : ℕ) (b : Bool) (e : h ≡ key_of library y) (i : b ≡ is_in h parts part) where
  here_in : b ≡ is_in (key_of library y) parts part
  here_in = i ∙ ap (λ (g : ℕ). is_in g parts part) e

  pub name_put : (p m : ℕ) (ys : List ℕ) → b ≡ true → p ≡ packed_row k y → m ≡ tagged h p → ys ≡ slot.placed places h m → ys ≡ put_name parts part library places k y
  unfolding put_name
  name_put p m ys t j q r = rw (sym here_in ∙ t) (r ∙ rw (q, j, e))

  pub name_not : b ≡ false → places ≡ put_name parts part library places k y
  unfolding put_name
  name_not t = rw (sym here_in ∙ t)

module _ (parts part : ℕ) (library places : List ℕ) (y : List ℤ) (p : Bool) (e : p ≡ is_of_kind y electrical_kind) where
  pub row_electrical : (ys : List ℕ) → p ≡ true → ys ≡ put_name parts part library places false y → ys ≡ stocked_row parts part library places y
  unfolding stocked_row
  row_electrical ys t k = rw (sym e ∙ t) k

  module _ (t : p ≡ false) (q : Bool) (d : q ≡ is_of_kind y mechanical_kind) where
    pub row_mechanical : (ys : List ℕ) → q ≡ true → ys ≡ put_name parts part library places true y → ys ≡ stocked_row parts part library places y
    unfolding stocked_row
    row_mechanical ys u k = rw (sym e ∙ t, sym d ∙ u) k

    pub row_other : q ≡ false → places ≡ stocked_row parts part library places y
    unfolding stocked_row
    row_other u = rw (sym e ∙ t, sym d ∙ u)

pub placed_same_length : (places ys : List ℕ) (h m : ℕ) → ys ≡ slot.placed places h m → length ys ≡ length places
placed_same_length places ys h m e = ap length e ∙ placed_length places h m

module _ (parts part : ℕ) (library places : List ℕ) where
  name_length : (k : Bool) (y : List ℤ) → length (put_name parts part library places k y) ≡ length places
  unfolding put_name
  name_length k y = go (is_in (key_of library y) parts part)
    where
      go : (b : Bool) → length (cond b (slot.placed places (key_of library y) (tagged (key_of library y) (packed_row k y))) places) ≡ length places
      go true = placed_length places (key_of library y) (tagged (key_of library y) (packed_row k y))
      go false = refl

  pub name_same_length : (k : Bool) (y : List ℤ) (ys : List ℕ) → ys ≡ put_name parts part library places k y → length ys ≡ length places
  name_same_length k y ys e = ap length e ∙ name_length k y

  stocked_length : (y : List ℤ) → length (stocked_row parts part library places y) ≡ length places
  unfolding stocked_row
  stocked_length y = go (is_of_kind y electrical_kind) (is_of_kind y mechanical_kind)
    where
      go : (a b : Bool) → length (cond a (put_name parts part library places false y) (cond b (put_name parts part library places true y) places)) ≡ length places
      go true b = name_length false y
      go false true = name_length true y
      go false false = refl

  pub row_same_length : (ys : List ℕ) (y : List ℤ) → ys ≡ stocked_row parts part library places y → length ys ≡ length places
  row_same_length ys y e = ap length e ∙ stocked_length y

  module _ (t : Turn) (p : Bool) (e : p ≡ is_row t.found) where
    pub turn_row : (ys : List ℕ) → p ≡ true → ys ≡ stocked_row parts part library places t.row → ys ≡ stocked_by parts part library places t
    unfolding stocked_by
    turn_row ys h i = rw (sym e ∙ h) i

    pub turn_none : p ≡ false → places ≡ stocked_by parts part library places t
    unfolding stocked_by
    turn_none h = rw (sym e ∙ h)

  -- line by line
  by_length : (t : Turn) → length (stocked_by parts part library places t) ≡ length places
  unfolding stocked_by
  by_length t = go (is_row t.found)
    where
      go : (a : Bool) → length (cond a (stocked_row parts part library places t.row) places) ≡ length places
      go true = stocked_length t.row
      go false = refl

  module _ (l : ℕ) (y : List ℤ) (t : Trace) where
    stock_on : (f : Found) → stops_by f ≡ false
        → stock_in parts part library places (trace_by f l y t) ≡ stock_in parts part library (cond (is_row f) (stocked_row parts part library places y) places) t
    unfolding stock_in
    stock_on Row h = refl
    stock_on Nothing h = refl
    stock_on (Refused m) h = absurd (true≢false h)

    stock_none : (f : Found) → stops_by f ≡ true → stock_in parts part library places (trace_by f l y t) ≡ places
    unfolding stock_in
    stock_none Row h = absurd (false≢true h)
    stock_none Nothing h = absurd (false≢true h)
    stock_none (Refused m) h = refl

module _ (parts part : ℕ) (library : List ℕ) where
  stock_in_length : (xs : List ℕ) (t : Trace) → length (stock_in parts part library xs t) ≡ length xs
  unfolding stock_in
  stock_in_length xs (done w) = refl
  stock_in_length xs (stop n l) = refl
  stock_in_length xs (skip l t) = stock_in_length xs t
  stock_in_length xs (row l y t) = stock_in_length (stocked_row parts part library xs y) t ∙ stocked_length parts part library xs y

  pub stock_of_length : (xs : List ℕ) → length (stock_of parts part library xs) ≡ length xs
  unfolding stock_of
  stock_of_length xs = stock_in_length xs (trace_of library)

-- components counted
module _ (n : ℕ) (t : Turn) (p : Bool) (e : p ≡ is_row t.found) (q : Bool) (i : q ≡ leads_component t.row) where
  pub one_more : (p && q) ≡ true → n + 1 ≡ counted n t
  unfolding counted
  one_more h = rw (sym e, sym i, h)

  pub no_more : (p && q) ≡ false → n ≡ counted n t
  unfolding counted
  no_more h = rw (sym e, sym i, h)

counted_few : (n : ℕ) (t : Turn) → counted n t ≤ n + 1
unfolding counted
counted_few n t = go (is_row t.found && leads_component t.row)
  where
    go : (b : Bool) → cond b (n + 1) n ≤ n + 1
    go true = omega arith
    go false = omega arith

module _ (n l : ℕ) (y : List ℤ) (t : Trace) where
  count_on : (f : Found) → stops_by f ≡ false → components_in n (trace_by f l y t) ≡ components_in (cond (is_row f && leads_component y) (n + 1) n) t
  unfolding components_in
  count_on Row h = refl
  count_on Nothing h = refl
  count_on (Refused m) h = absurd (true≢false h)

  count_none : (f : Found) → stops_by f ≡ true → components_in n (trace_by f l y t) ≡ n
  unfolding components_in
  count_none Row h = absurd (false≢true h)
  count_none Nothing h = absurd (false≢true h)
  count_none (Refused m) h = refl

-- what is left of a library, put behind what came, is all of it, and so is the number of its components
pub record Stocking (parts part : ℕ) (library places₀ places : List ℕ) (v : Turns) (n : ℕ) : Type 0 where
  pub of : Left library v
  pub left : stock_in parts part library places (trace_at library v.walk) ≡ stock_of parts part library places₀
  pub count : components_in n (trace_at library v.walk) ≡ components_of library
  pub few : n ≤ v.walk.at
  pub room : looks < length places
  pub long : length places ≡ length places₀

pub stock_start : (parts part : ℕ) (library places : List ℕ) (v : Turns) → v.file.now ≡ library → v.walk ≡ begun → looks < length places → Stocking parts part library places places v 0
unfolding stock_of components_of
stock_start parts part library places v f e k = record { of = record { of = f }; left = rw e; count = rw e; few = omega arith; room = k; long = refl }

module _ (parts part : ℕ) (library places₀ places : List ℕ) (v : Turns) (n : ℕ) (s : Stocking parts part library places₀ places v n) where
  pub stock_few : n < 2 ^ 62
  stock_few = omega (arith, s.few, left_small library v s.of)

  module _ (u : Turns) (o : Over v u) where
    pub stock_over : places ≡ stock_of parts part library places₀
    unfolding stock_in
    stock_over = sym (ap (stock_in parts part library places) (over_trace library v s.of u o)) ∙ s.left

    pub count_over : n ≡ components_of library
    unfolding components_in
    count_over = sym (ap (components_in n) (over_trace library v s.of u o)) ∙ s.count

  module _ (t : Turn) (u : Turns) (k : Took v t u) (y : Bool) (i : y ≡ stops_by t.found) where
    stocked : stock_in parts part library places (trace_by t.found t.line t.row (trace_at library u.walk)) ≡ stock_of parts part library places₀
    stocked = sym (ap (stock_in parts part library places) (took_trace library v s.of t u k)) ∙ s.left

    counted_all : components_in n (trace_by t.found t.line t.row (trace_at library u.walk)) ≡ components_of library
    counted_all = sym (ap (components_in n) (took_trace library v s.of t u k)) ∙ s.count

    pub stock_stop : y ≡ true → places ≡ stock_of parts part library places₀
    stock_stop j = sym (stock_none parts part library places t.line t.row (trace_at library u.walk) t.found (sym i ∙ j)) ∙ stocked

    pub count_stop : y ≡ true → n ≡ components_of library
    count_stop j = sym (count_none n t.line t.row (trace_at library u.walk) t.found (sym i ∙ j)) ∙ counted_all

    pub stock_more : (ys : List ℕ) (m : ℕ) → y ≡ false → ys ≡ stocked_by parts part library places t → m ≡ counted n t
        → Stocking parts part library places₀ ys u m
    unfolding stocked_by counted
    stock_more ys m j h c =
        let a = took_past library v s.of t u k in
        let b = s.few in
        let f : m ≤ n + 1 = rw c (counted_few n t) in
        record {
          of = took_left library v s.of t u k;
          left =
              ap (λ (z : List ℕ). stock_in parts part library z (trace_at library u.walk)) h
              ∙ sym (stock_on parts part library places t.line t.row (trace_at library u.walk) t.found (sym i ∙ j))
              ∙ stocked;
          count =
              ap (λ (z : ℕ). components_in z (trace_at library u.walk)) c
              ∙ sym (count_on n t.line t.row (trace_at library u.walk) t.found (sym i ∙ j))
              ∙ counted_all;
          few = omega arith;
          room = rw (ap length h ∙ by_length parts part library places t) s.room;
          long = ap length h ∙ by_length parts part library places t ∙ s.long;
        }

-- a look for a placement
pub record Looking (board library places : List ℕ) (k : Bool) (x : List ℤ) (h from i : ℕ) : Type 0 where
  pub key : h ≡ key_of board x
  pub left : look_from (looks - i) (shows_name board library k x) places (from + i) ≡ holds (shows_name board library k x) places (key_of board x)
  pub far : i ≤ looks
  pub room : from + looks ≤ length places

pub look_start : (board library places : List ℕ) (k : Bool) (x : List ℤ) (h from : ℕ) → looks < length places → h ≡ key_of board x → from ≡ slot_of h (length places)
    → Looking board library places k x h from 0
unfolding holds
look_start board library places k x h from l e i =
    let z : from + 0 ≡ from = omega arith in
    let j : from ≡ slot_of (key_of board x) (length places) = i ∙ ap (λ (g : ℕ). slot_of g (length places)) e in
    record {
      key = e;
      left = ap (look_from looks (shows_name board library k x) places) (z ∙ j);
      far = omega arith;
      room = rw j (slot_room (key_of board x) (length places) l);
    }

module _ (board library places : List ℕ) (k : Bool) (x : List ℤ) (h from i : ℕ) (s : Looking board library places k x h from i) where
  pub look_none : looks ≤ i → false ≡ holds (shows_name board library k x) places (key_of board x)
  look_none l = sym (look_over (shows_name board library k x) places from i l) ∙ s.left

  module _ (l : i < looks) where
    pub look_within : from + i < length places
    look_within = let r = s.room in omega arith

    pub look_stop : get_or places (from + i) 0 ≡ 0 → false ≡ holds (shows_name board library k x) places (key_of board x)
    look_stop e = sym (look_empty (shows_name board library k x) places from i l e) ∙ s.left

    module _ (n : get_or places (from + i) 0 ≡ 0 → ⊥) (b : Bool) (e : b ≡ shows_by board library h k x (get_or places (from + i) 0)) where
      shown : shows_name board library k x (get_or places (from + i) 0) ≡ b
      shown = ap (λ (g : ℕ). shows_by board library g k x (get_or places (from + i) 0)) (sym s.key) ∙ sym e

      pub look_found : b ≡ true → true ≡ holds (shows_name board library k x) places (key_of board x)
      look_found j = sym (look_hit (shows_name board library k x) places from i l n (shown ∙ j)) ∙ s.left

      pub look_on : b ≡ false → Looking board library places k x h from (i + 1)
      look_on j = record {
        key = s.key;
        left = sym (look_more (shows_name board library k x) places from i l n (shown ∙ j)) ∙ s.left;
        far = omega arith;
        room = s.room;
      }
