-- Laws of the pieces of a line, as the code leaves them.
use Prim.Native.Nat.{ℕ, ◌+◌, ◌-◌, ◌^◌, ◌≤◌, ◌<◌}
use mathlib.Core.Path.{◌≡◌, refl, sym, ap, ◌∙◌}
use mathlib.Core.List.{List, [], ◌∷◌, ◌++◌}
use mathlib.Core.Bool.{Bool, true, false, cond}
use native.Mathlib.Omega.{arith}
use mir.Syntax.{w64}
use mir.Val.{Fits, SFits}
use mir.ValLaws.{to_z-of_z}
use borrow.Author.Tests.{ne_eqb, leb-true, ltb-true, ltb-false, lt-ltb, le-ltb}
use lib.Dec.{ltb, leb, eqb}
use lib.IntN.{ℤ, nat_abs}
use lib.ListN.{length, take, drop, length-append, length-take, length-drop}
use Rattle.rows.specs.Columns.{column_at}
use Rattle.basics.proofs.Integers.{back}
use Rattle.basics.proofs.Bools.{and_left}
use Rattle.law.specs.Bytes.{ascii}
use Rattle.law.specs.Fields.{field}
use Rattle.law.specs.Limits.{largest_length, largest_integer}
use Rattle.number_print.specs.Printing.{Wrote}
use Rattle.law.specs.Printing.{printed_count, printed_integer}
use Rattle.number_print.proofs.PrintLaws.{wrote_length, wrote_more}
use Rattle.law.specs.declared.Role.{Role}
use Rattle.law.specs.declared.Role.TheVariants.{Opening as opening, Closing as closing, Prop as prop}
use Rattle.law.specs.Kinds.{section_of, role_of}
use Rattle.form_words.specs.Padded.{trimmed, no_keyword, name_row, closing_row, word_row}
use Rattle.write_texts.proofs.WordLaws.{some_byte, trimmed_short}
use Rattle.law.specs.Values.{number}
use Rattle.law.specs.Fits.{is_empty, largest, within, fits}
use Rattle.law.proofs.LargestLaws.{largest_most}
use Rattle.law.specs.declared.Rules.{Rules}
use Rattle.law.specs.declared.Rules.TheVariants.{Idf3}
use Rattle.law.specs.declared.Words.{Words}
use Rattle.law.specs.declared.Limit.{Limit}
use Rattle.law.specs.declared.Limit.TheVariants.{Length as L, NotBelow as L0, Above as Lp, Included as A, Rotation as R, Version as Ver}
use Rattle.law.specs.declared.Texts.{Texts}
use Rattle.law.specs.declared.FieldType.{FieldType}
use Rattle.basics.proofs.Meanings.{meaning_written}
use Rattle.write_texts.specs.Meant.{meant_text}
use Rattle.law.specs.declared.FieldType.TheVariants.{Text as T, Date as D, Integer as I, Number as N, Word as W}
use Rattle.form_words.proofs.RowLaws.{word_held}
use Rattle.law.specs.Canonical.{needs_quotes, version_text, printed_number, canonical_field, written}
use Rattle.order.specs.Automaton.{is_role}
use Rattle.rows_texts.specs.Texts.{text_at}
use Rattle.law.specs.Answers.{limit}
use Rattle.write_columns.specs.Columns.{lies_in, range_fits, integer_fits, field_fits, column_fits}
use Rattle.write_columns.proofs.ColumnLaws.{lies_ends}
use Rattle.write_lines.specs.LineText.{anywhere, up_to, mark_of, name_at, behind_of, front_text, part_text, value_text, ended_text, column_text}

-- a piece by another name
module _ {p q : List ℕ} where
  pub length_as : {x : ℕ} → x ≡ length p → p ≡ q → x ≡ length q
  length_as h e = h ∙ ap length e

  pub room_as : (at m : ℕ) → at + length q ≤ m → p ≡ q → at + length p ≤ m
  room_as at m h e = omega (arith, ap length e)

  pub wrote_as : {o n : List ℕ} {at r : ℕ} → Wrote o n at r p → p ≡ q → Wrote o n at r q
  wrote_as w e = rw e at w

-- the byte behind a field
pub behind_last : (n : ℕ) → n ≡ 0 → 10 ≡ behind_of n
behind_last n h = rw h

pub behind_more : (n : ℕ) → (n ≡ 0 → ⊥) → 32 ≡ behind_of n
behind_more n h = rw (ne_eqb n 0 h)

-- marks
mark_short : (role : Role) → length (mark_of role) ≤ 4
mark_short role = go (is_role role opening) (is_role role closing) (is_role role prop)
  where
    go : (a b c : Bool) → length (cond a (ascii ".") (cond b (ascii ".") (cond c (ascii "PROP") []))) ≤ 4
    go true b c = omega arith
    go false true c = omega arith
    go false false true = omega arith
    go false false false = omega arith

-- what stands before fields
empty_none : (s : List ℕ) → length s ≡ 0 → is_empty s ≡ true
unfolding is_empty
empty_none [] h = refl
empty_none (b ∷ s) h = absurd (omega arith)

module _ (role : Role) (s n m : ℕ) (e : m ≡ length (mark_of role)) where
  front_none : m ≡ 0 → front_text role s n ≡ []
  unfolding front_text
  front_none h = rw (empty_none (mark_of role) (sym e ∙ h))

  front_some : (m ≡ 0 → ⊥) → front_text role s n ≡ mark_of role ++ (trimmed (name_at role s) ++ behind_of n ∷ [])
  unfolding front_text
  front_some h = rw (some_byte (mark_of role) (λ z. h (e ∙ z)))

  front_length : (m ≡ 0 → ⊥) → length (front_text role s n) ≡ length (mark_of role) + length (trimmed (name_at role s)) + 1
  front_length h = omega (arith, ap length (front_some h), length-append (mark_of role) (trimmed (name_at role s) ++ behind_of n ∷ []), length-append (trimmed (name_at role s)) (behind_of n ∷ []))

module _ (v : Rules) (k n m : ℕ) (role : Role) (i : role ≡ role_of v k) (e : m ≡ length (mark_of role)) where
  abbrev s : ℕ
  s = section_of v k

  moved : front_text role s n ≡ front_text (role_of v k) s n
  moved = rw i

  pub front_len_none : m ≡ 0 → 0 ≡ length (front_text (role_of v k) s n)
  front_len_none h = sym (ap length (front_none role s n m e h)) ∙ ap length moved

  pub front_put_none : (o : List ℕ) (at : ℕ) → m ≡ 0 → Wrote o o at at (front_text (role_of v k) s n)
  front_put_none o at h = rw (sym moved ∙ front_none role s n m e h) (record { is = refl; next = omega arith })

  pub mark_room : (o : List ℕ) (at : ℕ) → (m ≡ 0 → ⊥) → at + length (front_text (role_of v k) s n) ≤ length o → at + length (mark_of role) ≤ length o
  mark_room o at h l = omega (arith, ap length moved, front_length role s n m e h)

  module _ (t : ℕ) (j : t ≡ s) (row : List ℕ) (f : row ≡ name_at role t) where
    named : row ≡ name_at role s
    named = rw j at f

    pub front_len_mark : length row ≡ 20 → (x : ℕ) → x ≡ length (trimmed row) → Fits w64 (m + x)
    front_len_mark w x g = omega (arith, e, mark_short role, trimmed_short row)

    pub front_len_fits : length row ≡ 20 → (x : ℕ) → x ≡ length (trimmed row) → Fits w64 (m + x + 1)
    front_len_fits w x g = omega (arith, e, mark_short role, trimmed_short row)

    pub front_len_some : (x : ℕ) → (m ≡ 0 → ⊥) → x ≡ length (trimmed row) → m + x + 1 ≡ length (front_text (role_of v k) s n)
    front_len_some x h g = omega (arith, ap length moved, front_length role s n m e h, e, g, ap (λ (l : List ℕ). length (trimmed l)) named)

    module _ (o p : List ℕ) (at a : ℕ) (h : m ≡ 0 → ⊥) (l : at + length (front_text (role_of v k) s n) ≤ length o) (w : Wrote o p at a (mark_of role)) where
      pub name_room : a + length (trimmed row) ≤ length p
      name_room = omega (arith, ap length moved, front_length role s n m e h, w.next, wrote_length w, ap (λ (l : List ℕ). length (trimmed l)) named)

      module _ (q : List ℕ) (b : ℕ) (x : Wrote p q a b (trimmed row)) where
        pub behind_room : b < length q
        behind_room = omega (arith, ap length moved, front_length role s n m e h, w.next, x.next, wrote_length w, wrote_length x, ap (λ (l : List ℕ). length (trimmed l)) named)

        pub front_put : (z : List ℕ) (c d : ℕ) → d ≡ behind_of n → Wrote q z b c (d ∷ []) → Wrote o z at c (front_text (role_of v k) s n)
        front_put z c d g y =
            let u : Wrote p z a c (trimmed (name_at role s) ++ behind_of n ∷ []) = rw (sym named, sym g) (wrote_more x y) in
            rw (sym moved ∙ front_some role s n m e h) (wrote_more w u)

-- a text or a date by its start and its length
module _ (bytes : List ℕ) (a l : ℤ) (h : lies_in (length bytes) a l ≡ true) (fa : SFits w64 a) (fl : SFits w64 l) (p n : ℕ) (i : p ≡ nat_abs (back a)) (j : n ≡ nat_abs (back l)) where
  first_is : p ≡ nat_abs a
  first_is = i ∙ ap nat_abs (to_z-of_z w64 a fa)

  long_is : n ≡ nat_abs l
  long_is = j ∙ ap nat_abs (to_z-of_z w64 l fl)

  pub part_end : p + n ≤ length bytes
  part_end = omega (arith, lies_ends (length bytes) a l h, first_is, long_is)

  pub part_start_lem : p ≤ length bytes
  part_start_lem = omega (arith, part_end)

  pub part_fits : length bytes < 2 ^ 64 → Fits w64 (p + n)
  part_fits k = omega (arith, part_end)

  pub part_is : take (p + n - p) (drop p bytes) ≡ text_at bytes a l
  part_is = let z : p + n - p ≡ nat_abs l = omega (arith, long_is) in rw (z, first_is)

-- the bytes of it, as they were asked for
pub lies_back : (n : ℕ) (a l : ℤ) → SFits w64 a → SFits w64 l → lies_in n a l ≡ true → lies_in n (back a) (back l) ≡ true
lies_back n a l fa fl h = rw (to_z-of_z w64 a fa, to_z-of_z w64 l fl) h

module _ (bytes : List ℕ) (a l : ℤ) (fa : SFits w64 a) (fl : SFits w64 l) (s : List ℕ) (e : s ≡ text_at bytes (back a) (back l)) where
  pub date_is : s ≡ text_at bytes a l
  date_is = e ∙ rw (to_z-of_z w64 a fa, to_z-of_z w64 l fl)

  pub text_long : (k : Texts) (x : ℕ) → x ≡ length (written (field (needs_quotes s) s)) → x ≡ length (part_text k bytes a l)
  text_long k x i = i ∙ rw date_is (meaning_written (T k) (text_at bytes a l))

  pub text_is_lem : (k : Texts) → meant_text k s ≡ part_text k bytes a l
  text_is_lem k = ap (λ (u : List ℕ). meant_text k u) date_is

text_length_lem : (bytes : List ℕ) (a l : ℤ) → lies_in (length bytes) a l ≡ true → length (text_at bytes a l) ≡ nat_abs l
text_length_lem bytes a l h = omega (arith, length-take (nat_abs l) (drop (nat_abs a) bytes), length-drop (nat_abs a) bytes, lies_ends (length bytes) a l h)

-- numbers
pub version_is : (v : Rules) → ascii "3.0" ≡ version_text v
version_is Idf3 = refl

pub version_len : (v : Rules) → 3 ≡ length (version_text v)
version_len Idf3 = refl

module _ (v : Rules) (l : Limit) (z : ℤ) where
  pub number_version : l ≡ Ver → version_text v ≡ printed_number v l z
  number_version h = rw h

  module _ (f : SFits w64 z) where
    pub number_length : l ≡ L → printed_count (back z) ≡ printed_number v l z
    number_length h = rw (h, to_z-of_z w64 z f)

    pub number_not_below : l ≡ L0 → printed_count (back z) ≡ printed_number v l z
    number_not_below h = rw (h, to_z-of_z w64 z f)

    pub number_above : l ≡ Lp → printed_count (back z) ≡ printed_number v l z
    number_above h = rw (h, to_z-of_z w64 z f)

    pub number_included : l ≡ A → printed_count (back z) ≡ printed_number v l z
    number_included h = rw (h, to_z-of_z w64 z f)

    pub number_rotation : l ≡ R → printed_count (back z) ≡ printed_number v l z
    number_rotation h = rw (h, to_z-of_z w64 z f)

pub small_back : (z : ℤ) → SFits w64 z → nat_abs z ≤ largest_length → nat_abs (back z) ≤ largest_length
small_back z f h = rw (to_z-of_z w64 z f) h

-- values
module _ (v : Rules) (t : FieldType) (bytes : List ℕ) (a b : ℤ) (fa : SFits w64 a) where
  module _ (fb : SFits w64 b) where
    pub value_text_lem : (k : Texts) → t ≡ T k → part_text k bytes (back a) (back b) ≡ value_text v t bytes a b
    unfolding value_text canonical_field
    value_text_lem k h = rw (h, to_z-of_z w64 a fa, to_z-of_z w64 b fb)

    pub value_date : t ≡ D → text_at bytes (back a) (back b) ≡ value_text v t bytes a b
    unfolding value_text canonical_field written
    value_date h = rw (h, to_z-of_z w64 a fa, to_z-of_z w64 b fb)

    module _ (g : field_fits (anywhere v) t bytes a b ≡ true) where
      lies_in_lem : range_fits (anywhere v) t bytes a b ≡ true → lies_in (length bytes) (back a) (back b) ≡ true
      unfolding range_fits
      lies_in_lem k = rw (to_z-of_z w64 a fa, to_z-of_z w64 b fb) (and_left (lies_in (length bytes) a b) _ k)

      pub lies_text : (k : Texts) → t ≡ T k → lies_in (length bytes) (back a) (back b) ≡ true
      lies_text k h = lies_in_lem (rw h (rw h at g))

      pub lies_date : t ≡ D → lies_in (length bytes) (back a) (back b) ≡ true
      lies_date h = lies_in_lem (rw h (rw h at g))

      pub date_length : (n : ℕ) → t ≡ D → n ≡ nat_abs (back b) → n ≡ length (value_text v t bytes a b)
      date_length n h e = e ∙ sym (text_length_lem bytes (back a) (back b) (lies_date h)) ∙ ap length (value_date h)

  pub value_integer : t ≡ I → printed_integer (back a) ≡ value_text v t bytes a b
  unfolding value_text canonical_field written
  value_integer h = rw (h, to_z-of_z w64 a fa)

  pub value_number : (l : Limit) → t ≡ N l → printed_number v l (back a) ≡ value_text v t bytes a b
  unfolding value_text canonical_field written
  value_number l h = rw (h, to_z-of_z w64 a fa)

  pub value_word : (l : Words) (m : ℕ) (row : List ℕ) → t ≡ W l → m ≡ nat_abs (back a) → row ≡ word_row v l m → trimmed row ≡ value_text v t bytes a b
  unfolding value_text canonical_field written
  value_word l m row h e f = ap trimmed f ∙ word_held v l m ∙ rw (h, e, to_z-of_z w64 a fa)

  module _ (g : field_fits (anywhere v) t bytes a b ≡ true) where
    pub small_integer : t ≡ I → nat_abs (back a) ≤ largest_length
    unfolding integer_fits
    small_integer h = let k : leb (nat_abs a) largest_integer ≡ true = rw h at g in rw (to_z-of_z w64 a fa) (omega (arith, leb-true (nat_abs a) largest_integer k))

    pub small_number : (l : Limit) → t ≡ N l → nat_abs (back a) ≤ largest_length
    unfolding fits
    small_number l h =
        let k : fits (anywhere v) (N l) (number a) ≡ true = rw h at g in
        rw (to_z-of_z w64 a fa) (omega (arith, leb-true (nat_abs a) (largest l) (and_left (leb (nat_abs a) (largest l)) (within (anywhere v) l a) k), largest_most l))

-- sums up to the limit
pub up_over : (n : ℕ) → limit < n → limit + 1 ≡ up_to n
unfolding up_to
up_over n h = rw (lt-ltb limit n h)

pub up_in : (n : ℕ) → n ≤ limit → n ≡ up_to n
unfolding up_to
up_in n h = rw (le-ltb limit n h)

pub longer_far : (sum n : ℕ) → limit < n → limit + 1 ≡ up_to (sum + n)
longer_far sum n h = up_over (sum + n) (omega arith)

pub longer_over : (sum n : ℕ) → limit < sum + n → limit + 1 ≡ up_to (sum + n)
longer_over sum n h = up_over (sum + n) h

pub longer_in : (sum n : ℕ) → sum + n ≤ limit → sum + n ≡ up_to (sum + n)
longer_in sum n h = up_in (sum + n) h

pub up_small : (n : ℕ) → up_to n ≤ limit + 1
up_small n = go (ltb limit n) refl
  where
    go : (b : Bool) → ltb limit n ≡ b → up_to n ≤ limit + 1
    go true h = omega (arith, up_over n (ltb-true limit n h))
    go false h = let k = ltb-false limit n h in omega (arith, up_in n k)

pub up_whole : (n : ℕ) → n ≤ limit + 1 → n ≡ up_to n
up_whole n h = go (ltb limit n) refl
  where
    go : (b : Bool) → ltb limit n ≡ b → n ≡ up_to n
    go true k = let l = ltb-true limit n k in let e : n ≡ limit + 1 = omega arith in e ∙ up_over n l
    go false k = up_in n (ltb-false limit n k)

pub up_under : (n : ℕ) → up_to n ≤ limit → n ≡ up_to n
up_under n h = go (ltb limit n) refl
  where
    go : (b : Bool) → ltb limit n ≡ b → n ≡ up_to n
    go true k = absurd (omega (arith, up_over n (ltb-true limit n k)))
    go false k = up_in n (ltb-false limit n k)

pub up_past : (n : ℕ) → limit < up_to n → limit < n
up_past n h = go (ltb limit n) refl
  where
    go : (b : Bool) → ltb limit n ≡ b → limit < n
    go true k = ltb-true limit n k
    go false k = let l = ltb-false limit n k in absurd (omega (arith, up_in n l))

pub up_again : (a b : ℕ) → up_to (up_to a + b) ≡ up_to (a + b)
up_again a b = go (ltb limit a) refl
  where
    go : (t : Bool) → ltb limit a ≡ t → up_to (up_to a + b) ≡ up_to (a + b)
    go true h = let k = ltb-true limit a h in sym (up_over (up_to a + b) (omega (arith, up_over a k))) ∙ up_over (a + b) (omega arith)
    go false h = let k = ltb-false limit a h in ap (λ (n : ℕ). up_to (n + b)) (sym (up_in a k))

-- a field and the byte behind it
module _ (v : Rules) (t : FieldType) (bytes : List ℕ) (row : List ℤ) (i : ℕ) (a b : ℤ) (e : a ≡ column_at row i) (f : b ≡ column_at row (i + 1)) (fa : SFits w64 a) (fb : SFits w64 b) where
  pub column_fits_lem : column_fits (anywhere v) t bytes row i ≡ true → field_fits (anywhere v) t bytes (back a) (back b) ≡ true
  column_fits_lem h = rw (to_z-of_z w64 a fa, to_z-of_z w64 b fb, e, f) h

  same_value_lem : value_text v t bytes (back a) (back b) ≡ value_text v t bytes (column_at row i) (column_at row (i + 1))
  same_value_lem = rw (to_z-of_z w64 a fa, to_z-of_z w64 b fb, e, f)

  pub with_column : (sum n m r : ℕ) → n ≡ length (value_text v t bytes (back a) (back b)) → m ≡ up_to (sum + n) → r ≡ up_to (m + 1)
      → r ≡ up_to (sum + (length (value_text v t bytes (column_at row i) (column_at row (i + 1))) + 1))
  with_column sum n m r g h k =
      let z : sum + n + 1 ≡ sum + (length (value_text v t bytes (column_at row i) (column_at row (i + 1))) + 1) = omega (arith, g, ap length same_value_lem) in
      k ∙ ap (λ (x : ℕ). up_to (x + 1)) h ∙ up_again (sum + n) 1 ∙ ap up_to z

  pub column_is : (n : ℕ) → ended_text v t bytes (back a) (back b) n ≡ column_text v t bytes row i n
  column_is n = rw (to_z-of_z w64 a fa, to_z-of_z w64 b fb, e, f)

module _ (v : Rules) (t : FieldType) (bytes : List ℕ) (a b : ℤ) (n : ℕ) (fa : SFits w64 a) (fb : SFits w64 b) where
  pub value_fits : field_fits (anywhere v) t bytes a b ≡ true → field_fits (anywhere v) t bytes (back a) (back b) ≡ true
  value_fits h = rw (to_z-of_z w64 a fa, to_z-of_z w64 b fb) h

  ended_length : length (ended_text v t bytes a b n) ≡ length (value_text v t bytes (back a) (back b)) + 1
  unfolding ended_text
  ended_length = rw (to_z-of_z w64 a fa, to_z-of_z w64 b fb) (length-append (value_text v t bytes a b) (behind_of n ∷ []))

  module _ (o : List ℕ) (at : ℕ) (l : at + length (ended_text v t bytes a b n) ≤ length o) where
    pub value_room : at + length (value_text v t bytes (back a) (back b)) ≤ length o
    value_room = omega (arith, ended_length)

    module _ (p : List ℕ) (m : ℕ) (w : Wrote o p at m (value_text v t bytes (back a) (back b))) where
      pub value_behind : m < length p
      value_behind = omega (arith, ended_length, w.next, wrote_length w)

      pub ended_put : (q : List ℕ) (d r : ℕ) → d ≡ behind_of n → Wrote p q m r (d ∷ []) → Wrote o q at r (ended_text v t bytes a b n)
      unfolding ended_text
      ended_put q d r g x =
          let y : value_text v t bytes (back a) (back b) ≡ value_text v t bytes a b = rw (to_z-of_z w64 a fa, to_z-of_z w64 b fb) in
          rw (sym y, sym g) (wrote_more w x)

pub sum_capped : (sum n r : ℕ) → r ≡ up_to (sum + n) → r ≤ limit + 1
sum_capped sum n r e = rw e (up_small (sum + n))

-- the length of what stands before fields is proved by
pub ruleset front_len_laws = (front_len_none, front_len_mark, front_len_fits, front_len_some)
