-- Laws of texts and words in a lent slice, as the code leaves them.
use Prim.Native.Nat.{ℕ, suc, ◌+◌, ◌≤◌, ◌<◌}
use mathlib.Core.Path.{◌≡◌, refl, sym, ap, ◌∙◌}
use mathlib.Core.List.{List, [], ◌∷◌}
use mathlib.Core.Bool.{Bool, true, false, not, cond, ◌||◌, ◌&&◌}
use native.Mathlib.Numerals.{add-one}
use native.Mathlib.Omega.{arith}
use borrow.Author.Tests.{ne_eqb}
use lib.Dec.{eqb}
use lib.ListN.{length, take, set, get_or, length-append}
use lib.Seq.{take-suc, take_all}
use Rattle.std.specs.List.{list_any, position, position_or_len}
use Rattle.std.specs.Option.{unwrap_or}
use Rattle.std.proofs.lemmas.List.{length-take-le}
use Rattle.std.proofs.lemmas.List.Recursion.{is_position_or_len}
use Rattle.std.proofs.lemmas.Bool.Decides.{nat_tests}
use Rattle.law.specs.Bytes.{all_of, begins}
use Rattle.law.specs.Fields.{field}
use Rattle.number_print.specs.Printing.{Wrote}
use Rattle.number_print.proofs.PrintLaws.{wrote_length, wrote_more}
use Rattle.law.specs.Fits.{is_empty, is_name}
use Rattle.law.specs.Words.{named, is_in, capital, folded}
use Rattle.law.specs.declared.Texts.{Texts}
use Rattle.law.specs.declared.FieldType.TheVariants.{Text}
use Rattle.basics.specs.Letters.{cased}
use Rattle.basics.proofs.Letters.{folded_long, folded_at}
use Rattle.basics.proofs.Meanings.{meaning_cased, name_bare}
use Rattle.form_words.specs.Padded.{trimmed}
use Rattle.law.specs.Canonical.{no_space, needs_quotes, written}
use Rattle.write_texts.specs.Meant.{meant_text}

-- Bytes, one after the other
pub copy_more : (o p s : List ℕ) (at i : ℕ) → i < length s → Wrote o p at (at + i) (take i s) → Wrote o (set p (at + i) (get_or s i 0)) at (at + (i + 1)) (take (i + 1) s)
copy_more o p s at i h w =
    let v : Wrote p (set p (at + i) (get_or s i 0)) (at + i) (at + (i + 1)) (get_or s i 0 ∷ []) = record { is = refl; next = omega arith } in
    rw (add-one i, take-suc s i 0 h) (rw (add-one i) at (wrote_more w v))

pub copy_end : (o p s : List ℕ) (at i : ℕ) → length s ≤ i → Wrote o p at (at + i) (take i s) → Wrote o p at (at + length s) s
copy_end o p s at i h w =
    let v : Wrote o p at (at + i) s = rw (take_all i s h) at w in
    record { is = v.is; next = omega arith }

-- letters in capitals, one after the other
pub capitals_more : (o p s : List ℕ) (at i b : ℕ) → b ≡ capital (get_or s i 0) → i < length s → Wrote o p at (at + i) (take i (folded s)) → Wrote o (set p (at + i) b) at (at + (i + 1)) (take (i + 1) (folded s))
capitals_more o p s at i b e h w = rw (e ∙ sym (folded_at s i)) (copy_more o p (folded s) at i (omega (arith, folded_long s)) w)

pub capitals_end : (o p s : List ℕ) (at i : ℕ) → length s ≤ i → Wrote o p at (at + i) (take i (folded s)) → Wrote o p at (at + length s) (folded s)
capitals_end o p s at i h w = rw (sym (folded_long s)) (copy_end o p (folded s) at i (omega (arith, folded_long s)) w)

-- Quotes
-- no byte is a space exactly if a space is not among them
pub spaceless : (s : List ℕ) → not (list_any (λ y. eqb y 32) s) ≡ all_of no_space s
unfolding all_of
spaceless [] = refl
spaceless (b ∷ s) = go (eqb b 32) (list_any (λ y. eqb y 32) s) (spaceless s)
  where
    go : (t x : Bool) → not x ≡ all_of no_space s → not (t || x) ≡ (not t && all_of no_space s)
    go true x h = refl
    go false x h = h

empty_is : (s : List ℕ) → eqb (length s) 0 ≡ is_empty s
unfolding is_empty
empty_is [] = refl
empty_is (b ∷ s) = ne_eqb (suc (length s)) 0 (λ h. omega arith)

pub some_byte : (s : List ℕ) → (length s ≡ 0 → ⊥) → is_empty s ≡ false
unfolding is_empty
some_byte [] n = absurd (n refl)
some_byte (b ∷ s) n = refl

module _ (s : List ℕ) (e r : Bool) (i : e ≡ eqb (length s) 0) (j : r ≡ all_of no_space s) where
  quotes_by : needs_quotes s ≡ (e || (not r || (begins 35 s || begins 46 s)))
  unfolding needs_quotes
  quotes_by = rw (i, j, empty_is s)

  pub quotes_empty : e ≡ true → true ≡ needs_quotes s
  quotes_empty h = sym (quotes_by ∙ rw h)

  pub quotes_space : e ≡ false → r ≡ false → true ≡ needs_quotes s
  quotes_space h k = sym (quotes_by ∙ rw (h, k))

  pub quotes_first : (x y : Bool) → e ≡ false → r ≡ true → x ≡ begins 35 s → y ≡ begins 46 s → (x || y) ≡ needs_quotes s
  quotes_first x y a h f g = sym (quotes_by ∙ rw (a, h, f, g))

quoted_length : (s : List ℕ) (t : Bool) → t ≡ needs_quotes s → t ≡ true → length (written (field (needs_quotes s) s)) ≡ length s + 2
unfolding written
quoted_length s t e h = rw (sym e ∙ h) (omega (arith, length-append s (34 ∷ [])))

module _ (s : List ℕ) (t : Bool) (e : t ≡ needs_quotes s) where
  pub quoted_len : t ≡ true → length s + 2 ≡ length (written (field (needs_quotes s) s))
  quoted_len h = sym (quoted_length s t e h)

  pub bare_len : t ≡ false → length s ≡ length (written (field (needs_quotes s) s))
  unfolding written
  bare_len h = rw (sym e ∙ h)

  module _ (o p : List ℕ) (at a : ℕ) where
    pub text_quoted : t ≡ true → (q u : List ℕ) (b r : ℕ) → Wrote o p at a (34 ∷ []) → Wrote p q a b s → Wrote q u b r (34 ∷ []) → Wrote o u at r (written (field (needs_quotes s) s))
    unfolding written
    text_quoted h q u b r x y z = rw (sym e ∙ h) (wrote_more x (wrote_more y z))

    pub text_bare : t ≡ false → Wrote o p at a s → Wrote o p at a (written (field (needs_quotes s) s))
    unfolding written
    text_bare h x = rw (sym e ∙ h) x

module _ (s : List ℕ) (t : Bool) (e : t ≡ needs_quotes s) (o : List ℕ) (at : ℕ) (k : at + length (written (field (needs_quotes s) s)) ≤ length o) where
  pub bare_room : t ≡ false → at + length s ≤ length o
  unfolding written
  bare_room h = rw (sym e ∙ h) at k

  module _ (h : t ≡ true) where
    pub open_room : at < length o
    open_room = omega (arith, quoted_length s t e h)

    module _ (p : List ℕ) (a : ℕ) (v : Wrote o p at a (34 ∷ [])) where
      pub quote_room : a + length s ≤ length p
      quote_room = omega (arith, wrote_length v, quoted_length s t e h)

      pub close_room : (q : List ℕ) (b : ℕ) → Wrote p q a b s → b < length q
      close_room q b w = omega (arith, wrote_length v, wrote_length w, quoted_length s t e h)

-- Rows padded with spaces
pub trimmed_short : (row : List ℕ) → length (trimmed row) ≤ length row
unfolding trimmed
trimmed_short [] = omega arith
trimmed_short (b ∷ row) = go (eqb b 32) (trimmed_short row)
  where
    go : (t : Bool) → length (trimmed row) ≤ length row → length (cond t [] (b ∷ trimmed row)) ≤ length (b ∷ row)
    go true h = omega arith
    go false h = omega arith

-- the first space stands behind it
no_row : length (trimmed []) ≡ 0
unfolding trimmed
no_row = refl

one_more : (b : ℕ) (row : List ℕ) → length (trimmed (b ∷ row)) ≡ cond (eqb b 32) 0 (1 + length (trimmed row))
unfolding trimmed
one_more b row = go (eqb b 32)
  where
    go : (t : Bool) → length (cond t [] (b ∷ trimmed row)) ≡ cond t 0 (1 + length (trimmed row))
    go true = refl
    go false = omega arith

trimmed_at : (row : List ℕ) → length (trimmed row) ≡ position_or_len (λ b. eqb b 32) row
trimmed_at = is_position_or_len (λ (row : List ℕ). length (trimmed row)) (λ (b : ℕ). eqb b 32) no_row one_more

pub trimmed_long : (row : List ℕ) → unwrap_or (position (λ b. eqb b 32) row) (length row) ≡ length (trimmed row)
trimmed_long row = grind (arith, nat_tests, trimmed_at row, trimmed_short row)

-- a row's front is what stands before its padding
front_trimmed : (row : List ℕ) → take (length (trimmed row)) row ≡ trimmed row
unfolding trimmed
front_trimmed [] = refl
front_trimmed (b ∷ row) = go (eqb b 32) (front_trimmed row)
  where
    go : (t : Bool) → take (length (trimmed row)) row ≡ trimmed row → take (length (cond t [] (b ∷ trimmed row))) (b ∷ row) ≡ cond t [] (b ∷ trimmed row)
    go true h = refl
    go false h = ap (λ (s : List ℕ). b ∷ s) h

pub taken_long : (row : List ℕ) (n : ℕ) → n ≤ length row → n ≡ length (take n row)
taken_long row n h = sym (length-take-le n row h)

module _ (row : List ℕ) (n : ℕ) (e : n ≡ length (trimmed row)) where
  pub front_within : n ≤ length row
  front_within = rw e (trimmed_short row)

  front_is : take n row ≡ trimmed row
  front_is = rw e (front_trimmed row)

  pub front_room : (o : List ℕ) (at : ℕ) → at + length (trimmed row) ≤ length o → at + length (take n row) ≤ length o
  front_room o at h = omega (arith, ap length front_is)

  pub front_wrote : (o p : List ℕ) (at r : ℕ) → Wrote o p at r (take n row) → Wrote o p at r (trimmed row)
  front_wrote o p at r w = rw front_is at w

-- What a text means, by what was found
module _ (k : Texts) (s : List ℕ) (x : Bool) (i : x ≡ is_in (folded s) (named k)) where
  e : x ≡ is_name (Text k) s
  unfolding is_name
  e = i

  module _ (h : x ≡ true) where
    name_text : folded s ≡ meant_text k s
    unfolding cased written
    name_text = rw (sym (meaning_cased (Text k) s true (sym h ∙ e)), name_bare (Text k) s (sym e ∙ h))

    pub name_room : (o : List ℕ) (at : ℕ) → at + length (meant_text k s) ≤ length o → at + length s ≤ length o
    name_room o at l = omega (arith, folded_long s, ap length name_text)

    pub name_put : (o p : List ℕ) (at r : ℕ) → Wrote o p at r (folded s) → Wrote o p at r (meant_text k s)
    name_put o p at r w = rw name_text at w

  module _ (h : x ≡ false) where
    own_text : written (field (needs_quotes s) s) ≡ meant_text k s
    unfolding cased
    own_text = ap (λ (u : List ℕ). written (field (needs_quotes u) u)) (meaning_cased (Text k) s false (sym h ∙ e))

    pub own_room : (o : List ℕ) (at : ℕ) → at + length (meant_text k s) ≤ length o → at + length (written (field (needs_quotes s) s)) ≤ length o
    own_room o at l = omega (arith, ap length own_text)

    pub own_put : (o p : List ℕ) (at r : ℕ) → Wrote o p at r (written (field (needs_quotes s) s)) → Wrote o p at r (meant_text k s)
    own_put o p at r w = rw own_text at w
