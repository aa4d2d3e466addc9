-- The canonical field of a value that fits spells it, and can be written as it stands.
use Prim.Native.Nat.{ℕ, ◌≤◌}
use mathlib.Core.Path.{◌≡◌, refl, subst}
use mathlib.Core.List.{List, [], ◌∷◌}
use mathlib.Core.Bool.{Bool, true, false, not, false≢true, true≢false}
use native.Mathlib.Omega.{arith}
use borrow.Author.Tests.{eqb-true, leb-true, not-true, not-false}
use lib.Dec.{leb}
use lib.IntN.{ℤ, pos, negsuc, nat_abs}
use Rattle.basics.proofs.Bytes.{bytes_true}
use Rattle.basics.proofs.Lists.{all_sound}
use Rattle.basics.proofs.Bools.{and_left, and_right, neither}
use Rattle.law.specs.Bytes.{All, all_of, begins}
use Rattle.law.specs.Fields.{Field, field}
use Rattle.law.specs.Limits.{most_decimals, largest_length, largest_integer}
use Rattle.law.specs.Numbers as num
use Rattle.law.specs.Numbers.{SpellsNumber}
use Rattle.law.specs.Printing.{printed_count, printed_integer}
use Rattle.law.specs.Dates.{is_date}
use Rattle.number_print.proofs.PrintSpelling.{digit, count_spells, integer_spells}
use Rattle.law.specs.Values.{Value, number, word, text}
use Rattle.law.specs.Words.{words_of, word_at}
use Rattle.law.specs.Fits.{version_of, kept, largest, within, meaning, barred, text_byte, good_text, is_empty, fits}
use Rattle.law.specs.declared.Rules.{Rules}
use Rattle.law.specs.declared.Rules.TheVariants.{Idf3}
use Rattle.law.specs.declared.Context.{Context}
use Rattle.law.specs.declared.Words.{Words}
use Rattle.law.specs.declared.Limit.{Limit}
use Rattle.law.specs.declared.Limit.TheVariants.{Length as L, NotBelow as L0, Above as Lp, Included as A, Rotation as R, Version as Ver}
use Rattle.law.specs.declared.Texts.{Texts}
use Rattle.law.specs.declared.FieldType.{FieldType}
use Rattle.law.specs.declared.FieldType.TheVariants.{Text as T, Date as D, Integer as I, Number as N, Word as W}
use Rattle.law.specs.RecordSpelling.{SpellsField, as_text, as_date, as_integer, as_number, as_word}
use Rattle.law.specs.Canonical.{no_space, needs_quotes, version_text, printed_number, canonical_field}
use Rattle.shown_spelling.proofs.BareBytes.{tight, safe, all_zip, tight_text, tight_number, safe_number, tight_integer, safe_integer, tight_date, safe_date}
use Rattle.shown_spelling.proofs.Tables.{words_stand, word_listed}

-- A field that can be written as it stands, also in front of a line
pub data Writes : Field → Type 0 where
  as_bare : {s : List ℕ} → All tight s → safe s ≡ true → Writes (field false s)
  as_quoted : {s : List ℕ} → All text_byte s → Writes (field true s)

-- A canonical field: what it spells, and that it can be written
pub record Canon (c : Context) (t : FieldType) (v : Value) (f : Field) : Type 0 where
  pub spells : SpellsField c t v f
  pub writes : Writes f

-- Texts
safe_text : (s : List ℕ) → is_empty s ≡ false → begins 35 s ≡ false → begins 46 s ≡ false → safe s ≡ true
unfolding is_empty begins
safe_text [] e h k = absurd (true≢false e)
safe_text (b ∷ s) e h k = rw (h, k)

text_writes : (s : List ℕ) → all_of text_byte s ≡ true → Writes (field (needs_quotes s) s)
unfolding needs_quotes
text_writes s h = go (needs_quotes s) refl
  where
    go : (t : Bool) → needs_quotes s ≡ t → Writes (field t s)
    go true e = as_quoted (all_sound text_byte s h)
    go false e =
        let p = neither (is_empty s) _ e in
        let q = neither (not (all_of no_space s)) _ p.1 in
        let r = neither (begins 35 s) _ q.1 in
        as_bare (all_zip tight_text (all_sound text_byte s h) (all_sound no_space s (not-false _ q.0))) (safe_text s p.0 r.0 r.1)

-- The version
version_spells : (v : Rules) → SpellsNumber most_decimals largest_length (pos (version_of v)) (version_text v)
version_spells Idf3 = num.plain (num.with_point (num.one (digit 3 (omega arith))) (num.last (digit 0 (omega arith)) (λ e. refl))) (omega arith)

-- a text that is held can be written, and is its own meaning
text_held : (t : FieldType) (s : List ℕ) → good_text t s ≡ true → Writes (field (needs_quotes s) s) × (meaning t s ≡ s)
unfolding good_text
text_held t s h = (text_writes s (and_left (all_of text_byte s) _ h), bytes_true (meaning t s) s (and_right (all_of text_byte s) _ h))

module _ (c : Context) where
  text_canon : (k : Texts) (s : List ℕ) → good_text (T k) s ≡ true → barred c k s ≡ false → Canon c (T k) (text s) (field (needs_quotes s) s)
  text_canon k s h b =
      let g = text_held (T k) s h in
      record { spells = subst (λ (w : List ℕ). SpellsField c (T k) (text w) (field (needs_quotes s) s)) g.1 (as_text (rw g.1 b)); writes = g.0 }

  date_canon : (s : List ℕ) → is_date s ≡ true → Canon c D (text s) (field false s)
  date_canon s h = record { spells = as_date h; writes = as_bare (tight_date s h) (safe_date s h) }

  integer_canon : (z : ℤ) → nat_abs z ≤ largest_integer → Canon c I (number z) (field false (printed_integer z))
  integer_canon z h = let r = integer_spells z h in record { spells = as_integer r; writes = as_bare (tight_integer r) (safe_integer r) }

  number_canon : (l : Limit) (z : ℤ) (s : List ℕ) → SpellsNumber most_decimals (largest l) z s → within c l z ≡ true → Canon c (N l) (number z) (field false s)
  unfolding kept
  number_canon l z s r k = record { spells = as_number r k; writes = as_bare (tight_number r) (safe_number r) }

  version_canon : (z : ℤ) → within c Ver z ≡ true → Canon c (N Ver) (number z) (field false (version_text c.rules))
  unfolding within
  version_canon (pos n) h = number_canon Ver (pos n) (version_text c.rules) (rw (eqb-true n (version_of c.rules) h) (version_spells c.rules)) h
  version_canon (negsuc n) h = absurd (false≢true h)

  count_canon : (l : Limit) (z : ℤ) → nat_abs z ≤ largest l → within c l z ≡ true → Canon c (N l) (number z) (field false (printed_number c.rules l z))
  count_canon L z h k = number_canon L z (printed_count z) (count_spells z h) k
  count_canon L0 z h k = number_canon L0 z (printed_count z) (count_spells z h) k
  count_canon Lp z h k = number_canon Lp z (printed_count z) (count_spells z h) k
  count_canon A z h k = number_canon A z (printed_count z) (count_spells z h) k
  count_canon R z h k = number_canon R z (printed_count z) (count_spells z h) k
  count_canon Ver z h k = version_canon z k

  word_canon : (l : Words) (n : ℕ) → is_empty (word_at (words_of c.rules l) n) ≡ false → Canon c (W l) (word n) (field false (word_at (words_of c.rules l) n))
  word_canon l n h =
      let w = word_at (words_of c.rules l) n in
      let g = word_listed (words_of c.rules l) n (words_stand c.rules l) h in
      record { spells = as_word g.1; writes = as_bare (all_sound tight w (and_left (all_of tight w) _ g.0)) (and_left (safe w) _ (and_right (all_of tight w) _ g.0)) }

  pub field_canon : (t : FieldType) (v : Value) → fits c t v ≡ true → Canon c t v (canonical_field c.rules t v)
  unfolding fits canonical_field
  field_canon (T k) (text s) h = text_canon k s (and_right (not (barred c k s)) _ h) (not-true _ (and_left (not (barred c k s)) _ h))
  field_canon (T k) (number z) h = absurd (false≢true h)
  field_canon (T k) (word n) h = absurd (false≢true h)
  field_canon D (text s) h = date_canon s h
  field_canon D (number z) h = absurd (false≢true h)
  field_canon D (word n) h = absurd (false≢true h)
  field_canon I (number z) h = integer_canon z (leb-true (nat_abs z) largest_integer h)
  field_canon I (text s) h = absurd (false≢true h)
  field_canon I (word n) h = absurd (false≢true h)
  field_canon (N l) (number z) h = count_canon l z (leb-true (nat_abs z) (largest l) (and_left _ _ h)) (and_right (leb (nat_abs z) (largest l)) _ h)
  field_canon (N l) (text s) h = absurd (false≢true h)
  field_canon (N l) (word n) h = absurd (false≢true h)
  field_canon (W l) (word n) h = word_canon l n (not-true _ h)
  field_canon (W l) (text s) h = absurd (false≢true h)
  field_canon (W l) (number z) h = absurd (false≢true h)
