-- Two rows are the same exactly if the records are whose values they hold.
use Prim.Native.Nat.{ℕ, zero, suc, ◌+◌}
use mathlib.Core.Path.{◌≡◌, refl, sym, subst}
use mathlib.Core.List.{List, ◌++◌}
use mathlib.Core.Bool.{Bool, true, false, ◌&&◌, false≢true, and-false}
use borrow.Author.Tests.{eqb-true}
use lib.Dec.{eqb}
use lib.IntN.{ℤ}
use lib.ListN.{get_or, take, drop, replicate}
use Rattle.basics.specs.Integers.{eq_z}
use Rattle.law.specs.Values.{Value, Rec}
use Rattle.law.specs.Layouts.{types_of}
use Rattle.law.specs.declared.Rules.TheVariants.{Idf3}
use Rattle.law.specs.declared.FieldType.{FieldType}
use Rattle.law.specs.declared.FieldType.TheVariants.{Text as T, Date as D, Integer as I, Number as N, Word as W}
use Rattle.law.specs.Rows.{is_number, Means, none, a_number, a_word, a_date, a_text, Holds}
use Rattle.line_rows.proofs.MeaningLaws.{number_wide}
use Rattle.basics.proofs.Meanings.{date_meaning}
use Rattle.rows_texts.specs.Texts.{same_meanings}
use Rattle.same.specs.Ignoring.{nothing, ignored_at}
use Rattle.same.specs.SameRows.{holds_bytes, same_field, agrees_at, same_from, same_row}
use Rattle.shown_same.proofs.Values.{same_values, same_rec}

-- nothing is left out
none_of : (n i : ℕ) → get_or (replicate n false) i false ≡ false
none_of zero i = refl
none_of (suc n) zero = refl
none_of (suc n) (suc i) = none_of n i

none_ignored : (k i : ℕ) → ignored_at nothing k i ≡ false
unfolding ignored_at
none_ignored k i = rw (none_of 7 i) (and-false (eqb 0 k))

-- types by how their fields are held
number_held : (t : FieldType) → is_number t ≡ true → holds_bytes t ≡ false
number_held (T k) h = absurd (false≢true h)
number_held D h = absurd (false≢true h)
number_held I h = refl
number_held (N l) h = refl
number_held (W l) h = absurd (false≢true h)

module _ (f h : List ℕ) (zs us : List ℤ) (k : ℕ) where
  abbrev Are : ℕ → List FieldType → List ℤ → List Value → List ℤ → List Value → Type 0
  Are i ts cs vs ds ws = same_from nothing k i ts f (cs ++ zs) h (ds ++ us) ≡ same_values vs ws

  -- columns compare as the values that they mean
  fields_are : {ts : List FieldType} {cs ds : List ℤ} {vs ws : List Value} (i : ℕ) → Means f ts cs vs → Means h ts ds ws → Are i ts cs vs ds ws
  unfolding same_from agrees_at same_field same_meanings same_values eq_z
  fields_are i none none = refl
  fields_are i (a_number {t = t} p x) (a_number q y) = rw (none_ignored k i, number_held t p, number_wide t p, fields_are (i + 1) x y)
  fields_are i (a_number p x) (a_word y) = absurd (false≢true p)
  fields_are i (a_number p x) (a_date n y) = absurd (false≢true p)
  fields_are i (a_number p x) (a_text n y) = absurd (false≢true p)
  fields_are i (a_word x) (a_number q y) = absurd (false≢true q)
  fields_are i (a_word x) (a_word y) = rw (none_ignored k i, fields_are (i + 1) x y)
  fields_are i (a_date m x) (a_number q y) = absurd (false≢true q)
  fields_are i (a_date {a = a} {l = l} m x) (a_date {a = b} {l = n} j y) = rw (none_ignored k i, date_meaning (take l (drop a f)), date_meaning (take n (drop b h)), fields_are (i + 1) x y)
  fields_are i (a_text m x) (a_number q y) = absurd (false≢true q)
  fields_are i (a_text m x) (a_text n y) = rw (none_ignored k i, fields_are (i + 1) x y)

-- rows compare as the records whose values they hold
module _ (f h : List ℕ) (x y : List ℤ) where
  rows_of : (k j : ℕ) (vs ws : List Value) → Holds f k (types_of Idf3 k) x vs → Holds h j (types_of Idf3 j) y ws → (b : Bool) → eqb k j ≡ b → same_row nothing f x h y ≡ (b && same_values vs ws)
  unfolding same_row eq_z
  rows_of k j vs ws p q false e = rw (p.is, q.is, e)
  rows_of k j vs ws p q true e =
      let m : Means h (types_of Idf3 k) q.columns ws = subst (λ (n : ℕ). Means h (types_of Idf3 n) q.columns ws) (sym (eqb-true k j e)) q.means in
      rw (p.is, q.is, e) (fields_are f h _ _ k 0 p.means m)

  pub row_is : (q r : Rec) → Holds f q.kind (types_of Idf3 q.kind) x q.values → Holds h r.kind (types_of Idf3 r.kind) y r.values → same_row nothing f x h y ≡ same_rec q r
  row_is q r a b = rows_of q.kind r.kind q.values r.values a b (eqb q.kind r.kind) refl
