-- What a text means at its field: a name its capitals, any other text its bytes.
use Prim.Native.Nat.{ℕ}
use mathlib.Core.Path.{◌≡◌, refl, sym, ap, ◌∙◌}
use mathlib.Core.List.{List, [], ◌∷◌}
use mathlib.Core.Bool.{Bool, true, false, cond, not, ◌&&◌, ◌||◌, and-true, false≢true}
use borrow.Author.Tests.{not-true}
use native.Mathlib.Omega.{arith}
use lib.ListN.{length, length-append}
use Rattle.law.specs.Fields.{field}
use Rattle.law.specs.Bytes.{all_of, begins}
use Rattle.law.specs.Words.{named, is_in, folded, same_bytes}
use Rattle.law.specs.Fits.{text_byte, is_name, meaning, good_text, is_empty}
use Rattle.law.specs.Canonical.{needs_quotes, written}
use Rattle.law.specs.declared.Texts.{Texts}
use Rattle.law.specs.declared.Texts.TheVariants.{Plain, Reference, Hole}
use Rattle.law.specs.declared.FieldType.{FieldType}
use Rattle.law.specs.declared.FieldType.TheVariants.{Text as T, Date as D, Integer as I, Number as N, Word as W}
use Rattle.basics.specs.Letters.{cased}
use Rattle.basics.proofs.Bools.{and_left, and_right, not_both}
use Rattle.basics.proofs.Bytes.{bytes_true, bytes_self, bytes_differ}
use Rattle.basics.proofs.Letters.{folded_long, folded_twice, folded_text, folded_spaces, folded_begins}

pub plain_meaning : (s : List ℕ) → meaning (T Plain) s ≡ s
unfolding meaning is_name named is_in
plain_meaning s = refl

pub date_meaning : (s : List ℕ) → meaning D s ≡ s
unfolding meaning is_name
date_meaning s = refl

-- by what the code found out
pub meaning_cased : (t : FieldType) (s : List ℕ) (x : Bool) → x ≡ is_name t s → cased x s ≡ meaning t s
unfolding meaning cased
meaning_cased t s true h = rw (sym h)
meaning_cased t s false h = rw (sym h)

-- a meaning is as long as the bytes
pub meaning_long : (t : FieldType) (s : List ℕ) → length (meaning t s) ≡ length s
unfolding meaning
meaning_long t s = go (is_name t s)
  where
    go : (x : Bool) → length (cond x (folded s) s) ≡ length s
    go true = folded_long s
    go false = refl

-- and is its own
name_folded : (t : FieldType) (s : List ℕ) → is_name t (folded s) ≡ is_name t s
unfolding is_name
name_folded (T k) s = ap (λ (u : List ℕ). is_in u (named k)) (folded_twice s)
name_folded D s = refl
name_folded I s = refl
name_folded (N l) s = refl
name_folded (W l) s = refl

pub meaning_twice : (t : FieldType) (s : List ℕ) → meaning t (meaning t s) ≡ meaning t s
unfolding meaning
meaning_twice t s = go (is_name t s) refl
  where
    go : (x : Bool) → is_name t s ≡ x → cond (is_name t (cond x (folded s) s)) (folded (cond x (folded s) s)) (cond x (folded s) s) ≡ cond x (folded s) s
    go true h = rw (name_folded t s ∙ h) (folded_twice s)
    go false h = rw h

-- it may be held exactly if the bytes are those of a text
meaning_text : (t : FieldType) (s : List ℕ) → all_of text_byte (meaning t s) ≡ all_of text_byte s
unfolding meaning
meaning_text t s = go (is_name t s)
  where
    go : (x : Bool) → all_of text_byte (cond x (folded s) s) ≡ all_of text_byte s
    go true = folded_text s
    go false = refl

pub meaning_good : (t : FieldType) (s : List ℕ) → good_text t (meaning t s) ≡ all_of text_byte s
unfolding good_text
meaning_good t s = rw (meaning_twice t s, bytes_self (meaning t s)) (and-true (all_of text_byte (meaning t s)) ∙ meaning_text t s)

-- it needs quotes exactly if they do, so it takes as many bytes
folded_empty : (s : List ℕ) → is_empty (folded s) ≡ is_empty s
unfolding folded is_empty
folded_empty [] = refl
folded_empty (b ∷ s) = refl

folded_quotes : (s : List ℕ) → needs_quotes (folded s) ≡ needs_quotes s
unfolding needs_quotes
folded_quotes s = rw (folded_empty s, folded_spaces s, folded_begins 35 s (omega arith), folded_begins 46 s (omega arith))

pub meaning_written : (t : FieldType) (s : List ℕ) → length (written (field (needs_quotes s) s)) ≡ length (written (field (needs_quotes (meaning t s)) (meaning t s)))
unfolding meaning written
meaning_written t s = go (is_name t s)
  where
    as_long : (q : Bool) → length (written (field q s)) ≡ length (written (field q (folded s)))
    as_long true = omega (arith, length-append s (34 ∷ []), length-append (folded s) (34 ∷ []), folded_long s)
    as_long false = sym (folded_long s)

    go : (x : Bool) → length (written (field (needs_quotes s) s)) ≡ length (written (field (needs_quotes (cond x (folded s) s)) (cond x (folded s) s)))
    go true = rw (folded_quotes s) (as_long (needs_quotes s))
    go false = refl

-- what holds of each name holds of a text that is one
abbrev each : (List ℕ → Bool) → List (List ℕ) → Bool
each p [] = true
each p (w ∷ ws) = p w && each p ws

of_each : (p : List ℕ → Bool) (s : List ℕ) (ws : List (List ℕ)) → is_in s ws ≡ true → each p ws ≡ true → p s ≡ true
unfolding is_in
of_each p s [] h a = absurd (false≢true h)
of_each p s (w ∷ ws) h a = go (same_bytes s w) refl h (λ i. of_each p s ws i (and_right (p w) (each p ws) a))
  where
    go : (x : Bool) → same_bytes s w ≡ x → x || is_in s ws ≡ true → (is_in s ws ≡ true → p s ≡ true) → p s ≡ true
    go true e i f = ap p (bytes_true s w e) ∙ and_left (p w) (each p ws) a
    go false e i f = f i

-- a name is in capitals
capitals : (k : Texts) → each (λ w. same_bytes (folded w) w) (named k) ≡ true
unfolding named folded same_bytes
capitals Plain = refl
capitals Reference = refl
capitals Hole = refl

-- so bytes mean it exactly if they are it when folded
pub name_told : (k : Texts) (s w : List ℕ) → is_in w (named k) ≡ true → same_bytes (folded s) w ≡ same_bytes (meaning (T k) s) w
unfolding meaning is_name
name_told k s w h = go (is_in (folded s) (named k)) refl
  where
    no : (u : List ℕ) → folded u ≡ w → is_in (folded u) (named k) ≡ false → ⊥
    no u e n = not_both h (ap (λ (x : List ℕ). is_in x (named k)) (sym e) ∙ n)

    itself : folded w ≡ w
    itself = bytes_true (folded w) w (of_each (λ u. same_bytes (folded u) u) w (named k) h (capitals k))

    go : (x : Bool) → is_in (folded s) (named k) ≡ x → same_bytes (folded s) w ≡ same_bytes (cond x (folded s) s) w
    go true i = refl
    go false i = bytes_differ (folded s) w (λ e. no s e i) ∙ sym (bytes_differ s w (λ e. no s (ap folded e ∙ itself) i))

-- no name needs quotes
bare : (k : Texts) → each (λ s. not (needs_quotes s)) (named k) ≡ true
unfolding named needs_quotes is_empty all_of begins
bare Plain = refl
bare Reference = refl
bare Hole = refl

pub name_bare : (t : FieldType) (s : List ℕ) → is_name t s ≡ true → needs_quotes (folded s) ≡ false
unfolding is_name
name_bare (T k) s h = not-true (needs_quotes (folded s)) (of_each (λ u. not (needs_quotes u)) (folded s) (named k) h (bare k))
name_bare D s h = absurd (false≢true h)
name_bare I s h = absurd (false≢true h)
name_bare (N l) s h = absurd (false≢true h)
name_bare (W l) s h = absurd (false≢true h)
