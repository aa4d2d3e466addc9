-- A keyword in capitals opens or closes a section exactly where it is the section's name after a period, or after a period and END_.
use Prim.Native.Nat.{ℕ, zero, suc, ◌+◌, ◌≤◌, ◌<◌}
use mathlib.Core.Path.{◌≡◌, refl, sym, ap, ◌∙◌}
use mathlib.Core.Logic.{⊎_elim}
use mathlib.Core.List.{List, [], ◌∷◌, ◌++◌}
use mathlib.Core.Option.{Option, none, some}
use mathlib.Core.Bool.{Bool, true, false, cond, not, false≢true}
use native.Mathlib.Omega.{arith}
use borrow.Author.Tests.{eq-eqb, not-true}
use lib.ListN.{length}
use Rattle.basics.proofs.Bytes.{bytes_true, bytes_self}
use Rattle.basics.proofs.Bools.{and_left, and_right, cond_cases, none_some, or_second}
use Rattle.law.specs.Sections.{section_names, SectionForm, sections, nth, section_at}
use Rattle.law.specs.Words.{end_word, same_bytes, is_in, word_at}
use Rattle.law.specs.Layouts.{open_word, close_word}
use Rattle.form.specs.Reading.{key_from, key_by, keyword_of}
use Rattle.law.specs.declared.Rules.{Rules}
use Rattle.form.specs.declared.Keyword.{Keyword}
use Rattle.form.specs.declared.Keyword.TheVariants.{Opening, Closing, Unknown}
use Rattle.shown_spelling.proofs.WordSpelling.{differ}
use Rattle.shown_spelling.proofs.Tables.{starts_with, names_differ, name_no_end, sections_named}

-- a prefix does not change whether bytes are the same
same_after : (p s t : List ℕ) → same_bytes (p ++ s) (p ++ t) ≡ same_bytes s t
unfolding same_bytes
same_after [] s t = refl
same_after (a ∷ p) s t = rw (eq-eqb a a refl) (same_after p s t)

at_in : (ks : List (List ℕ)) (i : ℕ) → i < length ks → is_in (word_at ks i) ks ≡ true
unfolding word_at is_in
at_in [] i h = absurd (omega arith)
at_in (k ∷ ks) zero h = rw (bytes_self k)
at_in (k ∷ ks) (suc i) h = or_second (same_bytes (word_at ks i) k) _ (at_in ks i (omega arith))

-- the first name that stands for a keyword is the one that it has, where all differ
key_finds : (p : List ℕ) (n : ℕ) (ks : List (List ℕ)) (i : ℕ) → differ ks ≡ true → i < length ks → key_from p n ks (p ++ word_at ks i) ≡ some (n + i)
unfolding key_from word_at
key_finds p n [] i d h = absurd (omega arith)
key_finds p n (k ∷ ks) zero d h = rw (bytes_self (p ++ k)) (ap some (omega arith))
key_finds p n (k ∷ ks) (suc i) d h =
    go (same_bytes k (word_at ks i)) refl (not-true _ (and_left (not (is_in k ks)) _ d)) (key_finds p (suc n) ks i (and_right (not (is_in k ks)) _ d) (omega arith))
  where
    go : (t : Bool) → same_bytes k (word_at ks i) ≡ t → is_in k ks ≡ false → key_from p (suc n) ks (p ++ word_at ks i) ≡ some (suc n + i)
        → cond (same_bytes (p ++ k) (p ++ word_at ks i)) (some n) (key_from p (suc n) ks (p ++ word_at ks i)) ≡ some (n + suc i)
    go true e x r =
        let y : is_in k ks ≡ true = rw (bytes_true k (word_at ks i) e) (at_in ks i (omega arith)) in
        absurd (false≢true (sym x ∙ y))
    go false e x r = rw (same_after p k (word_at ks i), e) (r ∙ ap some (omega arith))

-- what the number of a name says
record Named (p : List ℕ) (n : ℕ) (ks : List (List ℕ)) (w : List ℕ) (m : ℕ) : Type 0 where
  i : ℕ
  within : i < length ks
  at : m ≡ n + i
  is : w ≡ p ++ word_at ks i

key_means : (p : List ℕ) (n : ℕ) (ks : List (List ℕ)) (w : List ℕ) (m : ℕ) → key_from p n ks w ≡ some m → Named p n ks w m
unfolding key_from word_at
key_means p n [] w m e = absurd (none_some e)
key_means p n (k ∷ ks) w m e =
    ⊎_elim
    (λ f. let z : m ≡ n = cc f.1 in record { i = 0; within = omega arith; at = omega arith; is = sym (bytes_true (p ++ k) w f.0) })
    (λ f. let r = key_means p (suc n) ks w m f.1 in record { i = suc r.i; within = omega arith; at = omega arith; is = r.is })
    (cond_cases (same_bytes (p ++ k) w) e)

-- a closing keyword is no opening one
starts_self : (p s : List ℕ) → starts_with p (p ++ s) ≡ true
starts_self [] s = refl
starts_self (a ∷ p) s = rw (eq-eqb a a refl) (starts_self p s)

no_opening : (s : List ℕ) → key_from (46 ∷ []) 1 section_names (46 ∷ (end_word ++ s)) ≡ none
no_opening s = go (key_from (46 ∷ []) 1 section_names (46 ∷ (end_word ++ s))) refl
  where
    go : (o : Option ℕ) → key_from (46 ∷ []) 1 section_names (46 ∷ (end_word ++ s)) ≡ o → o ≡ none
    go none e = refl
    go (some m) e =
        let r = key_means (46 ∷ []) 1 section_names (46 ∷ (end_word ++ s)) m e in
        let x : end_word ++ s ≡ word_at section_names r.i = cc r.is in
        let y : starts_with end_word (word_at section_names r.i) ≡ true = rw (← x) (starts_self end_word s) in
        absurd (false≢true (sym (name_no_end r.i) ∙ y))

-- the number of a section, from 1
pub record IsSection (s : ℕ) : Type 0 where
  pub first : 1 ≤ s
  pub last : s ≤ length section_names

name_found : (p : List ℕ) (s : ℕ) → IsSection s → key_from p 1 section_names (p ++ open_word s) ≡ some s
name_found p zero h = absurd (omega (arith, h.first))
name_found p (suc n) h = key_finds p 1 section_names n names_differ (omega (arith, h.last)) ∙ ap some (omega arith)

-- a section's keywords open and close it
pub keyword_at : (s : ℕ) → IsSection s → (keyword_of (46 ∷ open_word s) ≡ Opening s) × (keyword_of (46 ∷ close_word s) ≡ Closing s)
unfolding keyword_of
keyword_at s h = (rw (name_found (46 ∷ []) s h), rw (no_opening (open_word s), name_found (46 ∷ end_word) s h))

-- and a keyword that opens or closes a section is its own; any other is no section's
abbrev pub KeywordIs : Keyword → List ℕ → Type 0
KeywordIs (Opening s) w = IsSection s × (w ≡ 46 ∷ open_word s)
KeywordIs (Closing s) w = IsSection s × (w ≡ 46 ∷ close_word s)
KeywordIs Unknown w = (s : ℕ) → IsSection s → ((w ≡ 46 ∷ open_word s) → ⊥) × ((w ≡ 46 ∷ close_word s) → ⊥)

named_section : (p w : List ℕ) (m : ℕ) → key_from p 1 section_names w ≡ some m → IsSection m × (w ≡ p ++ open_word m)
named_section p w m e =
    let r = key_means p 1 section_names w m e in
    let z : m ≡ suc r.i = omega arith in
    (record { first = omega arith; last = omega arith }, rw z r.is)

pub keyword_is : (w : List ℕ) → KeywordIs (keyword_of w) w
unfolding keyword_of
keyword_is w = go (key_from (46 ∷ []) 1 section_names w) refl (key_from (46 ∷ end_word) 1 section_names w) refl
  where
    no_name : (p : List ℕ) (s : ℕ) → IsSection s → key_from p 1 section_names w ≡ none → w ≡ p ++ open_word s → ⊥
    no_name p s h e x = none_some {a = s} (sym e ∙ rw x (name_found p s h))

    go : (o : Option ℕ) → key_from (46 ∷ []) 1 section_names w ≡ o → (p : Option ℕ) → key_from (46 ∷ end_word) 1 section_names w ≡ p → KeywordIs (key_by o p) w
    go (some m) e p f = named_section (46 ∷ []) w m e
    go none e (some m) f = named_section (46 ∷ end_word) w m f
    go none e none f = λ s h. (no_name (46 ∷ []) s h e, no_name (46 ∷ end_word) s h f)

-- a section of the table has a number with a name
nth_within : {A : Type 0} (l : List A) (n : ℕ) {x : A} → nth l n ≡ some x → n < length l
nth_within [] n e = absurd (none_some e)
nth_within (y ∷ l) zero e = omega arith
nth_within (y ∷ l) (suc n) e = let h = nth_within l n e in omega arith

pub section_named : (v : Rules) (s : ℕ) {d : SectionForm} → section_at v s ≡ some d → IsSection s
section_named v zero e = absurd (none_some e)
section_named v (suc n) e =
    let h = nth_within (sections v) n e in
    let k = sections_named v in
    record { first = omega arith; last = omega arith }
