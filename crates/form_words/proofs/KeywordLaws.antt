-- Laws of keywords: what a row of their table says of the rule for a period and a name, or a period, END_ and a name.
use Prim.Native.Nat.{ℕ, suc, ◌+◌, ◌-◌, ◌≤◌}
use mir.Syntax.{w64}
use mir.Val.{Fits}
use mathlib.Core.Path.{◌≡◌, refl, sym, ap, ◌∙◌}
use mathlib.Core.List.{List, [], ◌∷◌, ◌++◌, map}
use mathlib.Core.Option.{Option as Place, none, some}
use Rattle.std.specs.Prelude.{Option, Some, None}
use mathlib.Core.Bool.{Bool, true, false, cond, and-true, true≢false, false≢true}
use native.Mathlib.Omega.{arith}
use native.Mathlib.Numerals.{add-one}
use borrow.Author.Tests.{eqb-true, eq-eqb, ne_eqb, leb-true}
use Rattle.std.specs.Cmp.Lexicographic.{pointwise}
use lib.Dec.{eqb, leb}
use lib.ListN.{length, take, drop}
use Rattle.basics.proofs.Bools.{and_left}
use Rattle.law.specs.Bytes.{begins}
use Rattle.law.specs.Words.{end_word, same_bytes, is_small, capital, folded}
use Rattle.law.specs.Sections.{section_names, sections}
use Rattle.form.specs.Reading.{key_from, key_by, keyword_of}
use Rattle.form_words.specs.Padded.{trimmed, keyword_table, sought, closing_by, closing_of}
use Rattle.form.specs.declared.Keyword.{Keyword}
use Rattle.form.specs.declared.Keyword.TheVariants.{Opening, Closing, Unknown}
use Rattle.form_words.proofs.PaddedLaws.{matched_is}
use Rattle.form_words.proofs.SeekLaws.{sought_below}

-- the table holds the names, and END_ before each
abbrev names : List (List ℕ)
names = take 15 (drop 0 keyword_table)

abbrev closings : List (List ℕ)
closings = take 15 (drop 15 keyword_table)

names_are : map trimmed names ≡ section_names
unfolding keyword_table trimmed section_names sections
names_are = refl

closings_are : map trimmed closings ≡ map (λ k. end_word ++ k) section_names
unfolding keyword_table trimmed section_names sections
closings_are = refl

end_names : (n : ℕ) (ks : List (List ℕ)) (w : List ℕ) → key_from (46 ∷ end_word) n ks w ≡ key_from (46 ∷ []) n (map (λ k. end_word ++ k) ks) w
unfolding key_from
end_names n [] w = refl
end_names n (k ∷ ks) w = rw (end_names (suc n) ks w)

-- sections are numbered from 1, rows from 0
abbrev Agree : Place ℕ → Option ℕ → Type 0
Agree none None = Unit {0}
Agree none (Some n) = ⊥
Agree (some m) None = ⊥
Agree (some m) (Some n) = m ≡ n + 1

-- behind a period a row is sought in capitals
key_agrees : (n : ℕ) (rows : List (List ℕ)) (t : List ℕ) → Agree (key_from (46 ∷ []) (suc n) (map trimmed rows) (46 ∷ folded t)) (sought n rows t)
unfolding key_from sought same_bytes
key_agrees n [] t = tt
key_agrees n (r ∷ rows) t = rw (matched_is r t) (go (same_bytes (trimmed r) (folded t)) (key_agrees (suc n) rows t))
  where
    go : (x : Bool) → Agree (key_from (46 ∷ []) (suc (suc n)) (map trimmed rows) (46 ∷ folded t)) (sought (suc n) rows t) → Agree (cond x (some (suc n)) (key_from (46 ∷ []) (suc (suc n)) (map trimmed rows) (46 ∷ folded t))) (cond x (Some n) (sought (suc n) rows t))
    go true e = sym (add-one n)
    go false e = e

-- a keyword by what is found among the names, and among the closing forms
abbrev opening_by : Option ℕ → Option ℕ → Keyword
opening_by (Some n) g = Opening (n + 1)
opening_by None g = closing_by g

by_names : (a b : Place ℕ) (f g : Option ℕ) → Agree a f → Agree b g → key_by a b ≡ opening_by f g
by_names none none None None p q = refl
by_names none none None (Some n) p q = absurd q
by_names none none (Some n) g p q = absurd p
by_names none (some m) None None p q = absurd q
by_names none (some m) None (Some n) p q = ap Closing q
by_names none (some m) (Some n) g p q = absurd p
by_names (some m) b None g p q = absurd p
by_names (some m) b (Some n) g p q = ap Opening p

keyword_is : (t : List ℕ) → keyword_of (folded (46 ∷ t)) ≡ opening_by (sought 0 names t) (sought 0 closings t)
unfolding keyword_of folded
keyword_is t =
    by_names (key_from (46 ∷ []) 1 section_names (46 ∷ folded t)) (key_from (46 ∷ end_word) 1 section_names (46 ∷ folded t)) (sought 0 names t) (sought 0 closings t)
    (rw names_are at (key_agrees 0 names t)) (rw (end_names 1 section_names (46 ∷ folded t)) (rw closings_are at (key_agrees 0 closings t)))

opened : (s : List ℕ) (n : ℕ) → begins 46 s ≡ true → sought 0 names (drop 1 s) ≡ Some n → keyword_of (folded s) ≡ Opening (n + 1)
unfolding begins
opened [] n h e = absurd (false≢true h)
opened (b ∷ t) n h e = rw (eqb-true b 46 h) (keyword_is t ∙ rw e)

closed : (s : List ℕ) → begins 46 s ≡ true → sought 0 names (drop 1 s) ≡ None → keyword_of (folded s) ≡ closing_of (drop 1 s)
unfolding begins
closed [] h e = absurd (false≢true h)
closed (b ∷ t) h e = rw (eqb-true b 46 h) (keyword_is t ∙ rw e)

-- the first byte, as the code compares it
period : (s : List ℕ) → pointwise eqb (take 1 s) (46 ∷ []) ≡ begins 46 s
unfolding begins
period [] = refl
period (b ∷ s) = and-true (eqb b 46)

-- without a period it is none
no_key : (p : List ℕ) (n : ℕ) (ks : List (List ℕ)) (b : ℕ) (t : List ℕ) → eqb 46 b ≡ false → key_from (46 ∷ p) n ks (b ∷ t) ≡ none
unfolding key_from same_bytes
no_key p n [] b t h = refl
no_key p n (k ∷ ks) b t h = rw h (no_key p (suc n) ks b t h)

no_key_nil : (p : List ℕ) (n : ℕ) (ks : List (List ℕ)) → key_from (46 ∷ p) n ks [] ≡ none
unfolding key_from same_bytes
no_key_nil p n [] = refl
no_key_nil p n (k ∷ ks) = no_key_nil p (suc n) ks

capital_period : (b : ℕ) → eqb b 46 ≡ false → eqb 46 (capital b) ≡ false
capital_period b h = ne_eqb 46 (capital b) (go (is_small b) refl)
  where
    go : (x : Bool) → is_small b ≡ x → 46 ≡ cond x (b - 32) b → ⊥
    go true s e = omega (arith, leb-true 97 b (and_left (leb 97 b) (leb b 122) s))
    go false s e = true≢false (sym (eq-eqb b 46 (sym e)) ∙ h)

no_period : (s : List ℕ) → begins 46 s ≡ false → keyword_of (folded s) ≡ Unknown
unfolding keyword_of folded begins
no_period [] h = rw (no_key_nil [] 1 section_names, no_key_nil end_word 1 section_names)
no_period (b ∷ t) h =
    let k = capital_period b h in
    rw (no_key [] 1 section_names (capital b) (folded t) k, no_key end_word 1 section_names (capital b) (folded t) k)

-- what the code answers: b is the first byte and a period, and t what follows it
module _ (s : List ℕ) where
  pub key_none : pointwise eqb (take 1 s) (46 ∷ []) ≡ false → Unknown ≡ keyword_of (folded s)
  key_none h = sym (no_period s (sym (period s) ∙ h))

  module _ (h : pointwise eqb (take 1 s) (46 ∷ []) ≡ true) (t : List ℕ) (e : t ≡ drop 1 s) (f : Option ℕ) (m : f ≡ sought 0 names t) where
    pub key_open : (n : ℕ) → f ≡ Some n → Opening (n + 1) ≡ keyword_of (folded s)
    key_open n k = sym (opened s n (sym (period s) ∙ h) (sym (rw e at m) ∙ k))

    pub key_close : (k : Keyword) → f ≡ None → k ≡ closing_of t → k ≡ keyword_of (folded s)
    key_close k q c = (rw e at c) ∙ sym (closed s (sym (period s) ∙ h) (sym (rw e at m) ∙ q))

-- and where no section is opened
module _ (s : List ℕ) (f : Option ℕ) (m : f ≡ sought 0 closings s) where
  pub close_found : (n : ℕ) → f ≡ Some n → Closing (n + 1) ≡ closing_of s
  close_found n k = sym (ap closing_by (sym m ∙ k))

  pub close_lost : f ≡ None → Unknown ≡ closing_of s
  close_lost k = sym (ap closing_by (sym m ∙ k))

-- a section's number fits
pub number_fits : (rows : List (List ℕ)) (s : List ℕ) (f : Option ℕ) (n : ℕ) → length rows ≤ 15 → f ≡ sought 0 rows s → f ≡ Some n → Fits w64 (n + 1)
number_fits rows s f n l e h = omega (arith, sought_below 0 rows s n (sym e ∙ h))
