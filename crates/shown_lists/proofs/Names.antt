-- The names of components: what the run tests, and that a new one can always be found.
use Prim.Native.Nat.{ℕ, zero, suc, ◌+◌, ◌≤◌}
use mathlib.Core.Path.{◌≡◌, refl, sym, ap, ◌∙◌}
use mathlib.Core.Logic.{◌≢◌}
use mathlib.Core.List.{List, [], ◌∷◌, ◌++◌}
use mathlib.Core.Bool.{Bool, true, false, cond}
use native.Mathlib.Omega.{arith}
use lib.ListN.{length}
use Rattle.basics.proofs.Bytes.{bytes_true, bytes_self}
use Rattle.basics.proofs.Bools.{both, not_both, fails, neither}
use Rattle.law.specs.Bytes.{all_of, permitted}
use Rattle.law.specs.Values.{Rec}
use Rattle.law.specs.Words.{same_bytes}
use Rattle.law.specs.Fits.{text_byte}
use Rattle.law.specs.declared.Rules.{Rules}
use Rattle.law.specs.Records.{Named, names_a_component, name_in}
use Rattle.order.specs.Automaton.{same_name, is_among}
use Rattle.law.specs.Lists.{names_of, NotAmong, in_none, nor, AllDiffer, nothing_named, and_new}

pub name_true : (a b : Named) → same_name a b ≡ true → a ≡ b
name_true a b h =
    let w = both (same_bytes a.geometry b.geometry) (same_bytes a.number b.number) h in
    let p = bytes_true _ _ w.0 in
    let q = bytes_true _ _ w.1 in
    λ i. record { geometry = p i; number = q i }

name_self : (a : Named) → same_name a a ≡ true
name_self a = rw (bytes_self a.geometry, bytes_self a.number)

pub name_same : (a b : Named) → a ≡ b → same_name a b ≡ true
name_same a b e = rw e (name_self b)

pub not_among : (a : Named) (bs : List Named) → is_among a bs ≡ false → NotAmong a bs
not_among a [] h = in_none
not_among a (b ∷ bs) h =
    let w = neither (same_name a b) (is_among a bs) h in
    nor (λ e. not_both (name_same a b e) w.0) (not_among a bs w.1)

pub among_false : {a : Named} {bs : List Named} → NotAmong a bs → is_among a bs ≡ false
among_false in_none = refl
among_false {a} (nor {b} n k) = rw (fails a b (same_name a b) (name_true a b) n) (among_false k)

pub data Unused : List Named → List Named → Type 0 where
  unused_none : {used : List Named} → Unused used []
  unused_one : {used ns : List Named} {n : Named} → NotAmong n used → Unused (n ∷ used) ns → Unused used (n ∷ ns)

-- every name of ns is not among used
data Apart (used : List Named) : List Named → Type 0 where
  apart_none : Apart used []
  apart_one : {n : Named} {ns : List Named} → NotAmong n used → Apart used ns → Apart used (n ∷ ns)

apart_tail : {u : Named} {used ns : List Named} → Apart (u ∷ used) ns → Apart used ns
apart_tail apart_none = apart_none
apart_tail (apart_one (nor e k) r) = apart_one k (apart_tail r)

apart_head : {u : Named} {used ns : List Named} → Apart (u ∷ used) ns → NotAmong u ns
apart_head apart_none = in_none
apart_head (apart_one (nor e k) r) = nor (λ h. e (sym h)) (apart_head r)

apart_cons : {u : Named} {used ns : List Named} → NotAmong u ns → Apart used ns → Apart (u ∷ used) ns
apart_cons in_none apart_none = apart_none
apart_cons (nor e k) (apart_one n r) = apart_one (nor (λ h. e (sym h)) n) (apart_cons k r)

unused_apart : {used ns : List Named} → Unused used ns → AllDiffer ns × Apart used ns
unused_apart unused_none = (nothing_named, apart_none)
unused_apart (unused_one n r) = let w = unused_apart r in (and_new (apart_head w.1) w.0, apart_one n (apart_tail w.1))

apart_unused : {used ns : List Named} → AllDiffer ns → Apart used ns → Unused used ns
apart_unused nothing_named apart_none = unused_none
apart_unused (and_new n d) (apart_one m r) = unused_one m (apart_unused d (apart_cons n r))

apart_from_none : (ns : List Named) → Apart [] ns
apart_from_none [] = apart_none
apart_from_none (n ∷ ns) = apart_one in_none (apart_from_none ns)

pub unused_differ : {ns : List Named} → Unused [] ns → AllDiffer ns
unused_differ u = (unused_apart u).0

pub differ_unused : {ns : List Named} → AllDiffer ns → Unused [] ns
differ_unused {ns} d = apart_unused d (apart_from_none ns)

-- bytes A
abbrev pub letters : ℕ → List ℕ
letters zero = []
letters (suc n) = 65 ∷ letters n

pub letters_text : (n : ℕ) → all_of text_byte (letters n) ≡ true
unfolding all_of permitted
letters_text zero = refl
letters_text (suc n) = letters_text n

letters_length : (n : ℕ) → length (letters n) ≡ n
letters_length zero = refl
letters_length (suc n) = ap suc (letters_length n)

-- longer than every geometry
abbrev pub longest : List Named → ℕ
longest [] = 1
longest (n ∷ ns) = length n.geometry + longest ns

longest_some : (ns : List Named) → 1 ≤ longest ns
longest_some [] = omega arith
longest_some (n ∷ ns) = omega (arith, longest_some ns)

not_last : {a c : Named} {bs : List Named} → a ≢ c → NotAmong a bs → NotAmong a (bs ++ (c ∷ []))
not_last n in_none = nor n in_none
not_last n (nor e k) = nor e (not_last n k)

pub new_last : {ns : List Named} (m : ℕ) (b : List ℕ) → longest ns ≤ m → AllDiffer ns
    → AllDiffer (ns ++ (record { geometry = letters m; number = b } ∷ []))
new_last m b h nothing_named = and_new in_none nothing_named
new_last m b h (and_new {a} {bs} n d) = and_new (not_last differs n) (new_last m b (omega arith) d)
  where
    differs : a ≢ record { geometry = letters m; number = b }
    differs e = let z : length a.geometry ≡ m = ap (λ (x : Named). length x.geometry) e ∙ letters_length m in omega (arith, longest_some bs)

module _ (v : Rules) where
  pub names_append : (rs ms : List Rec) → names_of v (rs ++ ms) ≡ names_of v rs ++ names_of v ms
  names_append [] ms = refl
  names_append (r ∷ rs) ms = go (names_a_component v r.kind) (names_append rs ms)
    where
      go : (b : Bool) → names_of v (rs ++ ms) ≡ names_of v rs ++ names_of v ms
          → cond b (name_in r ∷ names_of v (rs ++ ms)) (names_of v (rs ++ ms)) ≡ cond b (name_in r ∷ names_of v rs) (names_of v rs) ++ names_of v ms
      go true e = ap (λ (x : List Named). name_in r ∷ x) e
      go false e = e
