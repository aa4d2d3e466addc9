-- Laws of names, as the code finds them, and of what bytes mean.
use Prim.Native.Nat.{ℕ}
use mathlib.Core.Path.{◌≡◌, refl, sym, ap, ◌∙◌}
use mathlib.Core.List.{List}
use mathlib.Core.Bool.{Bool, true, false, ◌||◌, or-false}
use Rattle.law.specs.Bytes.{ascii}
use Rattle.law.specs.Words.{named, is_in, folded, same_bytes}
use Rattle.law.specs.Fits.{is_name, meaning}
use Rattle.law.specs.declared.Texts.{Texts}
use Rattle.law.specs.declared.Texts.TheVariants.{Plain, Reference, Hole}
use Rattle.law.specs.declared.FieldType.{FieldType}
use Rattle.basics.specs.Letters.{cased}
use Rattle.basics.proofs.Bytes.{bytes_true, bytes_same}
use Rattle.basics.proofs.Meanings.{meaning_cased}

module _ (s : List ℕ) (x : Bool) (e : x ≡ same_bytes (cased true s) (cased false (ascii "NOREFDES"))) where
  pub names_none : x ≡ true → x ≡ is_in (folded s) (named Reference)
  unfolding named is_in cased
  names_none h = h ∙ rw (sym e ∙ h)

  pub names_board : (y : Bool) → x ≡ false → y ≡ same_bytes (cased true s) (cased false (ascii "BOARD")) → y ≡ is_in (folded s) (named Reference)
  unfolding named is_in cased
  names_board y h f = rw (sym e ∙ h) (f ∙ sym (or-false (same_bytes (folded s) (ascii "BOARD"))))

module _ (k : Texts) (s : List ℕ) where
  pub named_plain : k ≡ Plain → false ≡ is_in (folded s) (named k)
  unfolding named is_in
  named_plain h = rw h

  pub named_reference : (r : Bool) → k ≡ Reference → r ≡ is_in (folded s) (named Reference) → r ≡ is_in (folded s) (named k)
  named_reference r h e = rw h e

  pub named_hole : (x y : Bool) → k ≡ Hole → x ≡ is_in (folded s) (named Reference) → y ≡ same_bytes (cased true s) (cased false (ascii "PANEL")) → x || y ≡ is_in (folded s) (named k)
  unfolding named is_in cased
  named_hole x y h e f = rw (h, e, f) (go (same_bytes (folded s) (ascii "NOREFDES")) (same_bytes (folded s) (ascii "BOARD")) (same_bytes (folded s) (ascii "PANEL")))
    where
      go : (a b c : Bool) → (a || (b || false)) || c ≡ a || (b || (c || false))
      go true b c = refl
      go false true c = refl
      go false false true = refl
      go false false false = refl

module _ (t : FieldType) (s : List ℕ) where
  -- by what was found
  module _ (x : Bool) (e : x ≡ is_name t s) (word : List ℕ) (r : Bool) where
    pub means_name : x ≡ true → r ≡ same_bytes (cased true s) (cased false word) → r ≡ same_bytes (meaning t s) word
    unfolding cased
    means_name h f = f ∙ ap (λ (u : List ℕ). same_bytes u word) (meaning_cased t s true (sym h ∙ e))

    pub means_itself : x ≡ false → r ≡ same_bytes s word → r ≡ same_bytes (meaning t s) word
    unfolding cased
    means_itself h f = f ∙ ap (λ (u : List ℕ). same_bytes u word) (meaning_cased t s false (sym h ∙ e))

module _ (t : FieldType) (a b : List ℕ) where
  -- what has the same bytes means the same
  pub same_own : (r : Bool) → r ≡ same_bytes a b → r ≡ true → r ≡ same_bytes (meaning t a) (meaning t b)
  same_own r e h = h ∙ sym (bytes_same (meaning t a) (meaning t b) (ap (meaning t) (bytes_true a b (sym e ∙ h))))

  pub same_meant : (x y r : Bool) → x ≡ is_name t a → y ≡ is_name t b → r ≡ same_bytes (cased x a) (cased y b) → r ≡ same_bytes (meaning t a) (meaning t b)
  same_meant x y r e f g = g ∙ rw (meaning_cased t a x e, meaning_cased t b y f)

-- what each function of the code is proved by
pub ruleset reference_laws = (names_none, names_board)

pub ruleset named_laws = (named_plain, named_reference, named_hole)

pub ruleset means_laws = (means_name, means_itself)

pub ruleset same_laws = (same_own, same_meant)
