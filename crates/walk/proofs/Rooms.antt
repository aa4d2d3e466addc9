-- What a line that has fields is made of: a first field that ends within it, and a keyword's section that there is.
use Prim.Native.Nat.{ℕ, suc, ◌+◌, ◌^◌, ◌≤◌, ◌<◌}
use mathlib.Core.Path.{◌≡◌, refl, sym, subst, ◌∙◌}
use mathlib.Core.List.{List, [], ◌∷◌}
use mathlib.Core.Option.{Option, none, some}
use mathlib.Core.Bool.{Bool, true, false, cond, not, false≢true, and-false}
use native.Mathlib.Omega.{arith}
use borrow.Author.Tests.{leb-true, not-false}
use lib.Dec.{leb, eqb}
use lib.ListN.{length}
use Rattle.law.specs.Bytes.{permitted, all_of, begins}
use Rattle.law.specs.Fields.{Field, field}
use Rattle.text_fields.specs.FirstField.{FirstField, field_of}
use Rattle.text_fields.specs.Fields.{fields_of}
use Rattle.std.specs.Prelude.{None, Some as Found, Ok, Err, Result}
use Rattle.text_fields.proofs.Bounds.{Bounded, bounded}
use Rattle.law.specs.Sections.{section_names, sections}
use Rattle.law.specs.Words.{end_word, same_bytes, folded}
use Rattle.law.specs.Kinds.{section_of, role_of, last_kind}
use Rattle.law.specs.declared.Role.TheVariants.{Unknown as unknown}
use Rattle.form.specs.Reading.{Line, free, bad, key_line, data_line, by_first, by_fields, line_as, key_from, key_by, keyword_of}
use Rattle.law.specs.declared.Rules.{Rules}
use Rattle.law.specs.declared.refusals.Refusal.{Refusal}
use Rattle.law.specs.declared.refusals.Refusal.TheVariants.{ForbiddenByte}
use Rattle.law.specs.declared.Rules.TheVariants.{Idf3}
use Rattle.form.specs.declared.Keyword.{Keyword}
use Rattle.line_rows.specs.LineKinds.{behind, kind_by, kind_of}
use Rattle.line_rows.specs.declared.LineKind.{LineKind}
use Rattle.line_rows.specs.declared.LineKind.TheVariants.{Free, Key, Data}
use Rattle.order.specs.Places.{key_section}
use Rattle.order.specs.Automaton.{may_stand, stands_in}
use Rattle.order.specs.declared.Phase.{Phase}
use Rattle.order.specs.declared.Phase.TheVariants.{AwaitTitle, AwaitName, HeaderFull, AwaitLead, InPoints, InProps, InList, AwaitPart, AwaitPosition}
use Rattle.order.specs.declared.State.{State}
use Rattle.order.specs.declared.State.TheVariants.{Between, Inside}

-- a keyword's section is one of fifteen

abbrev Below : ℕ → Option ℕ → Type 0
Below k none = Unit {0}
Below k (some n) = n < k

key_below : (p : List ℕ) (n : ℕ) (ks : List (List ℕ)) (w : List ℕ) → Below (n + length ks) (key_from p n ks w)
unfolding key_from
key_below p n [] w = tt
key_below p n (k ∷ ks) w = go (same_bytes _ w) (key_below p (suc n) ks w)
  where
    up : (o : Option ℕ) → Below (suc n + length ks) o → Below (n + length (k ∷ ks)) o
    up none h = tt
    up (some m) h = omega arith

    go : (b : Bool) → Below (suc n + length ks) (key_from p (suc n) ks w) → Below (n + length (k ∷ ks)) (cond b (some n) (key_from p (suc n) ks w))
    go true h = omega arith
    go false h = up (key_from p (suc n) ks w) h

pub section_few : (w : List ℕ) → key_section (keyword_of w) ≤ 15
unfolding keyword_of section_names sections
section_few w =
    go (key_from (46 ∷ []) 1 section_names w) (key_from (46 ∷ end_word) 1 section_names w) (key_below (46 ∷ []) 1 section_names w)
    (key_below (46 ∷ end_word) 1 section_names w)
  where
    go : (a b : Option ℕ) → Below 16 a → Below 16 b → key_section (key_by a b) ≤ 15
    go (some n) b h i = omega arith
    go none (some n) h i = omega arith
    go none none h i = omega arith

-- the first field of a line ends within it
behind_within : (s : List ℕ) → behind (field_of s) ≤ length s
behind_within s = go (field_of s) (bounded s)
  where
    go : (x : FirstField) → Bounded 0 (length s) x → behind x ≤ length s
    go (Ok None) h = omega arith
    go (Ok (Found f)) h = let w = h.within in omega arith
    go (Err e) h = omega arith

-- a data line has a field
abbrev Some : Line → Type 0
Some free = Unit {0}
Some (bad n) = Unit {0}
Some (key_line w fs) = Unit {0}
Some (data_line fs) = 1 ≤ length fs

some_data : (s : List ℕ) → Some (line_as s)
unfolding line_as
some_data s = go (begins 35 s) (all_of permitted s) (fields_of s)
  where
    first : (t : Bool) (w : List ℕ) (fs : List Field) → Some (cond t (key_line (folded w) fs) (data_line (field false w ∷ fs)))
    first true w fs = tt
    first false w fs = omega arith

    by : (fs : List Field) → Some (by_first fs)
    by [] = tt
    by (field true w ∷ fs) = omega arith
    by (field false w ∷ fs) = first (begins 46 w) w fs

    go : (a b : Bool) (o : Option (List Field)) → Some (cond a free (cond b (by_fields o) (bad ForbiddenByte)))
    go true b o = tt
    go false true none = tt
    go false true (some fs) = by fs
    go false false o = tt

-- a line's answer with its places in it
record Room (s : List ℕ) (n m : ℕ) : Type 0 where
  some : 1 ≤ n
  within : m ≤ length s

abbrev Roomy : List ℕ → Result LineKind Refusal → Type 0
Roomy s (Ok Free) = Unit {0}
Roomy s (Ok (Key w n m)) = (key_section w ≤ 15) × Room s n m
Roomy s (Ok (Data p n m)) = Room s n m
Roomy s (Err e) = Unit {0}

roomy : (s : List ℕ) → Roomy s (kind_of s)
unfolding kind_of
roomy s = go (line_as s) (some_data s) (behind_within s)
  where
    go : (l : Line) → Some l → behind (field_of s) ≤ length s → Roomy s (kind_by l (behind (field_of s)))
    go free h b = tt
    go (bad n) h b = tt
    go (key_line w fs) h b = (section_few w, record { some = omega arith; within = b })
    go (data_line fs) h b = record { some = h; within = b }

module _ (s : List ℕ) (x : Result LineKind Refusal) (e : x ≡ kind_of s) where
  module _ (w : Keyword) (n m : ℕ) (h : x ≡ Ok (Key w n m)) where
    pub key_few : key_section w ≤ 15
    key_few = (subst (Roomy s) (sym e ∙ h) (roomy s)).0

    pub key_some : 1 ≤ n
    key_some = (subst (Roomy s) (sym e ∙ h) (roomy s)).1.some

    pub key_within : m ≤ length s
    key_within = (subst (Roomy s) (sym e ∙ h) (roomy s)).1.within

  module _ (p : Bool) (n m : ℕ) (h : x ≡ Ok (Data p n m)) where
    pub data_some : 1 ≤ n
    data_some = (subst (Roomy s) (sym e ∙ h) (roomy s)).some

    pub data_within : m ≤ length s
    data_within = (subst (Roomy s) (sym e ∙ h) (roomy s)).within

-- a kind that may stand is small

nowhere : (p : Phase) → stands_in p unknown ≡ false
nowhere AwaitTitle = refl
nowhere (AwaitName t) = refl
nowhere (HeaderFull t) = refl
nowhere AwaitLead = refl
nowhere (InPoints l) = refl
nowhere InProps = refl
nowhere InList = refl
nowhere AwaitPart = refl
nowhere AwaitPosition = refl

large_unknown : (v : Rules) (k : ℕ) → leb k last_kind ≡ false → role_of v k ≡ unknown
unfolding role_of section_of
large_unknown Idf3 k h = rw h

large_nowhere : (v : Rules) (st : State) (k : ℕ) → leb k last_kind ≡ false → may_stand v st k ≡ false
unfolding may_stand
large_nowhere v (Between g) k h = rw (large_unknown v k h)
large_nowhere v (Inside g s p) k h = rw (large_unknown v k h, nowhere p) (and-false (eqb (section_of v k) s))

pub stand_small : (v : Rules) (st : State) (k : ℕ) (x : Bool) → x ≡ may_stand v st k → not x ≡ false → k < 2 ^ 63
stand_small v st k x e h = go (leb k last_kind) refl
  where
    go : (b : Bool) → leb k last_kind ≡ b → k < 2 ^ 63
    go true i = let l = leb-true k last_kind i in omega arith
    go false i = absurd (false≢true (sym (large_nowhere v st k i) ∙ sym e ∙ not-false x h))
