-- An integer is read exactly where the rules spell it.
use Rattle.std.proofs.lemmas.Option.{none-some}
use Rattle.std.proofs.Common.{Option, Some, None}
use Prim.Native.Nat.{ℕ, ◌≤◌}
use mathlib.Core.Path.{◌≡◌, refl, ap, sym, ◌∙◌}
use mathlib.Core.Logic.{⊎_elim}
use mathlib.Core.List.{List, [], ◌∷◌, ◌++◌, append_assoc, append-nil}
use mathlib.Core.Bool.{Bool, true, false, cond, false≢true}
use native.Mathlib.Omega.{arith}
use native.Mathlib.Nat.{zero-add}
use borrow.Author.Tests.{eqb-true, ne_eqb, le-leb, leb-true}
use lib.Dec.{leb, eqb}
use lib.IntN.{ℤ, pos}
use Rattle.basics.proofs.Bools.{cond_cases}
use Rattle.number.specs.Signs.{signed}
use Rattle.law.specs.Limits.{largest_integer}
use Rattle.law.specs.Numbers.{is_digit, Numeral, one, more}
use Rattle.number.specs.Numbers.{digit_here}
use Rattle.number.specs.Integers.{digits, whole_by, unsigned, read_integer}
use Rattle.law.specs.Integers.{SpellsInteger, plain, plus, minus}
use Rattle.number.specs.declared.Integer.{Integer}
use Rattle.number_read.proofs.NumberLaws.{digit_low}
use Rattle.number_read.proofs.NumberSpelling.{digit_is, digit_val, digit_of, numeral_first}

-- Complete
digits_complete : {n : ℕ} {l : List ℕ} → Numeral n l → (rest : List ℕ) → digits 0 (l ++ rest) ≡ digits n rest
unfolding digits
digits_complete (one {d} g) rest = rw (digit_is g, digit_val g, zero-add d)
digits_complete (more {n} {d} {b} {l} r g) rest =
    rw append_assoc (digits_complete r (b ∷ rest) ∙ rw (digit_is g, digit_val g))

unsigned_complete : {n : ℕ} {l : List ℕ} → Numeral n l → n ≤ largest_integer → (neg : Bool) → unsigned neg l ≡ Some (record { 0 = signed neg n })
unfolding unsigned digits
unsigned_complete {n} {l} r h neg =
    let f = rw append-nil at (numeral_first r []) in
    let e = rw append-nil at (digits_complete r []) in
    rw (f, e, le-leb n largest_integer h)

read_digit : (l : List ℕ) → digit_here l ≡ true → read_integer l ≡ unsigned false l
unfolding read_integer digit_here
read_digit [] h = absurd (false≢true h)
read_digit (b ∷ l) h =
    let low = digit_low b h in
    rw (ne_eqb b 45 (omega arith), ne_eqb b 43 (omega arith))

pub integer_complete : {z : ℤ} {l : List ℕ} → SpellsInteger z l → read_integer l ≡ Some (record { 0 = z })
unfolding read_integer
integer_complete (plain {n} {l} r h) = read_digit l (rw append-nil at (numeral_first r [])) ∙ unsigned_complete r h false
integer_complete (plus r h) = unsigned_complete r h false
integer_complete (minus r h) = unsigned_complete r h true

-- Sound
module _ {A : Type 0} where
  cond_some : (t : Bool) {x : Option A} {a : A} → cond t x None ≡ Some a → (t ≡ true) × (x ≡ Some a)
  cond_some true h = (refl, h)
  cond_some false h = absurd (none-some _ h)

digits_sound : (s : List ℕ) {p : List ℕ} {n m : ℕ} → Numeral n p → digits n s ≡ Some m → Numeral m (p ++ s)
unfolding digits
digits_sound [] {p} {n} {m} r e = let z : m ≡ n = cc in rw (append-nil p, z) r
digits_sound (b ∷ s) {p} r e =
    let g = cond_some (is_digit b) e in
    rw append_assoc at (digits_sound s (more r (digit_of g.0)) g.1)

all_sound : (s : List ℕ) (m : ℕ) → digit_here s ≡ true → digits 0 s ≡ Some m → Numeral m s
unfolding digits digit_here
all_sound [] m d e = absurd (false≢true d)
all_sound (b ∷ s) m d e =
    let g = cond_some (is_digit b) e in
    digits_sound s (one (digit_of d)) (rw zero-add at g.1)

-- what an integer that was read says
record Got (neg : Bool) (i : Integer) (s : List ℕ) : Type 0 where
  n : ℕ
  is : i.0 ≡ signed neg n
  numeral : Numeral n s
  within : n ≤ largest_integer

unsigned_sound : (s : List ℕ) (neg : Bool) (i : Integer) → unsigned neg s ≡ Some i → Got neg i s
unfolding unsigned
unsigned_sound s neg i e =
    let g = cond_some (digit_here s) e in
    go (digits 0 s) refl g.1 g.0
  where
    go : (o : Option ℕ) → digits 0 s ≡ o → whole_by neg o ≡ Some i → digit_here s ≡ true → Got neg i s
    go None h e d = absurd (none-some _ e)
    go (Some n) h e d =
        let c = cond_some (leb n largest_integer) e in
        let w : record { 0 = signed neg n } ≡ i = cc c.1 in
        record { n = n; is = ap (λ (j : Integer). j.0) (sym w); numeral = all_sound s n d h; within = leb-true n largest_integer c.0 }

pub integer_sound : (s : List ℕ) (i : Integer) → read_integer s ≡ Some i → SpellsInteger i.0 s
unfolding read_integer
integer_sound [] i h = absurd (none-some _ h)
integer_sound (b ∷ s) i h =
    ⊎_elim
    (λ e. let r = unsigned_sound s true i e.1 in rw (eqb-true b 45 e.0, r.is) (minus r.numeral r.within))
    (λ e. ⊎_elim
    (λ f. let r = unsigned_sound s false i f.1 in rw (eqb-true b 43 f.0, r.is) (plus r.numeral r.within))
    (λ f. let r = unsigned_sound (b ∷ s) false i f.1 in rw r.is (plain r.numeral r.within))
    (cond_cases (eqb b 43) e.1))
    (cond_cases (eqb b 45) h)

-- So a list of bytes spells one integer at most
held : Option Integer → ℤ
held (Some i) = i.0
held None = pos 0
