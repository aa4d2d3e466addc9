-- A test of records that passes exactly where they are equal.
use mathlib.Core.Path.{◌≡◌, refl, ap, ap₂}
use mathlib.Core.List.{List, [], ◌∷◌}
use mathlib.Core.Bool.{Bool, true, false, ◌&&◌, false≢true}
use borrow.Author.Tests.{eqb-true}
use lib.Dec.{eqb}
use Rattle.basics.proofs.Bytes.{bytes_true, bytes_self}
use Rattle.basics.proofs.Integers.{eq_z_true, eq_z_same}
use Rattle.basics.proofs.Bools.{both, eqb_self}
use Rattle.basics.specs.Integers.{eq_z}
use Rattle.law.specs.Values.{Value, number, word, text, Rec}
use Rattle.law.specs.Words.{same_bytes}

abbrev pub same_value : Value → Value → Bool
same_value (number z) (number y) = eq_z z y
same_value (number z) (word m) = false
same_value (number z) (text t) = false
same_value (word n) (number y) = false
same_value (word n) (word m) = eqb n m
same_value (word n) (text t) = false
same_value (text s) (number y) = false
same_value (text s) (word m) = false
same_value (text s) (text t) = same_bytes s t

unfoldable pub same_values : List Value → List Value → Bool
same_values [] [] = true
same_values [] (w ∷ ws) = false
same_values (v ∷ vs) [] = false
same_values (v ∷ vs) (w ∷ ws) = same_value v w && same_values vs ws

abbrev pub same_rec : Rec → Rec → Bool
same_rec q r = eqb q.kind r.kind && same_values q.values r.values

unfoldable pub same_recs : List Rec → List Rec → Bool
same_recs [] [] = true
same_recs [] (r ∷ rs) = false
same_recs (q ∷ qs) [] = false
same_recs (q ∷ qs) (r ∷ rs) = same_rec q r && same_recs qs rs

value_true : (v w : Value) → same_value v w ≡ true → v ≡ w
value_true (number z) (number y) h = ap number (eq_z_true z y h)
value_true (number z) (word m) h = absurd (false≢true h)
value_true (number z) (text t) h = absurd (false≢true h)
value_true (word n) (number y) h = absurd (false≢true h)
value_true (word n) (word m) h = ap word (eqb-true n m h)
value_true (word n) (text t) h = absurd (false≢true h)
value_true (text s) (number y) h = absurd (false≢true h)
value_true (text s) (word m) h = absurd (false≢true h)
value_true (text s) (text t) h = ap text (bytes_true s t h)

value_self : (v : Value) → same_value v v ≡ true
value_self (number z) = eq_z_same z z refl
value_self (word n) = eqb_self n
value_self (text s) = bytes_self s

values_true : (vs ws : List Value) → same_values vs ws ≡ true → vs ≡ ws
unfolding same_values
values_true [] [] h = refl
values_true [] (w ∷ ws) h = absurd (false≢true h)
values_true (v ∷ vs) [] h = absurd (false≢true h)
values_true (v ∷ vs) (w ∷ ws) h =
    let p = both (same_value v w) (same_values vs ws) h in
    ap₂ (λ (x : Value) (xs : List Value). x ∷ xs) (value_true v w p.0) (values_true vs ws p.1)

values_self : (vs : List Value) → same_values vs vs ≡ true
unfolding same_values
values_self [] = refl
values_self (v ∷ vs) = rw (value_self v) (values_self vs)

rec_true : (q r : Rec) → same_rec q r ≡ true → q ≡ r
rec_true q r h =
    let p = both (eqb q.kind r.kind) (same_values q.values r.values) h in
    let k = eqb-true q.kind r.kind p.0 in
    let v = values_true q.values r.values p.1 in
    λ i. record { kind = k i; values = v i }

-- lists that pass are equal
pub recs_true : (qs rs : List Rec) → same_recs qs rs ≡ true → qs ≡ rs
unfolding same_recs
recs_true [] [] h = refl
recs_true [] (r ∷ rs) h = absurd (false≢true h)
recs_true (q ∷ qs) [] h = absurd (false≢true h)
recs_true (q ∷ qs) (r ∷ rs) h =
    let p = both (same_rec q r) (same_recs qs rs) h in
    ap₂ (λ (x : Rec) (xs : List Rec). x ∷ xs) (rec_true q r p.0) (recs_true qs rs p.1)

-- each passes with itself
pub recs_self : (rs : List Rec) → same_recs rs rs ≡ true
unfolding same_recs
recs_self [] = refl
recs_self (r ∷ rs) = rw (eqb_self r.kind, values_self r.values) (recs_self rs)
