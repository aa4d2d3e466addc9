-- Laws of the kind that a data line has by its place.
use Prim.Native.Nat.{ℕ, ◌+◌, ◌*◌, ◌≤◌}
use mathlib.Core.Path.{◌≡◌, refl, sym, ap, subst, ◌∙◌}
use Rattle.std.specs.Prelude.{Option, Some as some, None as none}
use mathlib.Core.Bool.{Bool, true, false, cond, ◌&&◌}
use native.Mathlib.Omega.{arith}
use mir.Syntax.{w64}
use mir.Val.{Fits}
use borrow.Author.Tests.{ne_eqb, eqb-true, leb-true, leb-false}
use lib.Dec.{leb, eqb}
use Rattle.basics.proofs.Tables.{all_below, below_all}
use Rattle.basics.proofs.Bools.{and_left, and_right}
use Rattle.law.specs.Sections.{Shape, header, outline, component, keepout, listing, placements, sections}
use Rattle.law.specs.Kinds.{kind_at}
use Rattle.form.specs.declared.Keyword.{Keyword}
use Rattle.form.specs.declared.Keyword.TheVariants.{Opening, Closing, Unknown}
use Rattle.law.specs.declared.Rules.{Rules}
use Rattle.law.specs.declared.Rules.TheVariants.{Idf3}
use Rattle.law.specs.Records.{shape_of}
use Rattle.order.specs.Places.{point_line, has_props, line_at, section_in, kind_by, data_kind, key_section, key_kind}
use Rattle.order.specs.declared.Stage.{Stage}
use Rattle.order_loops.specs.declared.LoopState.{LoopState}
use Rattle.order.specs.declared.Phase.{Phase}
use Rattle.order.specs.declared.Phase.TheVariants.{AwaitTitle, AwaitName, HeaderFull, AwaitLead, InPoints, InProps, InList, AwaitPart, AwaitPosition}
use Rattle.order.specs.declared.State.{State}
use Rattle.order.specs.declared.State.TheVariants.{Between, Inside}
use Rattle.order.proofs.SectionStarts.{shape_beyond}

-- what the code reads off the number of a section
abbrev flag : Bool → ℕ
flag true = 1
flag false = 0

flag_eq : (a b : Bool) → flag a ≡ flag b → a ≡ b
flag_eq true true h = refl
flag_eq true false h = absurd (omega arith)
flag_eq false true h = absurd (omega arith)
flag_eq false false h = refl

-- the line that holds the points, by whether there is no leading line
abbrev points_at : Bool → ℕ
points_at true = 1
points_at false = 2

abbrev told_right : Rules → ℕ → Bool
told_right v s = eqb (flag (eqb s 14)) (flag (has_props (shape_of v s))) && eqb (points_at (eqb s 8)) (point_line (shape_of v s))

told_below : (v : Rules) → all_below 16 (told_right v) ≡ true
unfolding shape_of sections
told_below Idf3 = refl

told : (v : Rules) (s : ℕ) → told_right v s ≡ true
told v s = go (leb s 15) refl
  where
    go : (t : Bool) → leb s 15 ≡ t → told_right v s ≡ true
    go true h = below_all 16 (told_right v) (told_below v) s (omega (arith, leb-true s 15 h))
    go false h = rw (shape_beyond v s (omega (arith, leb-false s 15 h)), ne_eqb s 14 (λ e. omega (arith, e, leb-false s 15 h)), ne_eqb s 8 (λ e. omega (arith, e, leb-false s 15 h)))

pub props_is : (v : Rules) (s : ℕ) → eqb s 14 ≡ has_props (shape_of v s)
props_is v s = flag_eq (eqb s 14) (has_props (shape_of v s)) (eqb-true (flag (eqb s 14)) (flag (has_props (shape_of v s))) (and_left (eqb (flag (eqb s 14)) (flag (has_props (shape_of v s)))) _ (told v s)))

point_is : (v : Rules) (s : ℕ) → points_at (eqb s 8) ≡ point_line (shape_of v s)
point_is v s = eqb-true (points_at (eqb s 8)) (point_line (shape_of v s)) (and_right (eqb (flag (eqb s 14)) (flag (has_props (shape_of v s)))) _ (told v s))

pub point_first : (v : Rules) (s : ℕ) → s ≡ 8 → 1 ≡ point_line (shape_of v s)
point_first v s h = rw h (point_is v 8)

pub point_second : (v : Rules) (s : ℕ) → (s ≡ 8 → ⊥) → 2 ≡ point_line (shape_of v s)
point_second v s h = sym (ap (λ (b : Bool). points_at b) (ne_eqb s 8 h)) ∙ point_is v s

-- which line
module _ (f : Shape) (p : Phase) (marked x : Bool) where
  pub prop_line : (l : LoopState) → p ≡ InPoints l → x ≡ has_props f → (marked && x) ≡ true → some 3 ≡ line_at f p marked
  prop_line l h e i = let z : (marked && has_props f) ≡ true = ap (λ (b : Bool). marked && b) (sym e) ∙ i in rw (h, z)

  pub a_point : (l : LoopState) (r : ℕ) → p ≡ InPoints l → x ≡ has_props f → (marked && x) ≡ false → r ≡ point_line f → some r ≡ line_at f p marked
  a_point l r h e i j = let z : (marked && has_props f) ≡ false = ap (λ (b : Bool). marked && b) (sym e) ∙ i in rw (h, z, j)

  pub next_prop : p ≡ InProps → x ≡ has_props f → (marked && x) ≡ true → some 3 ≡ line_at f p marked
  next_prop h e i = let z : (marked && has_props f) ≡ true = ap (λ (b : Bool). marked && b) (sym e) ∙ i in rw (h, z)

  pub no_line : p ≡ InProps → x ≡ has_props f → (marked && x) ≡ false → none ≡ line_at f p marked
  no_line h e i = let z : (marked && has_props f) ≡ false = ap (λ (b : Bool). marked && b) (sym e) ∙ i in rw (h, z)

-- lines are numbered up to 3
point_high : (f : Shape) → point_line f ≤ 3
point_high header = omega arith
point_high outline = omega arith
point_high component = omega arith
point_high keepout = omega arith
point_high listing = omega arith
point_high placements = omega arith

abbrev Low : Option ℕ → Type 0
Low none = 0 ≤ 3
Low (some n) = n ≤ 3

low_line : (f : Shape) (p : Phase) (b : Bool) → Low (line_at f p b)
low_line f AwaitTitle b = omega arith
low_line f (AwaitName t) b = omega arith
low_line f (HeaderFull t) b = omega arith
low_line f AwaitLead b = omega arith
low_line f (InPoints l) b = go (b && has_props f)
  where
    go : (x : Bool) → Low (cond x (some 3) (some (point_line f)))
    go true = omega arith
    go false = point_high f
low_line f InProps b = go (b && has_props f)
  where
    go : (x : Bool) → Low (cond x (some 3) none)
    go true = omega arith
    go false = omega arith
low_line f InList b = omega arith
low_line f AwaitPart b = omega arith
low_line f AwaitPosition b = omega arith

kind_some : (v : Rules) (s n : ℕ) → 10 * s + n ≡ kind_at v s n
unfolding kind_at
kind_some Idf3 s n = refl

-- the kind
pub none_between : (v : Rules) (st : State) (g : Stage) (b : Bool) → st ≡ Between g → 0 ≡ data_kind v st b
unfolding data_kind
none_between v st g b h = rw h

module _ (v : Rules) (st : State) (g : Stage) (s : ℕ) (p : Phase) (b : Bool) (h : st ≡ Inside g s p) where
  small : section_in st ≤ 15 → s ≤ 15
  small l = let z : section_in st ≡ s = ap section_in h in omega (arith, l, z)

  pub ten_fits : section_in st ≤ 15 → Fits w64 (10 * s)
  ten_fits l = record { fits = omega (arith, small l) }

  pub kind_fits : (n : ℕ) → section_in st ≤ 15 → some n ≡ line_at (shape_of v s) p b → Fits w64 (10 * s + n)
  kind_fits n l e = let z : n ≤ 3 = subst Low (sym e) (low_line (shape_of v s) p b) in record { fits = omega (arith, small l, z) }

  pub none_here : none ≡ line_at (shape_of v s) p b → 0 ≡ data_kind v st b
  unfolding data_kind
  none_here e = rw (h, sym e)

  pub kind_here : (n : ℕ) → some n ≡ line_at (shape_of v s) p b → 10 * s + n ≡ data_kind v st b
  unfolding data_kind
  kind_here n e = rw (h, sym e) (kind_some v s n)

-- keyword lines
opens_with : (v : Rules) (s : ℕ) → 10 * s ≡ kind_at v s 0
unfolding kind_at
opens_with Idf3 s = omega arith

closes_with : (v : Rules) (s : ℕ) → 10 * s + 9 ≡ kind_at v s 9
unfolding kind_at
closes_with Idf3 s = refl

module _ (v : Rules) (k : Keyword) (s : ℕ) where
  pub opening_fits : k ≡ Opening s → key_section k ≤ 15 → Fits w64 (10 * s)
  opening_fits h l = let z : key_section k ≡ s = ap key_section h in record { fits = omega (arith, l, z) }

  pub opening_kind : k ≡ Opening s → 10 * s ≡ key_kind v k
  unfolding key_kind
  opening_kind h = rw h (opens_with v s)

  pub closing_fits : k ≡ Closing s → key_section k ≤ 15 → Fits w64 (10 * s)
  closing_fits h l = let z : key_section k ≡ s = ap key_section h in record { fits = omega (arith, l, z) }

  pub closing_whole : k ≡ Closing s → key_section k ≤ 15 → Fits w64 (10 * s + 9)
  closing_whole h l = let z : key_section k ≡ s = ap key_section h in record { fits = omega (arith, l, z) }

  pub closing_kind : k ≡ Closing s → 10 * s + 9 ≡ key_kind v k
  unfolding key_kind
  closing_kind h = rw h (closes_with v s)

pub unknown_kind : (v : Rules) (k : Keyword) → k ≡ Unknown → 0 ≡ key_kind v k
unfolding key_kind
unknown_kind v k h = rw h

-- what each function of the code is proved by
pub ruleset line_laws = (prop_line, a_point, next_prop, no_line)

pub ruleset kind_laws = (none_between, ten_fits, kind_fits, none_here, kind_here)

pub ruleset key_laws = (opening_fits, opening_kind, closing_fits, closing_whole, closing_kind, unknown_kind)
