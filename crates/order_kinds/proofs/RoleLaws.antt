-- Laws of roles as the code reads them: by the line that a kind is and the shape of its section.
use Prim.Native.Nat.{ℕ, suc, ◌/◌, ◌%◌, ◌<◌, ◌≤◌}
use mathlib.Core.Path.{◌≡◌, refl, sym, ap, ◌∙◌}
use mathlib.Core.Bool.{Bool, true, false, ◌||◌, false≢true}
use native.Mathlib.Omega.{arith}
use borrow.Author.Tests.{eqb-true, eqb-false, ne_eqb, ltb-true, ltb-false, lt-leb}
use lib.Dec.{ltb, eqb}
use Rattle.basics.proofs.Tables.{all_below, below_all}
use Rattle.law.specs.Sections.{Shape, header, outline, component, keepout, listing, placements, sections}
use Rattle.law.specs.Kinds.{section_of, line_of, data_role, role_in, role_of, last_kind}
use Rattle.law.specs.declared.Role.{Role}
use Rattle.law.specs.declared.Role.TheVariants.{Opening as opening, Closing as closing, Title as title, Name as name, Lead as lead, Point as point, Prop as prop, Entry as entry, Part as part, Position as position, Unknown as unknown}
use Rattle.law.specs.declared.Rules.{Rules}
use Rattle.law.specs.declared.Rules.TheVariants.{Idf3}
use Rattle.law.specs.Records.{shape_of}
use Rattle.order.specs.Places.{has_props}
use Rattle.order.specs.Automaton.{start_of, is_role}
use Rattle.order.proofs.Roles.{is_role_true}
use Rattle.order.proofs.SectionStarts.{begins_lead, start_lead}

-- Data lines by the section

-- the shape of a section, by its number
header_at : (v : Rules) (s : ℕ) → s ≡ 1 → shape_of v s ≡ header
unfolding shape_of sections
header_at Idf3 s h = rw h

keepout_at : (v : Rules) (s : ℕ) → s ≡ 8 → shape_of v s ≡ keepout
unfolding shape_of sections
keepout_at Idf3 s h = rw h

listed_at : (v : Rules) (s : ℕ) → 11 ≤ s → s ≤ 12 → shape_of v s ≡ listing
unfolding shape_of sections
listed_at Idf3 s h i = go (eqb s 11) refl
  where
    go : (t : Bool) → eqb s 11 ≡ t → shape_of Idf3 s ≡ listing
    go true e = rw (eqb-true s 11 e)
    go false e = let z : s ≡ 12 = omega (arith, h, i, eqb-false s 11 e) in rw z

parts_at : (v : Rules) (s : ℕ) → s ≡ 13 → shape_of v s ≡ placements
unfolding shape_of sections
parts_at Idf3 s h = rw h

-- a section that begins with a leading line goes on with points
led : (f : Shape) → begins_lead (start_of f) ≡ true → lead ≡ data_role f 1
led header h = absurd (false≢true h)
led outline h = refl
led component h = refl
led keepout h = absurd (false≢true h)
led listing h = absurd (false≢true h)
led placements h = absurd (false≢true h)

pointed : (f : Shape) → begins_lead (start_of f) ≡ true → point ≡ data_role f 2
pointed header h = absurd (false≢true h)
pointed outline h = refl
pointed component h = refl
pointed keepout h = absurd (false≢true h)
pointed listing h = absurd (false≢true h)
pointed placements h = absurd (false≢true h)

module _ (v : Rules) (s : ℕ) where
  leads : (s ≡ 1 → ⊥) → (s ≡ 8 → ⊥) → (s ≡ 11 → ⊥) → (s ≡ 12 → ⊥) → (s ≡ 13 → ⊥) → begins_lead (start_of (shape_of v s)) ≡ true
  leads a b c d e = sym (ap begins_lead (start_lead v s a b c d e))

  pub first_title : s ≡ 1 → title ≡ data_role (shape_of v s) 1
  first_title h = rw (header_at v s h)

  pub first_point : s ≡ 8 → point ≡ data_role (shape_of v s) 1
  first_point h = rw (keepout_at v s h)

  pub first_entry : 11 ≤ s → s ≤ 12 → entry ≡ data_role (shape_of v s) 1
  first_entry h i = rw (listed_at v s h i)

  pub first_part : s ≡ 13 → part ≡ data_role (shape_of v s) 1
  first_part h = rw (parts_at v s h)

  pub first_lead : (s ≡ 1 → ⊥) → (s ≡ 8 → ⊥) → (s ≡ 11 → ⊥) → (s ≡ 12 → ⊥) → (s ≡ 13 → ⊥) → lead ≡ data_role (shape_of v s) 1
  first_lead a b c d e = led (shape_of v s) (leads a b c d e)

  pub second_name : s ≡ 1 → name ≡ data_role (shape_of v s) 2
  second_name h = rw (header_at v s h)

  pub second_keepout : s ≡ 8 → unknown ≡ data_role (shape_of v s) 2
  second_keepout h = rw (keepout_at v s h)

  pub second_entry : 11 ≤ s → s ≤ 12 → unknown ≡ data_role (shape_of v s) 2
  second_entry h i = rw (listed_at v s h i)

  pub second_position : s ≡ 13 → position ≡ data_role (shape_of v s) 2
  second_position h = rw (parts_at v s h)

  pub second_point : (s ≡ 1 → ⊥) → (s ≡ 8 → ⊥) → (s ≡ 11 → ⊥) → (s ≡ 12 → ⊥) → (s ≡ 13 → ⊥) → point ≡ data_role (shape_of v s) 2
  second_point a b c d e = pointed (shape_of v s) (leads a b c d e)

-- a third line is a PROP line
props_third : (f : Shape) → has_props f ≡ true → prop ≡ data_role f 3
props_third header h = absurd (false≢true h)
props_third outline h = absurd (false≢true h)
props_third component h = refl
props_third keepout h = absurd (false≢true h)
props_third listing h = absurd (false≢true h)
props_third placements h = absurd (false≢true h)

bare_third : (f : Shape) → has_props f ≡ false → unknown ≡ data_role f 3
bare_third header h = refl
bare_third outline h = refl
bare_third component h = absurd (false≢true (sym h))
bare_third keepout h = refl
bare_third listing h = refl
bare_third placements h = refl

module _ (f : Shape) (x : Bool) (e : x ≡ has_props f) where
  pub third_prop : x ≡ true → prop ≡ data_role f 3
  third_prop h = props_third f (sym e ∙ h)

  pub third_none : x ≡ false → unknown ≡ data_role f 3
  third_none h = bare_third f (sym e ∙ h)

-- and none has more
no_more : (f : Shape) (n : ℕ) → (n ≡ 1 → ⊥) → (n ≡ 2 → ⊥) → (n ≡ 3 → ⊥) → unknown ≡ data_role f n
no_more header n a b c = rw (ne_eqb n 1 a, ne_eqb n 2 b)
no_more outline n a b c = rw (ne_eqb n 1 a, ne_eqb n 2 b)
no_more component n a b c = rw (ne_eqb n 1 a, ne_eqb n 2 b, ne_eqb n 3 c)
no_more keepout n a b c = rw (ne_eqb n 1 a)
no_more listing n a b c = rw (ne_eqb n 1 a)
no_more placements n a b c = rw (ne_eqb n 1 a, ne_eqb n 2 b)

-- Kinds

-- a kind below 10 has no role, one of a section the role of its line there
abbrev role_right : Rules → ℕ → Bool
role_right v k = ltb k 10 || is_role (role_in (shape_of v (k / 10)) (k % 10)) (role_of v k)

all_right : (v : Rules) → all_below (suc last_kind) (role_right v) ≡ true
unfolding role_of section_of line_of shape_of sections
all_right Idf3 = refl

none_right : (v : Rules) → all_below 10 (λ k. is_role unknown (role_of v k)) ≡ true
unfolding role_of section_of line_of
none_right Idf3 = refl

past_last : (v : Rules) (k : ℕ) → last_kind < k → unknown ≡ role_of v k
unfolding role_of section_of
past_last Idf3 k h = rw (lt-leb k last_kind h)

pub role_none : (v : Rules) (k : ℕ) → ltb k 10 || ltb last_kind k ≡ true → unknown ≡ role_of v k
role_none v k h = go (ltb k 10) refl h
  where
    go : (b : Bool) → ltb k 10 ≡ b → b || ltb last_kind k ≡ true → unknown ≡ role_of v k
    go true e h = is_role_true unknown (role_of v k) (below_all 10 (λ n. is_role unknown (role_of v n)) (none_right v) k (ltb-true k 10 e))
    go false e h = past_last v k (ltb-true last_kind k h)

module _ (v : Rules) (k : ℕ) (h : ltb k 10 || ltb last_kind k ≡ false) where
  by_line : role_of v k ≡ role_in (shape_of v (k / 10)) (k % 10)
  by_line = go (ltb k 10) refl h
    where
      go : (b : Bool) → ltb k 10 ≡ b → b || ltb last_kind k ≡ false → role_of v k ≡ role_in (shape_of v (k / 10)) (k % 10)
      go true e i = absurd (false≢true (sym i))
      go false e i =
          let z : role_right v k ≡ is_role (role_in (shape_of v (k / 10)) (k % 10)) (role_of v k) = rw e in
          sym (is_role_true _ _ (sym z ∙ below_all (suc last_kind) (role_right v) (all_right v) k (omega (arith, ltb-false last_kind k i))))

  pub role_opens : k % 10 ≡ 0 → opening ≡ role_of v k
  role_opens e = rw (by_line, e)

  pub role_closes : k % 10 ≡ 9 → closing ≡ role_of v k
  role_closes e = rw (by_line, e)

  pub role_first : (r : Role) → k % 10 ≡ 1 → r ≡ data_role (shape_of v (k / 10)) 1 → r ≡ role_of v k
  role_first r e i = rw (by_line, e) i

  pub role_second : (r : Role) → k % 10 ≡ 2 → r ≡ data_role (shape_of v (k / 10)) 2 → r ≡ role_of v k
  role_second r e i = rw (by_line, e) i

  pub role_third : (r : Role) → k % 10 ≡ 3 → r ≡ data_role (shape_of v (k / 10)) 3 → r ≡ role_of v k
  role_third r e i = rw (by_line, e) i

  pub role_other : (k % 10 ≡ 0 → ⊥) → (k % 10 ≡ 1 → ⊥) → (k % 10 ≡ 2 → ⊥) → (k % 10 ≡ 3 → ⊥) → (k % 10 ≡ 9 → ⊥) → unknown ≡ role_of v k
  role_other a b c d e = rw (by_line, ne_eqb (k % 10) 0 a, ne_eqb (k % 10) 9 e) (no_more (shape_of v (k / 10)) (k % 10) b c d)

-- what each function of the code is proved by
pub ruleset first_roles = (first_title, first_point, first_entry, first_part, first_lead)

pub ruleset second_roles = (second_name, second_keepout, second_entry, second_position, second_point)

pub ruleset third_roles = (third_prop, third_none)

pub ruleset role_laws = (role_none, role_opens, role_first, role_second, role_third, role_closes, role_other)
