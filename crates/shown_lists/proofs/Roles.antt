-- Roles and shapes: which line of a section has which role.
use Prim.Native.Nat.{ℕ, ◌≤◌}
use mathlib.Core.Path.{◌≡◌, refl, sym, ap, ◌∙◌}
use mathlib.Core.Option.{Option, none, some}
use mathlib.Core.Bool.{Bool, true, false, cond, false≢true}
use native.Mathlib.Omega.{arith}
use lib.Dec.{eqb}
use borrow.Author.Tests.{eqb-true}
use Rattle.law.specs.Sections.{SectionForm as Sect, Shape, header, outline, component, keepout, listing, placements, section_at}
use Rattle.law.specs.Kinds.{section_of, line_of, data_role, role_in, role_by, role_of}
use Rattle.law.specs.declared.Role.{Role}
use Rattle.law.specs.declared.Role.TheVariants.{Opening as opening, Closing as closing, Title as title, Name as name, Lead as lead, Point as point, Prop as prop, Entry as entry, Part as part, Position as position, Unknown as unknown}
use Rattle.law.specs.declared.Rules.{Rules}
use Rattle.law.specs.Records.{shape_by, shape_of}
use Rattle.order.specs.Places.{point_line}
use Rattle.order.specs.Automaton.{start_of, is_role}
use Rattle.order.specs.declared.Phase.TheVariants.{AwaitLead as await_lead}
use Rattle.law.specs.Lists.{leads}

abbrev pub is_some : {A : Type 0} → Option A → Bool
is_some none = false
is_some (some x) = true

-- the number of a section of the table
abbrev pub is_section : Rules → ℕ → Bool
is_section v s = is_some (section_at v s)

abbrev pub is_header : Shape → Bool
is_header header = true
is_header outline = false
is_header component = false
is_header keepout = false
is_header listing = false
is_header placements = false

-- sections with points
abbrev pub has_points : Shape → Bool
has_points header = false
has_points outline = true
has_points component = true
has_points keepout = true
has_points listing = false
has_points placements = false

pub point_line_lem : (f : Shape) → has_points f ≡ true → (role_in f (point_line f) ≡ point) × (point_line f ≤ 9)
point_line_lem header h = absurd (false≢true h)
point_line_lem outline h = (refl, omega arith)
point_line_lem component h = (refl, omega arith)
point_line_lem keepout h = (refl, omega arith)
point_line_lem listing h = absurd (false≢true h)
point_line_lem placements h = absurd (false≢true h)

pub led_points : (f : Shape) → leads f ≡ true → has_points f ≡ true
led_points header h = absurd (false≢true h)
led_points outline h = refl
led_points component h = refl
led_points keepout h = absurd (false≢true h)
led_points listing h = absurd (false≢true h)
led_points placements h = absurd (false≢true h)

pub lead_first : (f : Shape) → leads f ≡ true → role_in f 1 ≡ lead
lead_first header h = absurd (false≢true h)
lead_first outline h = refl
lead_first component h = refl
lead_first keepout h = absurd (false≢true h)
lead_first listing h = absurd (false≢true h)
lead_first placements h = absurd (false≢true h)

pub starts_led : (f : Shape) → leads f ≡ true → start_of f ≡ await_lead
starts_led header h = absurd (false≢true h)
starts_led outline h = refl
starts_led component h = refl
starts_led keepout h = absurd (false≢true h)
starts_led listing h = absurd (false≢true h)
starts_led placements h = absurd (false≢true h)

never_prop : {A : Type 0} {a : Role} → is_role a prop ≡ false → a ≡ prop → A
never_prop {a = a} h e = absurd (false≢true (sym (rw e at h)))

-- of roles in turn, the first is not prop
not_first : (f : Shape) (x : Bool) (a b : Role) → is_role a prop ≡ false → (b ≡ prop → f ≡ component) → cond x a b ≡ prop → f ≡ component
not_first f true a b p q h = never_prop p h
not_first f false a b p q h = q h

-- only components have lines with the role prop
prop_data : (f : Shape) (n : ℕ) → data_role f n ≡ prop → f ≡ component
prop_data header n = not_first header (eqb n 1) title _ refl (not_first header (eqb n 2) name unknown refl (never_prop refl))
prop_data outline n = not_first outline (eqb n 1) lead _ refl (not_first outline (eqb n 2) point unknown refl (never_prop refl))
prop_data component n = λ h. refl
prop_data keepout n = not_first keepout (eqb n 1) point unknown refl (never_prop refl)
prop_data listing n = not_first listing (eqb n 1) entry unknown refl (never_prop refl)
prop_data placements n = not_first placements (eqb n 1) part _ refl (not_first placements (eqb n 2) position unknown refl (never_prop refl))

prop_in : (f : Shape) (n : ℕ) → role_in f n ≡ prop → f ≡ component
prop_in f n = not_first f (eqb n 0) opening _ refl (not_first f (eqb n 9) closing (data_role f n) refl (prop_data f n))

module _ (v : Rules) where
  -- a kind with a role is of a section
  pub role_known : (k : ℕ) → is_role (role_of v k) unknown ≡ false → is_section v (section_of v k) ≡ true
  unfolding role_of
  role_known k = go (section_at v (section_of v k))
    where
      go : (o : Option Sect) → is_role (role_by o (line_of v k)) unknown ≡ false → is_some o ≡ true
      go none h = sym h
      go (some d) h = refl

  -- and has the role of its line in a section of that shape
  pub role_by_lem : (s n : ℕ) → is_section v s ≡ true → role_by (section_at v s) n ≡ role_in (shape_of v s) n
  unfolding shape_of
  role_by_lem s n = go (section_at v s)
    where
      go : (o : Option Sect) → is_some o ≡ true → role_by o n ≡ role_in (shape_by o) n
      go none h = absurd (false≢true h)
      go (some d) h = refl

  pub role_is : (k : ℕ) → is_role (role_of v k) unknown ≡ false → role_of v k ≡ role_in (shape_of v (section_of v k)) (line_of v k)
  unfolding role_of
  role_is k h = role_by_lem (section_of v k) (line_of v k) (role_known k h)

  pub prop_component : (k : ℕ) → role_of v k ≡ prop → shape_of v (section_of v k) ≡ component
  prop_component k h = prop_in (shape_of v (section_of v k)) (line_of v k) (sym (role_is k (rw h refl)) ∙ h)
