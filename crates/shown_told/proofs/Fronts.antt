-- What stands before the fields of a line, by the role of its kind, and which kinds may stand at all.
use Prim.Native.Nat.{ℕ, zero, suc, ◌+◌, ◌*◌, ◌/◌, ◌≤◌}
use mathlib.Core.Path.{◌≡◌, refl, ap, ◌∙◌}
use mathlib.Core.List.{List, [], ◌∷◌}
use mathlib.Core.Option.{Option, none, some}
use mathlib.Core.Bool.{Bool, true, false, cond, not, ◌&&◌, ◌||◌, false≢true}
use native.Mathlib.Omega.{arith}
use lib.Dec.{leb, eqb, eqb-suc-zero, eqb-suc-suc}
use Rattle.rows.proofs.EachKind.{each_kind}
use Rattle.basics.proofs.Bools.{both, other, not_both, none_some}
use Rattle.law.specs.Sections.{Shape, header, outline, component, keepout, listing, placements, SectionForm, nth, sections, section_at}
use Rattle.law.specs.declared.Role.TheVariants as role
use Rattle.law.specs.Kinds.{kind_at, section_of, line_of, data_role, role_in, role_by, role_of, last_kind}
use Rattle.law.specs.declared.Role.{Role}
use Rattle.law.specs.declared.Role.TheVariants.{Opening as opening, Point as point, Unknown as unknown}
use Rattle.law.specs.Layouts.{Front, keyword, prop, plain, Layout, owner_field, open_word, close_word, front_of, data_layout, line_in, line_by, layout_of, types_of}
use Rattle.law.specs.declared.Rules.{Rules}
use Rattle.law.specs.declared.Rules.TheVariants.{Idf3}
use Rattle.law.specs.declared.FieldType.{FieldType}
use Rattle.law.specs.declared.FieldType.TheVariants.{Text, Date, Integer, Number, Word}
use Rattle.order.specs.Automaton.{is_role, stands_in, may_stand}
use Rattle.order.specs.declared.Phase.{Phase}
use Rattle.order.specs.declared.Phase.TheVariants.{AwaitTitle, AwaitName, HeaderFull, AwaitLead, InPoints, InProps, InList, AwaitPart, AwaitPosition}
use Rattle.order.specs.declared.State.{State}
use Rattle.order.specs.declared.State.TheVariants.{Between as between, Inside as inside}
use Rattle.order.proofs.Roles.{is_role_true}
use Rattle.shown_lists.proofs.Roles.{is_section, role_known}

-- a keyword opens and closes a section, PROP begins a property, nothing stands before other data
abbrev pub front_at : Role → ℕ → Front
front_at role.Opening s = keyword (open_word s)
front_at role.Closing s = keyword (close_word s)
front_at role.Title s = plain
front_at role.Name s = plain
front_at role.Lead s = plain
front_at role.Point s = plain
front_at role.Prop s = prop
front_at role.Entry s = plain
front_at role.Part s = plain
front_at role.Position s = plain
front_at role.Unknown s = plain

-- a section's data lines have no role that opens or closes it
abbrev pub is_data : Role → Bool
is_data a = not (is_role a role.Opening) && not (is_role a role.Closing)

data_front : (a : Role) (s : ℕ) → is_data a ≡ true → front_of a ≡ front_at a s
data_front role.Opening s h = absurd (false≢true h)
data_front role.Closing s h = absurd (false≢true h)
data_front role.Title s h = refl
data_front role.Name s h = refl
data_front role.Lead s h = refl
data_front role.Point s h = refl
data_front role.Prop s h = refl
data_front role.Entry s h = refl
data_front role.Part s h = refl
data_front role.Position s h = refl
data_front role.Unknown s h = refl

-- of roles in turn, each is one of data
pick_data : (b : Bool) (x y : Role) → is_data x ≡ true → is_data y ≡ true → is_data (cond b x y) ≡ true
pick_data true x y p q = p
pick_data false x y p q = q

role_data : (f : Shape) (n : ℕ) → is_data (data_role f n) ≡ true
role_data header n = pick_data (eqb n 1) role.Title _ refl (pick_data (eqb n 2) role.Name unknown refl refl)
role_data outline n = pick_data (eqb n 1) role.Lead _ refl (pick_data (eqb n 2) role.Point unknown refl refl)
role_data component n = pick_data (eqb n 1) role.Lead _ refl (pick_data (eqb n 2) role.Point _ refl (pick_data (eqb n 3) role.Prop unknown refl refl))
role_data keepout n = pick_data (eqb n 1) role.Point unknown refl refl
role_data listing n = pick_data (eqb n 1) role.Entry unknown refl refl
role_data placements n = pick_data (eqb n 1) role.Part _ refl (pick_data (eqb n 2) role.Position unknown refl refl)

front_data : (a : Role) (s : ℕ) (o : Option (List FieldType)) (l : Layout) → is_data a ≡ true → data_layout a o ≡ some l → l.front ≡ front_at a s
front_data a s none l h e = absurd (none_some e)
front_data a s (some ts) l h e =
    let z : l ≡ record { front = front_of a; types = ts } = cc in
    ap (λ (x : Layout). x.front) z ∙ data_front a s h

role_suc : (f : Shape) (n : ℕ) → role_in f (suc n) ≡ cond (eqb n 8) role.Closing (data_role f (suc n))
role_suc f n = rw (eqb-suc-zero n, eqb-suc-suc n 8)

front_in : (n s : ℕ) (d : SectionForm) (l : Layout) → line_in n s d ≡ some l → l.front ≡ front_at (role_in d.shape n) s
front_in zero s d l e =
    let z : l ≡ record { front = keyword (open_word s); types = owner_field d.owned } = cc in
    ap (λ (x : Layout). x.front) z
front_in (suc n) s d l e = go (eqb n 8) (role_in d.shape (suc n)) (role_suc d.shape n) e
  where
    go : (b : Bool) (a : Role) → a ≡ cond b role.Closing (data_role d.shape (suc n))
        → cond b (some (record { front = keyword (close_word s); types = [] })) (data_layout a (nth d.lines n)) ≡ some l → l.front ≡ front_at a s
    go true a i e =
        let z : l ≡ record { front = keyword (close_word s); types = [] } = cc in
        rw (z, i)
    go false a i e = front_data a s (nth d.lines n) l (rw i (role_data d.shape (suc n))) e

module _ (v : Rules) where
  -- the front of a layout is that of its kind's role
  pub front_is : (k : ℕ) (l : Layout) → layout_of v k ≡ some l → l.front ≡ front_at (role_of v k) (section_of v k)
  unfolding layout_of role_of
  front_is k l = go (section_at v (section_of v k))
    where
      go : (o : Option SectionForm) → line_by (line_of v k) (section_of v k) o ≡ some l → l.front ≡ front_at (role_by o (line_of v k)) (section_of v k)
      go none e = absurd (none_some e)
      go (some d) e = front_in (line_of v k) (section_of v k) d l e

  -- and its types are those of the kind
  pub types_laid : (k : ℕ) (l : Layout) → layout_of v k ≡ some l → types_of v k ≡ l.types
  unfolding types_of
  types_laid k l e = rw e

  -- no line without a role may stand anywhere
  stands_not : (p : Phase) → stands_in p unknown ≡ false
  stands_not AwaitTitle = refl
  stands_not (AwaitName t) = refl
  stands_not (HeaderFull t) = refl
  stands_not AwaitLead = refl
  stands_not (InPoints l) = refl
  stands_not InProps = refl
  stands_not InList = refl
  stands_not AwaitPart = refl
  stands_not AwaitPosition = refl

  pub stands_known : (st : State) (k : ℕ) → may_stand v st k ≡ true → is_role (role_of v k) unknown ≡ false
  unfolding may_stand
  stands_known (between g) k h = let e = is_role_true (role_of v k) opening (both (is_role (role_of v k) opening) _ h).0 in rw e
  stands_known (inside g s p) k h = go (is_role (role_of v k) unknown) refl
    where
      go : (b : Bool) → is_role (role_of v k) unknown ≡ b → b ≡ false
      go true e =
          let x = (both (eqb (section_of v k) s) _ h).1 in
          absurd (not_both (rw (is_role_true (role_of v k) unknown e) at x) (stands_not p))
      go false e = refl

-- kind 0 has no role
pub zero_unknown : (v : Rules) → role_of v 0 ≡ unknown
unfolding role_of section_of
zero_unknown Idf3 = refl

-- a kind with a role is of the section that it was made with
made_section : (v : Rules) (s n : ℕ) → n ≤ 9 → is_section v (section_of v (kind_at v s n)) ≡ true → is_section v s ≡ true
unfolding kind_at section_of
made_section Idf3 s n h = go (leb (10 * s + n) last_kind)
  where
    go : (b : Bool) → is_section Idf3 (cond b ((10 * s + n) / 10) 0) ≡ true → is_section Idf3 s ≡ true
    go true i = let e : (10 * s + n) / 10 ≡ s = omega arith in rw e at i
    go false i = absurd (false≢true i)

pub kind_section : (v : Rules) (s n : ℕ) → n ≤ 9 → is_role (role_of v (kind_at v s n)) unknown ≡ false → is_section v s ≡ true
kind_section v s n h k = made_section v s n h (role_known v (kind_at v s n) k)

-- a point begins with its label, an integer
abbrev pub integer_first : List FieldType → Bool
integer_first [] = false
integer_first (Text k ∷ ts) = false
integer_first (Date ∷ ts) = false
integer_first (Integer ∷ ts) = true
integer_first (Number l ∷ ts) = false
integer_first (Word l ∷ ts) = false

abbrev labelled : Rules → ℕ → Bool
labelled v k = not (is_role (role_of v k) point) || integer_first (types_of v k)

all_labelled : (v : Rules) (k : ℕ) → labelled v k ≡ true
unfolding role_of types_of layout_of section_of line_of sections
all_labelled Idf3 = each_kind (labelled Idf3) refl (λ k e. rw e)

pub point_labelled : (v : Rules) (k : ℕ) → role_of v k ≡ point → integer_first (types_of v k) ≡ true
point_labelled v k e = other (not (is_role (role_of v k) point)) _ (rw e) (all_labelled v k)
