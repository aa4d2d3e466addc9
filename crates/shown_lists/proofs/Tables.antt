-- What the proofs ask of the tables, a clause for each version.
use Prim.Native.Nat.{ℕ, zero, suc, ◌+◌, ◌*◌, ◌/◌, ◌%◌, ◌≤◌, ◌<◌}
use mathlib.Core.Path.{◌≡◌, refl}
use mathlib.Core.Logic.{⊎_elim}
use mathlib.Core.List.{List, [], ◌∷◌}
use mathlib.Core.Option.{Option, none, some}
use mathlib.Core.Bool.{Bool, true, false, cond, not, ◌&&◌, ◌||◌, false≢true}
use native.Mathlib.Omega.{arith}
use lib.Dec.{leb, eqb}
use lib.IntN.{pos}
use lib.ListN.{length}
use borrow.Author.Tests.{eqb-true, le-leb, not-true}
use Rattle.rows.proofs.EachKind.{each_kind}
use Rattle.basics.proofs.Tables.{below_all}
use Rattle.basics.proofs.Bools.{both, either, other, not_both}
use Rattle.law.specs.Values.{number}
use Rattle.law.specs.Words.{words_of, word_at}
use Rattle.law.specs.Sections.{SectionForm as Sect, header, placements, sections, nth, section_at}
use Rattle.law.specs.Kinds.{kind_at, section_of, line_of, role_in, role_of, last_kind}
use Rattle.law.specs.declared.Role.{Role}
use Rattle.law.specs.declared.Role.TheVariants.{Lead as lead, Point as point, Part as part, Unknown as unknown}
use Rattle.law.specs.Layouts.{Layout, layout_of, types_of}
use Rattle.law.specs.Fits.{version_of, under, within, good_word, is_empty, fits, fits_all}
use Rattle.law.specs.declared.Rules.{Rules}
use Rattle.law.specs.declared.Rules.TheVariants.{Idf3}
use Rattle.law.specs.declared.FileType.{FileType}
use Rattle.law.specs.declared.FileType.TheVariants.{Library as library}
use Rattle.law.specs.declared.Words.{Words}
use Rattle.law.specs.declared.Words.TheVariants.{FileTypes, Units, Owners, Faces, Sides, Layers, Plates, Statuses}
use Rattle.law.specs.declared.Limit.TheVariants.{Length, Version}
use Rattle.law.specs.declared.FieldType.{FieldType}
use Rattle.law.specs.declared.Texts.TheVariants.{Plain}
use Rattle.law.specs.declared.FieldType.TheVariants.{Text, Number, Word}
use Rattle.law.specs.Records.{shape_by, shape_of, is_middle, names_a_component}
use Rattle.order.specs.Automaton.{is_role}
use Rattle.law.specs.Lists.{leads}
use Rattle.shown_lists.proofs.Roles.{is_some, is_section, is_header, role_known, role_by_lem}
use Rattle.shown_lists.proofs.Fields.{no_reference, length_second, origin}

pub header_first : (v : Rules) → shape_of v 1 ≡ header
unfolding shape_of sections
header_first Idf3 = refl

pub placement_shape : (v : Rules) → shape_of v 13 ≡ placements
unfolding shape_of sections
placement_shape Idf3 = refl

pub outline_leads : (v : Rules) → (leads (shape_of v 2) ≡ true) × (leads (shape_of v 3) ≡ true)
unfolding shape_of sections
outline_leads Idf3 = (refl, refl)

pub are_sections : (v : Rules) → (is_section v 1 ≡ true) × (is_section v 2 ≡ true) × (is_section v 3 ≡ true) × (is_section v 13 ≡ true)
unfolding sections
are_sections Idf3 = (refl, refl, refl, refl)

pub placement_not_middle : (v : Rules) → is_middle v 13 ≡ false
unfolding is_middle
placement_not_middle Idf3 = refl

pub header_not_middle : (v : Rules) → is_middle v 1 ≡ false
unfolding is_middle
header_not_middle Idf3 = refl

-- an element of a list stands within it
within_list : {A : Type 0} (l : List A) (n : ℕ) → is_some (nth l n) ≡ true → n < length l
within_list [] n h = absurd (false≢true h)
within_list (x ∷ l) zero h = omega arith
within_list (x ∷ l) (suc n) h = omega (arith, within_list l n h)

-- as many sections as the table has
section_number : (v : Rules) (s : ℕ) → is_section v s ≡ true → s ≤ length (sections v)
section_number v zero h = omega arith
section_number v (suc n) h = omega (arith, within_list (sections v) n h)

-- only section 1 is a header
abbrev header_once : Rules → ℕ → Bool
header_once v s = eqb s 1 || not (is_header (shape_of v s))

header_once_lem : (v : Rules) (s : ℕ) → is_section v s ≡ true → header_once v s ≡ true
unfolding shape_of sections
header_once_lem Idf3 s h = below_all 16 (header_once Idf3) refl s (omega (arith, section_number Idf3 s h))

pub no_header : (v : Rules) (s : ℕ) → eqb s 1 ≡ false → is_header (shape_of v s) ≡ false
unfolding shape_of
no_header v s e = go (section_at v s) refl
  where
    go : (o : Option Sect) → section_at v s ≡ o → is_header (shape_by o) ≡ false
    go none h = refl
    go (some d) h = let w = header_once_lem v s (rw h refl) in rw h at (not-true (is_header (shape_of v s)) (rw e at w))

-- a kind by section and line has that section, that line, and its role
pub section_at_lem : (v : Rules) (s n : ℕ) → is_section v s ≡ true → n ≤ 9 → section_of v (kind_at v s n) ≡ s
unfolding section_of kind_at sections
section_at_lem Idf3 s n i h = let l = section_number Idf3 s i in rw (le-leb (10 * s + n) last_kind (omega arith)) (omega arith)

pub line_at : (v : Rules) (s n : ℕ) → n ≤ 9 → line_of v (kind_at v s n) ≡ n
unfolding line_of kind_at
line_at Idf3 s n h = omega arith

pub role_at : (v : Rules) (s n : ℕ) → is_section v s ≡ true → n ≤ 9 → role_of v (kind_at v s n) ≡ role_in (shape_of v s) n
unfolding role_of
role_at v s n i h = rw (section_at_lem v s n i h, line_at v s n h) (role_by_lem v s n i)

-- a kind with a role is given by its section and line
pub kind_of_lem : (v : Rules) (k : ℕ) → is_role (role_of v k) unknown ≡ false → kind_at v (section_of v k) (line_of v k) ≡ k
unfolding kind_at section_of line_of
kind_of_lem Idf3 k h = go (leb k last_kind) refl (role_known Idf3 k h)
  where
    go : (b : Bool) → leb k last_kind ≡ b → is_section Idf3 (cond b (k / 10) 0) ≡ true → 10 * cond b (k / 10) 0 + k % 10 ≡ k
    go true e i = omega arith
    go false e i = absurd (false≢true i)

-- only the leading line of a component names one
pub named_lead : (v : Rules) (k : ℕ) → names_a_component v k ≡ true → role_of v k ≡ lead
unfolding names_a_component role_of section_of line_of sections
named_lead Idf3 k h = ⊎_elim (λ e. rw (eqb-true k 141 e)) (λ e. rw (eqb-true k 151 e)) (either (eqb k 141) (eqb k 151) h)

-- its first two fields are texts, geometry and part
pub component_fields : (v : Rules) (k : ℕ) → names_a_component v k ≡ true → (rest : List FieldType) × (types_of v k ≡ Text Plain ∷ Text Plain ∷ rest)
unfolding names_a_component types_of layout_of section_of line_of sections
component_fields Idf3 k h =
    (Word Units ∷ Number Length ∷ [], ⊎_elim (λ e. rw (eqb-true k 141 e)) (λ e. rw (eqb-true k 151 e)) (either (eqb k 141) (eqb k 151) h))

pub outlines_name_none : (v : Rules) → (names_a_component v (kind_at v 2 1) ≡ false) × (names_a_component v (kind_at v 3 1) ≡ false)
unfolding names_a_component kind_at
outlines_name_none Idf3 = (refl, refl)

-- every list of words has a first
pub first_word : (v : Rules) (l : Words) → good_word v l 0 ≡ true
unfolding words_of word_at is_empty
first_word Idf3 FileTypes = refl
first_word Idf3 Units = refl
first_word Idf3 Owners = refl
first_word Idf3 Faces = refl
first_word Idf3 Sides = refl
first_word Idf3 Layers = refl
first_word Idf3 Plates = refl
first_word Idf3 Statuses = refl

-- the version's number is one
pub version_fits : (v : Rules) (t : FileType) → fits (under v t) (Number Version) (number (pos (version_of v))) ≡ true
unfolding fits within
version_fits Idf3 t = refl

-- a point may stand at 0 0, and may have any length for x
abbrev pub pointable : Rules → List FieldType → Bool
pointable v ts = length_second ts && fits_all (under v library) ts origin

-- what the proofs ask of a layout, by the role of its line: there is one exactly where there is a role; only a part has a reference; a point is one
abbrev asked : Rules → Role → Option Layout → Bool
asked v role none = is_role role unknown
asked v role (some l) =
    not (is_role role unknown) && (is_role role part || no_reference l.types) && (not (is_role role point) || pointable v l.types)

-- of every kind: computed for those of the table, and past them there is neither role nor layout
pub as_asked : (v : Rules) (k : ℕ) → asked v (role_of v k) (layout_of v k) ≡ true
unfolding role_of layout_of section_of line_of sections fits fits_all within
as_asked Idf3 = each_kind (λ k. asked Idf3 (role_of Idf3 k) (layout_of Idf3 k)) refl (λ k e. rw e)

-- the layout of a kind with a role
pub record Laid (v : Rules) (k : ℕ) : Type 0 where
  pub layout : Layout
  pub is_layout : layout_of v k ≡ some layout
  pub free : is_role (role_of v k) part ≡ false → no_reference layout.types ≡ true
  pub measured : role_of v k ≡ point → pointable v layout.types ≡ true

pub laid : (v : Rules) (k : ℕ) → is_role (role_of v k) unknown ≡ false → Laid v k
laid v k h = go (layout_of v k) refl (as_asked v k)
  where
    role : Role
    role = role_of v k

    go : (o : Option Layout) → layout_of v k ≡ o → asked v role o ≡ true → Laid v k
    go none e a = absurd (not_both a h)
    go (some l) e a =
        let x = both (not (is_role role unknown) && (is_role role part || no_reference l.types)) (not (is_role role point) || pointable v l.types) a in
        let y = both (not (is_role role unknown)) (is_role role part || no_reference l.types) x.0 in
        record {
          layout = l;
          is_layout = e;
          free = λ p. other (is_role role part) (no_reference l.types) p y.1;
          measured = λ p. other (not (is_role role point)) (pointable v l.types) (rw p) x.1;
        }
